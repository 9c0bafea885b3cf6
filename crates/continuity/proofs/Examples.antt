-- Step 4 case by case, with all that it leaves: examples that a wrong definition would break. Assumes nothing.
use mathlib.Core.Path.{◌≡◌, refl}
use mathlib.Core.Bool.{Bool, true, false}
use mathlib.Core.List.{List, [], ◌∷◌, map}
use Prim.Native.Nat.{ℕ}
use Rattle.header.specs.declared.Header.{Header}
use Rattle.header.specs.Header.{header_of}
use Rattle.continuity.specs.declared.Counted.{Counted}
use Rattle.continuity.specs.Continuity.{known_byte, counted_of}

abbrev headed : ℕ → Bool → Bool → ℕ → Header
headed control right discontinuity counter =
    record {
      error = false;
      start = false;
      pid = 0x100;
      scrambled = false;
      control = control;
      counter = counter;
      right = right;
      discontinuity = discontinuity;
      payload = 188;
    }

-- step 4 on the table byte b under controls 01, 10 and 11, with the packet's counter
abbrev under01 : ℕ → ℕ → Counted
under01 b n = counted_of b (headed 1 true false n)

abbrev under10 : ℕ → ℕ → Counted
under10 b n = counted_of b (headed 2 true false n)

abbrev under11 : ℕ → ℕ → Counted
under11 b n = counted_of b (headed 3 true false n)

-- with a wrong length
abbrev wrong10 : ℕ → ℕ → Counted
wrong10 b n = counted_of b (headed 2 false false n)

abbrev wrong11 : ℕ → ℕ → Counted
wrong11 b n = counted_of b (headed 3 false false n)

-- with a set discontinuity indicator
abbrev indicated10 : ℕ → ℕ → Counted
indicated10 b n = counted_of b (headed 2 true true n)

abbrev indicated11 : ℕ → ℕ → Counted
indicated11 b n = counted_of b (headed 3 true true n)

-- the next table byte, an event, the half-built section kept, the payload taken
abbrev left : ℕ → Bool → Bool → Bool → Counted
left byte event keep take = record { byte = byte; event = event; keep = keep; take = take }

pub record Table : Type 0 where
  -- the table byte: 0 unseen, 16+c last counter c, 48+c the same and repeated once; no other
  pub table_bytes : map known_byte (0 ∷ 1 ∷ 15 ∷ 16 ∷ 31 ∷ 32 ∷ 47 ∷ 48 ∷ 63 ∷ 64 ∷ 255 ∷ [])
      ≡ true ∷ false ∷ false ∷ true ∷ true ∷ false ∷ false ∷ true ∷ true ∷ false ∷ false ∷ []
  -- an unseen PID: byte 16+counter, no event, half-built section dropped, payload taken; under control 01
  pub unseen : map (under01 0) (0 ∷ 7 ∷ 15 ∷ []) ≡ left 16 false false true ∷ left 23 false false true ∷ left 31 false false true ∷ []
  -- and under control 11
  pub unseen_under_11 : under11 0 7 ≡ left 23 false false true
  -- K3: under control 10 too, and there is no payload to take
  pub unseen_under_10 : map (under10 0) (0 ∷ 7 ∷ []) ≡ left 16 false false false ∷ left 23 false false false ∷ []
  -- K3: and with a wrong length
  pub unseen_with_a_wrong_length : wrong10 0 7 ∷ wrong11 0 7 ∷ [] ≡ left 23 false false false ∷ left 23 false false false ∷ []
  -- a set discontinuity indicator: the same, whatever the counter: next, last (K2), repeated before, any other
  pub indicator : indicated11 19 4 ∷ indicated11 19 3 ∷ indicated11 51 3 ∷ indicated11 19 9 ∷ [] ≡ left 20 false false true ∷ left 19 false false true ∷ left 19 false false true ∷ left 25 false false true ∷ []
  -- K2: under control 10 the half-built section is dropped, and there is no payload
  pub indicator_under_10 : indicated10 19 3 ∷ indicated10 19 9 ∷ [] ≡ left 19 false false false ∷ left 25 false false false ∷ []
  -- control 10: an equal counter changes nothing
  pub equal_under_10 : under10 19 3 ∷ under10 16 0 ∷ under10 31 15 ∷ [] ≡ left 19 false true false ∷ left 16 false true false ∷ left 31 false true false ∷ []
  -- K4: nor the byte 48+c
  pub equal_under_10_after_a_repeat : under10 51 3 ∷ under10 48 0 ∷ under10 63 15 ∷ [] ≡ left 51 false true false ∷ left 48 false true false ∷ left 63 false true false ∷ []
  -- control 10: another gives 0x000E and 16+counter, half-built section kept; K4: the next counter is another
  pub another_under_10 : under10 19 4 ∷ under10 19 9 ∷ under10 51 4 ∷ under10 31 0 ∷ [] ≡ left 20 true true false ∷ left 25 true true false ∷ left 20 true true false ∷ left 16 true true false ∷ []
  -- controls 01 and 11: counter c+1 mod 16 gives 16+counter, payload taken
  pub next_counter : under01 19 4 ∷ under11 19 4 ∷ under01 16 1 ∷ under01 30 15 ∷ [] ≡ left 20 false true true ∷ left 20 false true true ∷ left 17 false true true ∷ left 31 false true true ∷ []
  -- 15 is followed by 0
  pub next_after_15 : under01 31 0 ∷ under11 31 0 ∷ [] ≡ left 16 false true true ∷ left 16 false true true ∷ []
  -- the next counter after a repeat: 16+counter, payload taken
  pub next_after_a_repeat : under01 51 4 ∷ under01 63 0 ∷ [] ≡ left 20 false true true ∷ left 16 false true true ∷ []
  -- counter c once is a repeat: 48+c, payload skipped, no event
  pub once : under01 19 3 ∷ under11 19 3 ∷ under01 16 0 ∷ under01 31 15 ∷ [] ≡ left 51 false true false ∷ left 51 false true false ∷ left 48 false true false ∷ left 63 false true false ∷ []
  -- counter c again: 0x000E, byte stays, payload skipped; K5: the half-built section is kept
  pub again : under01 51 3 ∷ under11 51 3 ∷ under01 48 0 ∷ under01 63 15 ∷ [] ≡ left 51 true true false ∷ left 51 true true false ∷ left 48 true true false ∷ left 63 true true false ∷ []
  -- any other: 0x000E, 16+counter, half-built section dropped, payload taken
  pub any_other : under01 19 5 ∷ under11 19 5 ∷ under01 19 2 ∷ under01 31 1 ∷ under01 16 15 ∷ [] ≡ left 21 true false true ∷ left 21 true false true ∷ left 18 true false true ∷ left 17 true false true ∷ left 31 true false true ∷ []
  -- any other counter after a repeat: the same
  pub any_other_after_a_repeat : under01 51 5 ∷ under01 51 2 ∷ [] ≡ left 21 true false true ∷ left 18 true false true ∷ []
  -- control 11 with a wrong length: no payload to take, half-built section dropped; the counter is judged as ever: the next
  pub wrong_length_next : wrong11 19 4 ≡ left 20 false false false
  -- K1: once
  pub wrong_length_once : wrong11 19 3 ≡ left 51 false false false
  -- K1: again
  pub wrong_length_again : wrong11 51 3 ≡ left 51 true false false
  -- any other
  pub wrong_length_any_other : wrong11 19 5 ≡ left 21 true false false
  -- control 10 with a wrong length keeps the half-built section: an equal counter, and another
  pub wrong_length_under_10 : wrong10 19 3 ∷ wrong10 51 3 ∷ wrong10 19 4 ∷ wrong10 19 9 ∷ [] ≡ left 19 false true false ∷ left 51 false true false ∷ left 20 true true false ∷ left 25 true true false ∷ []

pub table : Table
unfolding counted_of
table =
    record {
      table_bytes = refl;
      unseen = refl;
      unseen_under_11 = refl;
      unseen_under_10 = refl;
      unseen_with_a_wrong_length = refl;
      indicator = refl;
      indicator_under_10 = refl;
      equal_under_10 = refl;
      equal_under_10_after_a_repeat = refl;
      another_under_10 = refl;
      next_counter = refl;
      next_after_15 = refl;
      next_after_a_repeat = refl;
      once = refl;
      again = refl;
      any_other = refl;
      any_other_after_a_repeat = refl;
      wrong_length_next = refl;
      wrong_length_once = refl;
      wrong_length_again = refl;
      wrong_length_any_other = refl;
      wrong_length_under_10 = refl;
    }

-- The worked table of docs/TRAINING.md: packets one after the other on an unseen PID, each by its fourth byte (control and counter) and, where it has an
-- adaptation field, the fifth (its length) and the sixth (its flags).
abbrev packet : List ℕ → List ℕ
packet bytes = 0x47 ∷ 0x01 ∷ 0x00 ∷ bytes

abbrev onwards : ℕ → List (List ℕ) → List Counted
onwards b [] = []
onwards b (x ∷ xs) = counted_of b (header_of (packet x)) ∷ onwards (counted_of b (header_of (packet x))).byte xs

abbrev from_unseen : List (List ℕ) → List Counted
from_unseen = onwards 0

pub record Worked : Type 0 where
  pub counters_15_0 : from_unseen ((0x1f ∷ []) ∷ (0x10 ∷ []) ∷ []) ≡ left 31 false false true ∷ left 16 false true true ∷ []
  pub counters_3_3 : from_unseen ((0x13 ∷ []) ∷ (0x13 ∷ []) ∷ []) ≡ left 19 false false true ∷ left 51 false true false ∷ []
  pub counters_3_3_3 : from_unseen ((0x13 ∷ []) ∷ (0x13 ∷ []) ∷ (0x13 ∷ []) ∷ []) ≡ left 19 false false true ∷ left 51 false true false ∷ left 51 true true false ∷ []
  pub counters_3_3_4 : from_unseen ((0x13 ∷ []) ∷ (0x13 ∷ []) ∷ (0x14 ∷ []) ∷ []) ≡ left 19 false false true ∷ left 51 false true false ∷ left 20 false true true ∷ []
  pub counters_3_5 : from_unseen ((0x13 ∷ []) ∷ (0x15 ∷ []) ∷ []) ≡ left 19 false false true ∷ left 21 true false true ∷ []
  pub counters_3_2 : from_unseen ((0x13 ∷ []) ∷ (0x12 ∷ []) ∷ []) ≡ left 19 false false true ∷ left 18 true false true ∷ []
  pub jump_with_the_indicator : from_unseen ((0x13 ∷ []) ∷ (0x39 ∷ 0x01 ∷ 0x80 ∷ []) ∷ []) ≡ left 19 false false true ∷ left 25 false false true ∷ []
  pub same_with_the_indicator : from_unseen ((0x13 ∷ []) ∷ (0x33 ∷ 0x01 ∷ 0x80 ∷ []) ∷ []) ≡ left 19 false false true ∷ left 19 false false true ∷ []
  pub jump_with_length_0 : from_unseen ((0x13 ∷ []) ∷ (0x39 ∷ 0x00 ∷ 0x80 ∷ []) ∷ []) ≡ left 19 false false true ∷ left 25 true false true ∷ []
  pub control_10_equal : from_unseen ((0x13 ∷ []) ∷ (0x23 ∷ 0xb7 ∷ 0x00 ∷ []) ∷ (0x14 ∷ []) ∷ []) ≡ left 19 false false true ∷ left 19 false true false ∷ left 20 false true true ∷ []
  pub control_10_another : from_unseen ((0x13 ∷ []) ∷ (0x24 ∷ 0xb7 ∷ 0x00 ∷ []) ∷ (0x15 ∷ []) ∷ []) ≡ left 19 false false true ∷ left 20 true true false ∷ left 21 false true true ∷ []
  pub control_10_first : from_unseen ((0x23 ∷ 0xb7 ∷ 0x00 ∷ []) ∷ (0x13 ∷ []) ∷ []) ≡ left 19 false false false ∷ left 51 false true false ∷ []
  pub wrong_length_under_11_next : from_unseen ((0x13 ∷ []) ∷ (0x34 ∷ 0xb7 ∷ 0x00 ∷ []) ∷ []) ≡ left 19 false false true ∷ left 20 false false false ∷ []
  pub wrong_length_under_11_once : from_unseen ((0x13 ∷ []) ∷ (0x33 ∷ 0xb7 ∷ 0x00 ∷ []) ∷ []) ≡ left 19 false false true ∷ left 51 false false false ∷ []
  pub wrong_length_under_11_jump : from_unseen ((0x13 ∷ []) ∷ (0x39 ∷ 0xb7 ∷ 0x80 ∷ []) ∷ []) ≡ left 19 false false true ∷ left 25 true false false ∷ []
  pub wrong_length_under_10_equal : from_unseen ((0x13 ∷ []) ∷ (0x23 ∷ 0xb6 ∷ 0x00 ∷ []) ∷ []) ≡ left 19 false false true ∷ left 19 false true false ∷ []
  pub wrong_length_under_10_jump : from_unseen ((0x13 ∷ []) ∷ (0x29 ∷ 0xb6 ∷ 0x80 ∷ []) ∷ []) ≡ left 19 false false true ∷ left 25 true true false ∷ []

pub worked : Worked
unfolding counted_of header_of
worked =
    record {
      counters_15_0 = refl;
      counters_3_3 = refl;
      counters_3_3_3 = refl;
      counters_3_3_4 = refl;
      counters_3_5 = refl;
      counters_3_2 = refl;
      jump_with_the_indicator = refl;
      same_with_the_indicator = refl;
      jump_with_length_0 = refl;
      control_10_equal = refl;
      control_10_another = refl;
      control_10_first = refl;
      wrong_length_under_11_next = refl;
      wrong_length_under_11_once = refl;
      wrong_length_under_11_jump = refl;
      wrong_length_under_10_equal = refl;
      wrong_length_under_10_jump = refl;
    }
