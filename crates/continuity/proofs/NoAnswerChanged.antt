-- W-203: no answer changed. `counted_before` is step 4 in the form that it had until then, with wrong lengths last; for every table byte and header
-- it says what `counted_of` says. Assumes nothing.
use mathlib.Core.Path.{◌≡◌, refl, ap, fun_ext}
use mathlib.Core.Bool.{Bool, true, false, cond, not, ◌&&◌, ◌||◌}
use Prim.Native.Nat.{ℕ, ◌+◌, ◌%◌}
use lib.Dec.{leb, eqb}
use Rattle.header.specs.declared.Header.{Header}
use Rattle.continuity.specs.declared.Counted.{Counted}
use Rattle.continuity.specs.Continuity.{is_unseen, repeated_once, control10, control11, is_next, is_last, counted_of}

-- THE FORM BEFORE
abbrev begun : ℕ → Counted
begun n = record { byte = 16 + n; event = false; keep = false; take = true }

abbrev unchanged : ℕ → Counted
unchanged b = record { byte = b; event = false; keep = true; take = false }

abbrev other_empty : ℕ → Counted
other_empty n = record { byte = 16 + n; event = true; keep = true; take = false }

abbrev followed : ℕ → Counted
followed n = record { byte = 16 + n; event = false; keep = true; take = true }

abbrev repeated : ℕ → Counted
repeated n = record { byte = 48 + n; event = false; keep = true; take = false }

abbrev repeated_again : ℕ → Counted
repeated_again b = record { byte = b; event = true; keep = true; take = false }

abbrev broken : ℕ → Counted
broken n = record { byte = 16 + n; event = true; keep = false; take = true }

abbrev counter_case_before : ℕ → ℕ → ℕ → Bool → Counted
counter_case_before b control n discontinuity =
    cond (discontinuity || eqb b 0) (begun n)
    (cond (eqb control 2) (cond (eqb n (b % 16)) (unchanged b) (other_empty n))
    (cond (eqb n ((b % 16 + 1) % 16)) (followed n)
    (cond (eqb n (b % 16)) (cond (leb 48 b) (repeated_again b) (repeated n))
    (broken n))))

abbrev with_length : ℕ → Bool → Counted → Counted
with_length control right j =
    record { byte = j.byte; event = j.event; keep = j.keep && not (eqb control 3 && not right); take = j.take && right && not (eqb control 2) }

abbrev pub counted_before : ℕ → Header → Counted
counted_before b h = with_length h.control h.right (counter_case_before b h.control h.counter h.discontinuity)

-- BOTH ARE THE SAME
-- a wrong length under control 11 drops the half-built section, said before the cases or behind them
stays : (right eleven : Bool) → (right || not eleven) ≡ not (eleven && not right)
stays true true = refl
stays true false = refl
stays false true = refl
stays false false = refl

abbrev leave : ℕ → Bool → Bool → Bool → Counted
leave byte event keep take = record { byte = byte; event = event; keep = keep; take = take }

-- each form, over the answers to what it asks
module _ (b n : ℕ) (right eleven : Bool) where
  abbrev after : Bool → Bool → Bool → Bool → Bool → Counted
  after begins ten next equal again =
      cond begins (leave (16 + n) false false (right && not ten))
      (cond (ten && equal) (leave b false (right || not eleven) false)
      (cond ten (leave (16 + n) true (right || not eleven) false)
      (cond next (leave (16 + n) false (right || not eleven) (right && not ten))
      (cond (equal && not again) (leave (48 + n) false (right || not eleven) false)
      (cond equal (leave b true (right || not eleven) false)
      (leave (16 + n) true false (right && not ten)))))))

  abbrev length_last : Bool → Counted → Counted
  length_last ten j = record { byte = j.byte; event = j.event; keep = j.keep && not (eleven && not right); take = j.take && right && not ten }

  abbrev before : Bool → Bool → Bool → Bool → Bool → Counted
  before begins ten next equal again =
      length_last ten
      (cond begins (begun n)
      (cond ten (cond equal (unchanged b) (other_empty n))
      (cond next (followed n)
      (cond equal (cond again (repeated_again b) (repeated n))
      (broken n)))))

  same : (begins ten next equal again : Bool) → after begins ten next equal again ≡ before begins ten next equal again
  same true ten next equal again = refl
  same false true next true again = ap (λ (k : Bool). leave b false k false) (stays right eleven)
  same false true next false again = ap (λ (k : Bool). leave (16 + n) true k false) (stays right eleven)
  same false false true equal again = ap (λ (k : Bool). leave (16 + n) false k (right && true)) (stays right eleven)
  same false false false true false = ap (λ (k : Bool). leave (48 + n) false k false) (stays right eleven)
  same false false false true true = ap (λ (k : Bool). leave b true k false) (stays right eleven)
  same false false false false again = refl

pub no_answer_changed : (b : ℕ) (h : Header) → counted_of b h ≡ counted_before b h
unfolding counted_of
no_answer_changed b h =
    same b h.counter h.right (control11 h) (h.discontinuity || is_unseen b) (control10 h) (is_next b h) (is_last b h) (repeated_once b)

-- so they are one function, and whatever is said by the one is said by the other
pub one_function : counted_of ≡ counted_before
one_function = fun_ext (λ (b : ℕ). fun_ext (no_answer_changed b))
