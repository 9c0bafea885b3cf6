-- How far a section is, as its bytes come. Assumes nothing.
use mathlib.Core.Path.{◌≡◌, refl, sym, ap, ◌∙◌}
use mathlib.Core.Bool.{Bool, true, false, cond, true≢false}
use mathlib.Core.List.{List, ◌++◌}
use Prim.Native.Nat.{ℕ, ◌+◌, ◌≤◌, ◌<◌}
use native.Mathlib.Omega.{arith}
use lib.Dec.{leb, ltb}
use lib.ListN.{length, drop, length-append, get_or-append, length-take, length-drop}
use borrow.Author.Tests.{lt-ltb, le-ltb, ne_eqb, ltb-true, ltb-false, leb-true}
use Rattle.lists.specs.Places.{part}
use Rattle.lists.proofs.Tests.{Order, below, from, order}
use Rattle.lists.proofs.Table.{passes_at}
use Rattle.sections.specs.declared.Stage.TheVariants.{More, Bad, Whole}
use Rattle.sections.specs.Rooms.{memory_size, room_count, room_of_place, room_base, greatest_length}
use Rattle.sections.specs.Section.{section_length, length_bad, stage_of, is_more}

pub stage_few : (top : ℕ) (h : List ℕ) → length h < 3 → stage_of top h ≡ More
unfolding stage_of
stage_few top h l = rw (lt-ltb (length h) 3 l)

-- WHAT AN UNFINISHED SECTION of three bytes or more says of its length
pub record Known (top : ℕ) (h : List ℕ) : Type 0 where
  pub good : length_bad top h ≡ false
  pub most : section_length h ≤ top
  pub under : length h < section_length h + 3

pub more_known : (top : ℕ) (h : List ℕ) → 3 ≤ length h → is_more (stage_of top h) ≡ true → Known top h
unfolding stage_of
more_known top h g e =
    go (ltb top (section_length h)) refl (length_bad top h) refl (ltb (length h) (section_length h + 3)) refl
    (ap (λ b. is_more (cond b More (cond (length_bad top h) Bad (cond (ltb (length h) (section_length h + 3)) More Whole)))) (sym (le-ltb (length h) 3 g)) ∙ e)
  where
    bad_if_long : ltb top (section_length h) ≡ true → length_bad top h ≡ true
    bad_if_long e = rw e

    go : (long : Bool) → ltb top (section_length h) ≡ long → (bad : Bool) → length_bad top h ≡ bad
        → (under : Bool) → ltb (length h) (section_length h + 3) ≡ under → is_more (cond bad Bad (cond under More Whole)) ≡ true → Known top h
    go long el true eb under eu z = absurd (true≢false (sym z))
    go true el false eb under eu z = absurd (true≢false (sym (bad_if_long el) ∙ eb))
    go false el false eb false eu z = absurd (true≢false (sym z))
    go false el false eb true eu z =
        record { good = eb; most = ltb-false top (section_length h) el; under = ltb-true (length h) (section_length h + 3) eu }

-- and what more bytes make of it
pub stage_grown : (top : ℕ) (h s : List ℕ) → 3 ≤ length h → is_more (stage_of top h) ≡ true
    → stage_of top (h ++ s) ≡ cond (ltb (length h + length s) (section_length h + 3)) More Whole
unfolding stage_of
stage_grown top h s g e =
    rw (
      length-append h s,
      le-ltb (length h + length s) 3 (omega arith),
      get_or-append h s 0 0 (omega arith),
      get_or-append h s 0 1 (omega arith),
      get_or-append h s 0 2 (omega arith),
      (more_known top h g e).good,
    )

-- an unfinished section is below the room's end
pub more_short : (top : ℕ) (h : List ℕ) → is_more (stage_of top h) ≡ true → length h < top + 3
more_short top h e = go (order (length h) 3)
  where
    go : Order (length h) 3 → length h < top + 3
    go (below l) = omega arith
    go (from l) =
        let k = more_known top h l e in omega (arith, k.most, k.under)

-- ROOMS lie within section memory
pub room_fits : (r : ℕ) → r < room_count → room_base r + greatest_length r + 3 ≤ memory_size
room_fits r h = leb-true (room_base r + greatest_length r + 3) memory_size (passes_at (λ r. leb (room_base r + greatest_length r + 3) memory_size) room_count refl r h)

pub place_fits : (k : ℕ) → k < 16 → room_base (room_of_place k) + 1024 ≤ memory_size
place_fits k h =
    let top : greatest_length (room_of_place k) ≡ 1021 = rw (ne_eqb (room_of_place k) 3 (λ e. omega arith)) in
    omega (arith, top, room_fits (room_of_place k) (omega arith))

-- and an unfinished section within its room
pub half_short : (m : List ℕ) (base top n : ℕ) → base + top + 3 ≤ length m → is_more (stage_of top (part m base n)) ≡ true → n < top + 3
unfolding part
half_short m base top n h e =
    omega (arith, more_short top (part m base n) e, length-take n (drop base m), length-drop base m)
