-- How many sections a payload finishes: the one that went on, and then one for every three bytes. Assumes nothing.
use mathlib.Core.Path.{◌≡◌, refl, sym, ap, ◌∙◌}
use mathlib.Core.Bool.{Bool, true, false, cond, ◌&&◌, true≢false}
use mathlib.Core.List.{List, [], ◌∷◌}
use Prim.Native.Nat.{ℕ, ◌+◌, ◌*◌, ◌≤◌}
use native.Mathlib.Omega.{arith}
use lib.Dec.{ltb, eqb}
use lib.ListN.{length, take, drop, length-append, length-take, length-drop}
use Rattle.lists.specs.Places.{part}
use borrow.Author.Tests.{eq-eqb}
use Rattle.lists.proofs.Tests.{cond_either, Order, below, from, order}
use Rattle.sections.specs.declared.Stage.{Stage}
use Rattle.sections.specs.declared.Stage.TheVariants.{More, Bad, Whole}
use Rattle.sections.specs.Rooms.{room_base, greatest_length, half_built}
use Rattle.sections.specs.Section.{stage_of, is_more}
use Rattle.sections.specs.Building.{Stretch, going_on, following, bad_length, whole, Job, laid_byte, dropped, ignoring, ended, settled, fed_by, fed, pointer_of, begun_job, built}
use Rattle.sections.proofs.Stages.{stage_few}
use Rattle.sections.proofs.Jobs.{byte_either}

-- BYTES THAT ARE IGNORED: where no half-built section goes on, and where the rest of the payload is
pub fed_none : (r : ℕ) (j : Job) (s : List ℕ) → j.half ≡ 0 → fed going_on r j s ≡ j
unfolding fed
fed_none r j [] e = refl
fed_none r j (b ∷ s) e = ap (λ t. fed going_on r (cond t j (settled r (laid_byte r b j))) s) (eq-eqb j.half 0 e) ∙ fed_none r j s e

pub fed_ignored : (r : ℕ) (j : Job) (s : List ℕ) → j.ignored ≡ true → fed following r j s ≡ j
unfolding fed
fed_ignored r j [] e = refl
fed_ignored r j (b ∷ s) e =
    ap (λ t. fed following r (cond t j (cond (eqb j.half 0 && eqb b 0xFF) (ignoring j) (settled r (laid_byte r b j)))) s) e ∙ fed_ignored r j s e

-- A SECTION AT ITS END has three bytes or more
pub ended_three : (top : ℕ) (h : List ℕ) → is_more (stage_of top h) ≡ false → 3 ≤ length h
ended_three top h e = go (order (length h) 3)
  where
    go : Order (length h) 3 → 3 ≤ length h
    go (below l) = absurd (true≢false (sym (ap is_more (stage_few top h l)) ∙ e))
    go (from l) = l

pub half_three : (m : List ℕ) (r n : ℕ) → is_more (stage_of (greatest_length r) (half_built m r n)) ≡ false → 3 ≤ n
unfolding part
half_three m r n e = omega (arith, ended_three (greatest_length r) (half_built m r n) e, length-take n (drop (room_base r) m))

-- so three for each finished section and the bytes at hand are at most the bytes fed
abbrev weight : Job → ℕ
weight j = 3 * length j.finished + j.half

weight_ended : (g : Stage) (s : List ℕ) (j : Job) → (is_more g ≡ false → 3 ≤ j.half) → weight (ended g s j) ≤ weight j
weight_ended More s j h = omega arith
weight_ended Bad s j h = omega (arith, h refl, length-append j.finished (bad_length ∷ []))
weight_ended Whole s j h = omega (arith, h refl, length-append j.finished (whole s ∷ []))

weight_settled : (r b : ℕ) (j : Job) → weight (settled r (laid_byte r b j)) ≤ weight j + 1
weight_settled r b j =
    let i = laid_byte r b j in
    let h = half_built i.memory r i.half in
    omega (arith, weight_ended (stage_of (greatest_length r) h) h i (half_three i.memory r i.half))

pub fed_weight : (w : Stretch) (r : ℕ) (j : Job) (s : List ℕ) → 3 * length (fed w r j s).finished + (fed w r j s).half ≤ 3 * length j.finished + j.half + length s
unfolding fed
fed_weight w r j [] = omega arith
fed_weight w r j (b ∷ s) =
    omega (arith, fed_weight w r (fed_by w r b j) s, byte_either (λ i. weight i ≤ weight j + 1) w r b j (omega arith) (omega arith) (weight_settled r b j))

-- ONE THAT GOES ON is one section at most
abbrev most : Job → ℕ
most j = length j.finished + cond (eqb j.half 0) 0 1

most_one : (j : Job) → most j ≤ length j.finished + 1
most_one j = cond_either (λ n. length j.finished + n ≤ length j.finished + 1) (eqb j.half 0) 0 1 (omega arith) (omega arith)

most_ended : (g : Stage) (s : List ℕ) (j : Job) → most (ended g s j) ≤ length j.finished + 1
most_ended More s j = most_one j
most_ended Bad s j = omega (arith, length-append j.finished (bad_length ∷ []))
most_ended Whole s j = omega (arith, length-append j.finished (whole s ∷ []))

most_byte : (r b : ℕ) (j : Job) → most (fed_by going_on r b j) ≤ most j
most_byte r b j = go (eqb j.half 0) refl
  where
    go : (none : Bool) → eqb j.half 0 ≡ none → most (cond none j (settled r (laid_byte r b j))) ≤ length j.finished + cond none 0 1
    go true e = rw e (omega arith)
    go false e =
        let i = laid_byte r b j in
        most_ended (stage_of (greatest_length r) (half_built i.memory r i.half)) (half_built i.memory r i.half) i

most_fed : (r : ℕ) (j : Job) (s : List ℕ) → most (fed going_on r j s) ≤ most j
unfolding fed
most_fed r j [] = omega arith
most_fed r j (b ∷ s) = omega (arith, most_fed r (fed_by going_on r b j) s, most_byte r b j)

pub going_most : (r : ℕ) (j : Job) (s : List ℕ) → length (fed going_on r j s).finished ≤ length j.finished + 1
going_most r j s = omega (arith, most_fed r j s, most_one j)

-- A PAYLOAD
-- 61 of them at most: with a pointer of 0 none goes on, and any other takes a byte of the new ones
pub built_greatest : (r : ℕ) (m : List ℕ) (n : ℕ) (start : Bool) (s : List ℕ) → length s ≤ 184 → length (built r m n start s).finished ≤ 61
unfolding built fed
built_greatest r m n false s h = omega (arith, going_most r (begun_job m n) s)
built_greatest r m n true s h = go (ltb (1 + pointer_of s) (length s)) refl (order 0 (pointer_of s))
  where
    led : Job
    led = fed going_on r (begun_job m n) (take (pointer_of s) (drop 1 s))

    led_none : pointer_of s ≡ 0 → length led.finished ≡ 0
    led_none e = ap (λ k. length (fed going_on r (begun_job m n) (take k (drop 1 s))).finished) e

    go : (near : Bool) → ltb (1 + pointer_of s) (length s) ≡ near → Order 0 (pointer_of s)
        → length (cond near (fed following r (dropped led) (drop (1 + pointer_of s) s)) (dropped (begun_job m n))).finished ≤ 61
    go true e (below some) =
        omega (
          arith,
          fed_weight following r (dropped led) (drop (1 + pointer_of s) s),
          going_most r (begun_job m n) (take (pointer_of s) (drop 1 s)),
          length-drop (1 + pointer_of s) s,
        )
    go true e (from none) =
        omega (arith, fed_weight following r (dropped led) (drop (1 + pointer_of s) s), led_none (omega arith), length-drop (1 + pointer_of s) s)
    go false e o = omega arith
