-- A payload that is fed byte by byte goes by whole sections: a section step comes to the end of the section at hand. Assumes nothing.
use mathlib.Core.Path.{◌≡◌, refl, sym, ap, ap₂, ◌∙◌}
use mathlib.Core.Bool.{true, false, cond, true≢false}
use mathlib.Core.List.{List, [], ◌∷◌, ◌++◌, append-nil, append_assoc}
use Prim.Native.Nat.{ℕ, suc, ◌+◌, ◌≤◌, ◌<◌}
use native.Mathlib.Nat.{add-zero}
use native.Mathlib.Omega.{arith}
use lib.ListN.{length, take, drop, length-set}
use borrow.Author.Tests.{ne_eqb}
use Rattle.lists.proofs.Places.{part_set}
use Rattle.sections.specs.declared.Stage.{Stage}
use Rattle.sections.specs.declared.Stage.TheVariants.{More, Bad, Whole}
use Rattle.sections.specs.Rooms.{room_base, greatest_length, half_built}
use Rattle.sections.specs.Section.{stage_of, is_more}
use Rattle.sections.specs.Building.{Stretch, going_on, following, Job, laid_byte, ended, settled, fed_by, fed}
use Rattle.sections.specs.inner.Steps.{taken_by, laid_in}
use Rattle.sections.proofs.Stages.{half_short}

-- the first byte of s goes to the section at hand
abbrev pub Begins : Stretch → ℕ → Job → List ℕ → Type 0
Begins w r j [] = Unit {0}
Begins w r j (b ∷ s) = fed_by w r b j ≡ settled r (laid_byte r b j)

-- as it does where the section has bytes
pub begins_within : (w : Stretch) (r : ℕ) (j : Job) (s : List ℕ) → j.ignored ≡ false → (j.half ≡ 0 → ⊥) → Begins w r j s
begins_within w r j [] e h = tt
begins_within going_on r j (b ∷ s) e h = rw (ne_eqb j.half 0 h)
begins_within following r j (b ∷ s) e h = rw (e, ne_eqb j.half 0 h)

-- the first k bytes of s laid behind those of the section at hand, and the bytes of the section then
abbrev pub carried : ℕ → Job → List ℕ → ℕ → Job
carried r j s k = record { memory = laid_in r j.memory j.half (take k s); half = j.half + k; finished = j.finished; ignored = j.ignored }

abbrev pub section_of : ℕ → Job → List ℕ → ℕ → List ℕ
section_of r j s k = half_built j.memory r j.half ++ take k s

abbrev pub taken_of : ℕ → Job → List ℕ → ℕ
taken_of r j s = taken_by (greatest_length r) (half_built j.memory r j.half) s

-- A SECTION STEP
abbrev pub stepped : ℕ → Job → List ℕ → ℕ → Job
stepped r j s k = ended (stage_of (greatest_length r) (section_of r j s k)) (section_of r j s k) (carried r j s k)

pub record Ready (r : ℕ) (j : Job) : Type 0 where
  pub going : j.ignored ≡ false
  pub room : room_base r + greatest_length r + 3 ≤ length j.memory
  pub more : is_more (stage_of (greatest_length r) (half_built j.memory r j.half)) ≡ true

more_is : (g : Stage) → is_more g ≡ true → g ≡ More
more_is More e = refl
more_is Bad e = absurd (true≢false (sym e))
more_is Whole e = absurd (true≢false (sym e))

-- the section at hand with one byte more
module _ (r : ℕ) (j : Job) (b : ℕ) (q : Ready r j) where
  inside : room_base r + j.half < length j.memory
  inside = omega (arith, q.room, half_short j.memory (room_base r) (greatest_length r) j.half q.room q.more)

  grown : half_built (laid_byte r b j).memory r (j.half + 1) ≡ half_built j.memory r j.half ++ (b ∷ [])
  grown = part_set j.memory (room_base r) j.half b inside

  ready_next : stage_of (greatest_length r) (half_built j.memory r j.half ++ (b ∷ [])) ≡ More → Ready r (laid_byte r b j)
  ready_next e =
      record {
        going = q.going;
        room = rw (length-set j.memory (room_base r + j.half) b) q.room;
        more = ap (λ h. is_more (stage_of (greatest_length r) h)) grown ∙ ap is_more e;
      }

  -- two ways to lay the bytes behind it
  carried_on : (s : List ℕ) (k : ℕ) → carried r (laid_byte r b j) s k ≡ carried r j (b ∷ s) (suc k)
  carried_on s k =
      let i : room_base r + (j.half + 1) ≡ suc (room_base r + j.half) = omega arith in
      let n : j.half + 1 + k ≡ j.half + suc k = omega arith in
      rw (i, n)

  section_on : (s : List ℕ) (k : ℕ) → section_of r (laid_byte r b j) s k ≡ section_of r j (b ∷ s) (suc k)
  section_on s k = ap (λ h. h ++ take k s) grown ∙ append_assoc (half_built j.memory r j.half) (b ∷ []) (take k s)

  stepped_on : (s : List ℕ) (k : ℕ) → stepped r (laid_byte r b j) s k ≡ stepped r j (b ∷ s) (suc k)
  stepped_on s k = ap₂ (λ h c. ended (stage_of (greatest_length r) h) h c) (section_on s k) (carried_on s k)

pub chunk : (w : Stretch) (r : ℕ) (j : Job) (s : List ℕ) → Ready r j → Begins w r j s → fed w r j s ≡ fed w r (stepped r j s (taken_of r j s)) (drop (taken_of r j s) s)
unfolding fed taken_by
chunk w r j [] q z =
    let e : half_built j.memory r j.half ++ [] ≡ half_built j.memory r j.half = append-nil (half_built j.memory r j.half) in
    rw (e, more_is (stage_of (greatest_length r) (half_built j.memory r j.half)) q.more, add-zero j.half)
chunk w r j (b ∷ s) q z =
    ap (λ k. fed w r k s) (z ∙ ap (λ h. ended (stage_of top h) h next) (grown r j b q))
    ∙ go (stage_of top (so ++ (b ∷ []))) refl (λ e. chunk w r next s (ready_next r j b q e) (begins_within w r next s q.going (λ n. omega arith)))
  where
    top : ℕ
    top = greatest_length r

    so : List ℕ
    so = half_built j.memory r j.half

    next : Job
    next = laid_byte r b j

    rest : ℕ
    rest = taken_by top (so ++ (b ∷ [])) s

    go : (g : Stage) → stage_of top (so ++ (b ∷ [])) ≡ g
        → (stage_of top (so ++ (b ∷ [])) ≡ More → fed w r next s ≡ fed w r (stepped r next s (taken_of r next s)) (drop (taken_of r next s) s))
        → fed w r (ended g (so ++ (b ∷ [])) next) s ≡ fed w r (stepped r j (b ∷ s) (cond (is_more g) (suc rest) 1)) (drop (cond (is_more g) (suc rest) 1) (b ∷ s))
    go More e ih =
        ih e
        ∙ ap (λ h. fed w r (stepped r next s (taken_by top h s)) (drop (taken_by top h s) s)) (grown r j b q)
        ∙ ap (λ c. fed w r c (drop rest s)) (stepped_on r j b q s rest)
    go Bad e ih = ap (λ g. fed w r (ended g (so ++ (b ∷ [])) next) s) (sym e)
    go Whole e ih = ap (λ g. fed w r (ended g (so ++ (b ∷ [])) next) s) (sym e)
