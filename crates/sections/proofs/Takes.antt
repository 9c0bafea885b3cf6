-- A section step as `lay` makes it: where it leaves the section at hand, and the payload that is fed byte by byte. Assumes nothing.
use mathlib.Core.Path.{◌≡◌, refl, sym, ap, ap₂, ◌∙◌}
use mathlib.Core.Bool.{Bool, true, false, cond, true≢false}
use mathlib.Core.List.{List, [], ◌∷◌, ◌++◌, append_assoc}
use Prim.Native.Nat.{ℕ, suc, ◌+◌, ◌≤◌, ◌<◌}
use native.Mathlib.Omega.{arith}
use lib.ListN.{length, take, drop, length-append}
use lib.Seq.{length-sets, drop-length, length-take-le}
use Rattle.lists.proofs.Places.{part_length, part_sets}
use Rattle.sections.specs.declared.Laid.{Laid}
use Rattle.sections.specs.Rooms.{memory_size, room_count, room_base, greatest_length, half_built}
use Rattle.sections.specs.Section.{stage_of, is_more}
use Rattle.sections.specs.Building.{Stretch, ended, fed, begun_job}
use Rattle.sections.specs.inner.Steps.{taken_by, laid_of, laid_in}
use Rattle.sections.proofs.Stages.{more_short, half_short, room_fits}
use Rattle.sections.proofs.Cuts.{taken_most}
use Rattle.sections.proofs.Chunks.{Begins, stepped, chunk}
use Rattle.sections.proofs.Counts.{half_three}

-- a section does not outgrow its room
taken_short : (top : ℕ) (h s : List ℕ) → is_more (stage_of top h) ≡ true → length h + taken_by top h s ≤ top + 3
unfolding taken_by
taken_short top h [] e = omega (arith, more_short top h e)
taken_short top h (b ∷ s) e = go (is_more (stage_of top (h ++ (b ∷ [])))) refl (taken_short top (h ++ (b ∷ [])) s)
  where
    go : (more : Bool) → is_more (stage_of top (h ++ (b ∷ []))) ≡ more
        → (is_more (stage_of top (h ++ (b ∷ []))) ≡ true → length (h ++ (b ∷ [])) + taken_by top (h ++ (b ∷ [])) s ≤ top + 3)
        → length h + cond more (suc (taken_by top (h ++ (b ∷ [])) s)) 1 ≤ top + 3
    go true m rest = omega (arith, rest m, length-append h (b ∷ []))
    go false m rest = omega (arith, more_short top h e)

-- an unfinished one takes all bytes
taken_more : (top : ℕ) (h s : List ℕ) → is_more (stage_of top (h ++ take (taken_by top h s) s)) ≡ true → taken_by top h s ≡ length s
unfolding taken_by
taken_more top h [] e = refl
taken_more top h (b ∷ s) e = go (is_more (stage_of top (h ++ (b ∷ [])))) refl (taken_more top (h ++ (b ∷ [])) s) e
  where
    rest : ℕ
    rest = taken_by top (h ++ (b ∷ [])) s

    go : (more : Bool) → is_more (stage_of top (h ++ (b ∷ []))) ≡ more
        → (is_more (stage_of top ((h ++ (b ∷ [])) ++ take rest s)) ≡ true → rest ≡ length s)
        → is_more (stage_of top (h ++ take (cond more (suc rest) 1) (b ∷ s))) ≡ true → cond more (suc rest) 1 ≡ suc (length s)
    go true m all e = ap suc (all (ap (λ z. is_more (stage_of top z)) (append_assoc h (b ∷ []) (take rest s)) ∙ e))
    go false m all e = absurd (true≢false (sym e ∙ m))

-- A STEP from n bytes in the room r, on the bytes s
module _ (r : ℕ) (m : List ℕ) (n : ℕ) (s : List ℕ) (l : Laid) (m' : List ℕ) (below : r < room_count) (size : length m ≡ memory_size)
    (more : is_more (stage_of (greatest_length r) (half_built m r n)) ≡ true) (el : l ≡ laid_of (greatest_length r) (half_built m r n) n s)
    (em : m' ≡ laid_in r m n (take l.taken s)) where
  taken_is : l.taken ≡ taken_by (greatest_length r) (half_built m r n) s
  taken_is = ap (λ (x : Laid). x.taken) el

  length_is : l.length ≡ n + l.taken
  length_is = omega (arith, taken_is, ap (λ (x : Laid). x.length) el)

  half_length : length (half_built m r n) ≡ n
  half_length =
      part_length m (room_base r) n
      (omega (arith, room_fits r below, size, half_short m (room_base r) (greatest_length r) n (omega (arith, room_fits r below, size)) more))

  taken_length : length (take l.taken s) ≡ l.taken
  taken_length = length-take-le l.taken s (omega (arith, taken_is, taken_most (greatest_length r) (half_built m r n) s))

  pub laid_short : l.length ≤ greatest_length r + 3
  laid_short = omega (arith, taken_short (greatest_length r) (half_built m r n) s more, half_length, taken_is, length_is)

  pub laid_fits : room_base r + l.length ≤ memory_size
  laid_fits = omega (arith, room_fits r below, laid_short)

  pub laid_size : length m' ≡ memory_size
  laid_size = ap length em ∙ length-sets m (room_base r + n) (take l.taken s) ∙ size

  section_laid : half_built m' r l.length ≡ half_built m r n ++ take l.taken s
  section_laid =
      ap₂ (λ (z : List ℕ) (k : ℕ). half_built z r k) em (length_is ∙ ap (λ k. n + k) (sym taken_length))
      ∙ part_sets m (room_base r) n (take l.taken s) (omega (arith, taken_length, length_is, laid_fits, size))

  laid_stage : l.stage ≡ stage_of (greatest_length r) (half_built m' r l.length)
  laid_stage =
      ap (λ (x : Laid). x.stage) el
      ∙ ap (λ k. stage_of (greatest_length r) (half_built m r n ++ take k s)) (sym taken_is)
      ∙ ap (stage_of (greatest_length r)) (sym section_laid)

  -- it comes to the end of the section at hand
  pub section_step : (w : Stretch) → Begins w r (begun_job m n) s
      → fed w r (begun_job m n) s ≡ fed w r (ended l.stage (half_built m' r l.length) (begun_job m' l.length)) (drop l.taken s)
  section_step w begins =
      let top = greatest_length r in
      chunk w r (begun_job m n) s (record { going = refl; room = omega (arith, room_fits r below, size); more = more }) begins
      ∙ ap (λ k. fed w r (stepped r (begun_job m n) s k) (drop k s)) (sym taken_is)
      ∙ ap (λ x. fed w r (ended (stage_of top x) x (begun_job (laid_in r m n (take l.taken s)) (n + l.taken))) (drop l.taken s)) (sym section_laid)
      ∙ ap₂ (λ (z : List ℕ) (k : ℕ). fed w r (ended (stage_of top (half_built m' r l.length)) (half_built m' r l.length) (begun_job z k)) (drop l.taken s)) (sym em) (sym length_is)
      ∙ ap (λ g. fed w r (ended g (half_built m' r l.length) (begun_job m' l.length)) (drop l.taken s)) (sym laid_stage)

  -- nothing is left behind an unfinished section, and a finished one that is new has three bytes or more
  pub laid_out : is_more l.stage ≡ true → drop l.taken s ≡ []
  laid_out e =
      let k = taken_is ∙ taken_more (greatest_length r) (half_built m r n) s (ap is_more (sym (ap (λ (x : Laid). x.stage) el)) ∙ e) in
      ap (λ i. drop i s) k ∙ drop-length s

  pub laid_three : n ≡ 0 → is_more l.stage ≡ false → 3 ≤ l.taken
  laid_three z e = omega (arith, half_three m' r l.length (ap is_more (sym laid_stage) ∙ e), length_is)
