-- A section step: how many bytes go to the section at hand, and how far it is then. Assumes nothing.
use mathlib.Core.Path.{◌≡◌, sym, ap, ◌∙◌}
use mathlib.Core.Bool.{Bool, true, false, cond, true≢false}
use mathlib.Core.List.{List, [], ◌∷◌, ◌++◌, append-nil, append_assoc}
use Prim.Native.Nat.{ℕ, zero, suc, ◌+◌, ◌-◌, ◌≤◌, ◌<◌}
use native.Mathlib.Nat.{add-zero, le_of_suc-le-suc, not-suc-le-zero}
use native.Mathlib.Omega.{arith}
use lib.Dec.{ltb}
use lib.ListN.{length, get_or, take, drop, length-append}
use lib.Seq.{take-suc, take-add, drop-cons, take-length, drop-length, length-take-le}
use borrow.Author.Tests.{lt-ltb, le-ltb}
use Rattle.lists.proofs.Tests.{Order, below, from, order}
use Rattle.sections.specs.declared.Stage.{Stage}
use Rattle.sections.specs.declared.Stage.TheVariants.{More, Whole}
use Rattle.sections.specs.declared.Laid.{Laid}
use Rattle.sections.specs.Section.{section_length, stage_of, is_more}
use Rattle.sections.specs.inner.Steps.{taken_by, laid_of}
use Rattle.sections.proofs.Stages.{more_known, stage_few, stage_grown}

module _ (top : ℕ) where
  -- the section goes on through the first k bytes
  abbrev pub GoesOn : List ℕ → List ℕ → ℕ → Type 0
  GoesOn h s k = (i : ℕ) → i < k → is_more (stage_of top (h ++ take (suc i) s)) ≡ true

  pub taken_on : (h s : List ℕ) (k : ℕ) → k ≤ length s → GoesOn h s k → taken_by top h s ≡ k + taken_by top (h ++ take k s) (drop k s)
  unfolding taken_by
  taken_on h s zero l on = omega (arith, ap (λ z. taken_by top z s) (sym (append-nil h)))
  taken_on h [] (suc k) l on = absurd (not-suc-le-zero l)
  taken_on h (b ∷ s) (suc k) l on =
      let e = taken_on (h ++ (b ∷ [])) s k (le_of_suc-le-suc l) later ∙ ap (λ z. k + taken_by top z (drop k s)) (append_assoc h (b ∷ []) (take k s)) in
      rw (on 0 (omega arith)) (omega (arith, e))
    where
      later : GoesOn (h ++ (b ∷ [])) s k
      later i g = ap (λ z. is_more (stage_of top z)) (append_assoc h (b ∷ []) (take (suc i) s)) ∙ on (suc i) (omega arith)

  pub taken_most : (h s : List ℕ) → taken_by top h s ≤ length s
  unfolding taken_by
  taken_most h [] = omega arith
  taken_most h (b ∷ s) = go (is_more (stage_of top (h ++ (b ∷ [])))) (taken_most (h ++ (b ∷ [])) s)
    where
      go : (more : Bool) → taken_by top (h ++ (b ∷ [])) s ≤ length s → cond more (suc (taken_by top (h ++ (b ∷ [])) s)) 1 ≤ suc (length s)
      go true l = omega arith
      go false l = omega arith

  -- to the end of the bytes
  pub taken_all : (h s : List ℕ) → GoesOn h s (length s) → taken_by top h s ≡ length s
  unfolding taken_by
  taken_all h s on =
      taken_on h s (length s) (omega arith) on ∙ ap (λ z. length s + taken_by top (h ++ take (length s) s) z) (drop-length s) ∙ none (h ++ take (length s) s)
    where
      none : (g : List ℕ) → length s + taken_by top g [] ≡ length s
      none g = add-zero (length s)

  -- to its own end, with the byte at the place k
  pub taken_ends : (h s : List ℕ) (k : ℕ) → k < length s → GoesOn h s k → is_more (stage_of top (h ++ take (suc k) s)) ≡ false → taken_by top h s ≡ suc k
  unfolding taken_by
  taken_ends h s k l on e =
      taken_on h s k (omega arith) on ∙ ap (λ z. k + taken_by top (h ++ take k s) z) (drop-cons s k 0 l) ∙ last (h ++ take k s) (drop (suc k) s) same
    where
      last : (g z : List ℕ) → g ++ (get_or s k 0 ∷ []) ≡ h ++ take (suc k) s → k + taken_by top g (get_or s k 0 ∷ z) ≡ suc k
      last g z q = rw (ap (λ x. is_more (stage_of top x)) q ∙ e) (omega arith)

      same : (h ++ take k s) ++ (get_or s k 0 ∷ []) ≡ h ++ take (suc k) s
      same = append_assoc h (take k s) (get_or s k 0 ∷ []) ∙ ap (λ z. h ++ z) (sym (take-suc s k 0 l))

  -- A STEP FROM THE THIRD BYTE ON: all bytes up to the known length
  abbrev want_of : List ℕ → ℕ
  want_of h = section_length h + 3

  module _ (h s : List ℕ) (three : 3 ≤ length h) (more : is_more (stage_of top h) ≡ true) where
    grown : (k : ℕ) → k ≤ length s → stage_of top (h ++ take k s) ≡ cond (ltb (length h + k) (want_of h)) More Whole
    grown k l = stage_grown top h (take k s) three more ∙ ap (λ z. cond (ltb (length h + z) (want_of h)) More Whole) (length-take-le k s l)

    goes_on : (k : ℕ) → k ≤ length s → length h + k < want_of h → GoesOn h s k
    goes_on k l u i g = rw (grown (suc i) (omega arith), lt-ltb (length h + suc i) (want_of h) (omega arith))

    whole_at : (k : ℕ) → k ≤ length s → want_of h ≤ length h + k → is_more (stage_of top (h ++ take k s)) ≡ false
    whole_at k l u = rw (grown k l, le-ltb (length h + k) (want_of h) u)

    taken_known : (k : ℕ) → k ≤ length s → k ≤ want_of h - length h → (k < want_of h - length h → k ≡ length s) → taken_by top h s ≡ k
    taken_known k l u all = go (order k (want_of h - length h))
      where
        go : Order k (want_of h - length h) → taken_by top h s ≡ k
        go (below b) =
            let e : length s ≡ k = sym (all b) in
            taken_all h s (goes_on (length s) (omega arith) (omega arith)) ∙ e
        go (from b) =
            let q : suc (k - 1) ≡ k = omega (arith, (more_known top h three more).under) in
            taken_ends h s (k - 1) (omega arith) (goes_on (k - 1) (omega arith) (omega arith)) (rw q (whole_at k l (omega arith))) ∙ q

    pub laid_known : (n k : ℕ) (g : Stage) → k ≤ length s → k ≤ want_of h - length h → (k < want_of h - length h → k ≡ length s)
        → g ≡ cond (ltb (length h + k) (want_of h)) More Whole → record { taken = k; length = n + k; stage = g } ≡ laid_of top h n s
    laid_known n k g l u all e = rw (taken_known k l u all, e, grown k l)

  -- A STEP TO THE THIRD BYTE: k bytes are missing to it, or none
  module _ (h s : List ℕ) where
    more_few : (i : ℕ) → i ≤ length s → length h + i < 3 → is_more (stage_of top (h ++ take i s)) ≡ true
    more_few i l u =
        let e : length (h ++ take i s) ≡ length h + i = length-append h (take i s) ∙ ap (λ z. length h + z) (length-take-le i s l) in
        ap is_more (stage_few top (h ++ take i s) (omega arith))

    -- the bytes end before it
    pub laid_few : (n : ℕ) → length h + length s < 3 → record { taken = length s; length = n + length s; stage = More } ≡ laid_of top h n s
    laid_few n u =
        let e = taken_all h s (λ i g. more_few (suc i) (omega arith) (omega arith)) in
        let q : length (h ++ s) < 3 = omega (arith, length-append h s) in
        rw (e, take-length s, stage_few top (h ++ s) q)

    module _ (k : ℕ) (fits : k ≤ length s) (few : k ≡ 3 - length h) where
      -- with it the section comes to its end
      pub laid_third : (n : ℕ) → is_more (stage_of top h) ≡ true → is_more (stage_of top (h ++ take k s)) ≡ false
          → record { taken = k; length = n + k; stage = stage_of top (h ++ take k s) } ≡ laid_of top h n s
      laid_third n more e = go (order 0 k)
        where
          go : Order 0 k → record { taken = k; length = n + k; stage = stage_of top (h ++ take k s) } ≡ laid_of top h n s
          go (below some) =
              let q : suc (k - 1) ≡ k = omega arith in
              let on : GoesOn h s (k - 1) = λ i g. more_few (suc i) (omega arith) (omega arith) in
              let t : taken_by top h s ≡ k = taken_ends h s (k - 1) (omega arith) on (rw q e) ∙ q in
              rw t
          go (from none) =
              let q : k ≡ 0 = omega arith in
              let z : h ++ take k s ≡ h = ap (λ j. h ++ take j s) q ∙ append-nil h in
              absurd (true≢false (sym more ∙ ap (λ x. is_more (stage_of top x)) (sym z) ∙ e))

      -- or goes on
      pub laid_beyond : (n : ℕ) (l : Laid) → is_more (stage_of top (h ++ take k s)) ≡ true → l ≡ laid_of top (h ++ take k s) (n + k) (drop k s)
          → record { taken = k + l.taken; length = l.length; stage = l.stage } ≡ laid_of top h n s
      laid_beyond n l e el =
          let t = taken_on h s k fits on in
          let j = taken_by top (h ++ take k s) (drop k s) in
          let q : (h ++ take k s) ++ take j (drop k s) ≡ h ++ take (k + j) s = append_assoc h (take k s) (take j (drop k s)) ∙ ap (λ z. h ++ z) (sym (take-add k j s)) in
          let w : n + k + j ≡ n + (k + j) = omega arith in
          rw (el, t, q, w)
        where
          on : GoesOn h s k
          on i g = go (order (suc i) k)
            where
              go : Order (suc i) k → is_more (stage_of top (h ++ take (suc i) s)) ≡ true
              go (below b) = more_few (suc i) (omega arith) (omega arith)
              go (from b) =
                  let q : suc i ≡ k = omega arith in
                  ap (λ z. is_more (stage_of top (h ++ take z s))) q ∙ e
