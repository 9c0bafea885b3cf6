-- The list read entry by entry. Assumes nothing.
use mathlib.Core.Path.{◌≡◌, refl, sym, ap, ◌∙◌}
use mathlib.Core.Bool.{Bool, true, false, cond, ◌||◌}
use mathlib.Core.List.{List, [], ◌∷◌, ◌++◌, reverse}
use Prim.Native.Nat.{ℕ, zero, suc, ◌+◌, ◌*◌, ◌/◌, ◌≤◌, ◌<◌}
use native.Mathlib.Nat.{suc-mul, zero-mul}
use native.Mathlib.Omega.{arith}
use lib.Dec.{eqb}
use lib.ListN.{length, get_or, take, drop, length-drop}
use lib.Seq.{drop-drop}
use Rattle.std.specs.List.{list_any}
use Rattle.std.specs.Simd.{first_chunks}
use Rattle.std.proofs.lemmas.List.{take_more}
use Rattle.std.proofs.lemmas.List.Sorted.{list_any-IsPermutation, IsPermutation-reverse}
use Rattle.lists.proofs.Turns.{drop_four}
use Rattle.watches.specs.declared.Entry.{Entry}
use Rattle.programmes.specs.declared.Listed.{Listed}
use Rattle.programmes.specs.declared.Addition.{Addition}
use Rattle.programmes.specs.declared.Addition.TheVariants.{Nothing, Mark, One}
use Rattle.programmes.specs.Listing.{is_number, entered, made_bad, read_on}
use Rattle.programmes.specs.inner.Reading.{four_number, pid_in, seen_in, with_addition}

-- A NUMBER SEEN EARLIER: that of an entry before, or of none
is_number_last : (n m : ℕ) (ns : List ℕ) → is_number n (ns ++ m ∷ []) ≡ (eqb m n || is_number n ns)
unfolding is_number
is_number_last n m [] = refl
is_number_last n m (k ∷ ns) = ap (λ z. eqb k n || z) (is_number_last n m ns) ∙ turned (eqb k n) (eqb m n) (is_number n ns)
  where
    turned : (a b c : Bool) → (a || (b || c)) ≡ (b || (a || c))
    turned true true c = refl
    turned true false c = refl
    turned false b c = refl

pub seen_any : (n : ℕ) (fs : List (List ℕ)) → list_any (λ (f : List ℕ). eqb (four_number f) n) fs ≡ is_number n (seen_in fs)
unfolding is_number seen_in
seen_any n [] = refl
seen_any n (f ∷ fs) = ap (λ z. eqb (four_number f) n || z) (seen_any n fs) ∙ sym (is_number_last n (four_number f) (seen_in fs))

pub seen_back : (n : ℕ) (fs : List (List ℕ)) → list_any (λ (f : List ℕ). eqb (four_number f) n) (reverse fs) ≡ is_number n (seen_in fs)
seen_back n fs = sym (list_any-IsPermutation (λ (f : List ℕ). eqb (four_number f) n) fs (reverse fs) (IsPermutation-reverse fs)) ∙ seen_any n fs

pub seen_next : (f : List ℕ) (fs : List (List ℕ)) → seen_in (fs ++ f ∷ []) ≡ four_number f ∷ seen_in fs
unfolding seen_in
seen_next f [] = refl
seen_next f (g ∷ fs) = ap (λ z. z ++ four_number g ∷ []) (seen_next f fs)

-- the list with what an entry adds: at most sixteen are listed
pub added_most : (r : Addition) (l : Listed) → l.count ≤ 16 → ((e : Entry) → r ≡ One e → l.count < 16) → (with_addition r l).count ≤ 16
added_most Nothing l most room = most
added_most Mark l most room = most
added_most (One e) l most room = omega (arith, room e refl)

-- THE ENTRIES as chunks of four
chunk_at : {A : Type 0} (n k i : ℕ) (s : List A) (d : List A) → i < k → get_or (first_chunks n k s) i d ≡ take n (drop (i * n) s)
chunk_at n zero i s d h = absurd (omega arith)
chunk_at n (suc k) zero s d h = rw (zero-mul n) refl
chunk_at n (suc k) (suc i) s d h =
    let on : n + i * n ≡ suc i * n = omega (arith, suc-mul i n) in
    chunk_at n k i (drop n s) d (omega arith) ∙ ap (take n) (drop-drop (i * n) n s ∙ ap (λ (j : ℕ). drop j s) on)

-- ONE ENTRY of four bytes
module _ (t : ℕ) (old : List Entry) (e : List ℕ) (fs : List (List ℕ)) (is : fs ≡ first_chunks 4 (length e / 4) e) where
  pub read_turn : (k : ℕ) (l : Listed) → k < length e / 4 → k < length fs
      → read_on t old (seen_in (take k fs)) l (drop (k * 4) e)
      ≡ read_on t old (seen_in (take (k + 1) fs)) (entered t old (seen_in (take k fs)) (four_number (get_or fs k [])) (pid_in (get_or fs k [])) l) (drop ((k + 1) * 4) e)
  unfolding read_on
  read_turn k l h m =
      let i = k * 4 in
      let q : (k + 1) * 4 ≡ k * 4 + 4 = omega arith in
      let here : get_or fs k [] ≡ get_or e i 0 ∷ get_or e (i + 1) 0 ∷ get_or e (i + 2) 0 ∷ get_or e (i + 3) 0 ∷ [] =
      ap (λ z. get_or z k []) is ∙ chunk_at 4 (length e / 4) k e [] h ∙ ap (take 4) (drop_four e i 0 (omega (arith, h))) in
      rw (take_more fs k [] m, seen_next (get_or fs k []) (take k fs), q, here, drop_four e i 0 (omega (arith, h))) refl

module _ (t : ℕ) (old : List Entry) where
  pub read_begins : (l : Listed) (e : List ℕ) → read_on t old [] l e ≡ read_on t old (seen_in []) l e
  unfolding seen_in
  read_begins l e = refl

  -- ONE TO THREE SPARE BYTES make the list bad
  spare_bad : (seen : List ℕ) (l : Listed) (s : List ℕ) → length s < 4 → read_on t old seen l s ≡ cond (eqb (length s) 0) l (made_bad l)
  unfolding read_on
  spare_bad seen l [] h = refl
  spare_bad seen l (a ∷ []) h = refl
  spare_bad seen l (a ∷ b ∷ []) h = refl
  spare_bad seen l (a ∷ b ∷ c ∷ []) h = refl
  spare_bad seen l (a ∷ b ∷ c ∷ d ∷ s) h = absurd (omega arith)

  pub read_ends : (seen : List ℕ) (l : Listed) (e spare : List ℕ) (k : ℕ) → k ≡ length e / 4 → spare ≡ drop (length e / 4 * 4) e
      → read_on t old seen l (drop (k * 4) e) ≡ cond (eqb (length spare) 0) l (made_bad l)
  read_ends seen l e spare k h is =
      let at : drop (k * 4) e ≡ spare = ap (λ j. drop (j * 4) e) h ∙ sym is in
      rw at (spare_bad seen l spare (omega (arith, ap length is, length-drop (length e / 4 * 4) e)))
