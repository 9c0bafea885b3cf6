-- Arrays filled place by place, and laid into others. Assumes nothing.
use mathlib.Core.Path.{◌≡◌, refl, sym, ap, ap₂, ◌∙◌}
use mathlib.Core.List.{List, [], ◌∷◌, ◌++◌, map, append-nil, append_assoc}
use Prim.Native.Nat.{ℕ, zero, suc, ◌+◌, ◌-◌, ◌<◌, ◌≤◌}
use native.Mathlib.Nat.{add-zero, zero-add, le_of_suc-le-suc, not-suc-le-zero}
use native.Mathlib.Numerals.{add-one}
use native.Mathlib.Omega.{arith}
use lib.ListN.{length, get_or, set, take, drop}
use lib.Seq.{sets, sets-eq, take_all, ext_get_or}
use denote.Param.Members.{Mut}
use borrow.Rule.Slice.PartMut.{put_mid}
use Rattle.std.proofs.Common.{drop-drop}
use Rattle.std.specs.Array.{IsMapOf}
use Rattle.std.specs.Fn.{Called}
use Rattle.lists.specs.Places.{part}
use Rattle.lists.proofs.Places.{part_turn}
use Rattle.lists.proofs.Turns.{drop_none}
use Rattle.arrays.specs.Lent.{tabled}

module _ {A : Type 0} where
  -- z with its first n elements replaced by f of their places
  unfoldable pub filled : (ℕ → A) → ℕ → List A → List A
  filled f n z = tabled f 0 n ++ drop n z

  filled_suc : (f : ℕ → A) (k i : ℕ) (z : List A) → i < length z → set (tabled f k i ++ drop i z) i (f (k + i)) ≡ tabled f k (suc i) ++ drop (suc i) z
  unfolding tabled
  filled_suc f k i [] h = absurd (not-suc-le-zero h)
  filled_suc f k zero (x ∷ z) h = ap (λ n. f n ∷ z) (add-zero k)
  filled_suc f k (suc i) (x ∷ z) h =
      let e : k + suc i ≡ suc k + i = omega arith in
      ap (λ n. f k ∷ set (tabled f (suc k) i ++ drop i z) i (f n)) e ∙ ap (λ l. f k ∷ l) (filled_suc f (suc k) i z (le_of_suc-le-suc h))

  pub filled_none : (f : ℕ → A) (z : List A) → z ≡ filled f 0 z
  unfolding filled tabled
  filled_none f z = refl

  pub filled_turn : (f : ℕ → A) (i : ℕ) (z : List A) → i < length z → set (filled f i z) i (f i) ≡ filled f (i + 1) z
  unfolding filled
  filled_turn f i z h = rw (add-one i) (ap (λ n. set (tabled f 0 i ++ drop i z) i (f n)) (sym (zero-add i)) ∙ filled_suc f 0 i z h)

  pub filled_all : (f : ℕ → A) (n : ℕ) (z : List A) → length z ≤ n → filled f n z ≡ tabled f 0 n
  unfolding filled
  filled_all f n z h = rw (drop_none z n h) (append-nil (tabled f 0 n))

  pub tabled_length : (f : ℕ → A) (k n : ℕ) → length (tabled f k n) ≡ n
  unfolding tabled
  tabled_length f k zero = refl
  tabled_length f k (suc n) = ap suc (tabled_length f (suc k) n)

  -- a part, as a table of its elements
  part_tabled_from : (l : List A) (d : A) (at k n : ℕ) → at + k + n ≤ length l → part l (at + k) n ≡ tabled (λ j. get_or l (at + j) d) k n
  unfolding tabled part
  part_tabled_from l d at k zero h = refl
  part_tabled_from l d at k (suc n) h =
      let e : at + k + 1 ≡ at + suc k = omega arith in
      part_turn l (at + k) n d (omega arith) ∙ ap (λ z. get_or l (at + k) d ∷ part l z n) e ∙ ap (λ z. get_or l (at + k) d ∷ z) (part_tabled_from l d at (suc k) n (omega arith))

  pub part_tabled : (l : List A) (d : A) (at n : ℕ) → at + n ≤ length l → part l at n ≡ tabled (λ j. get_or l (at + j) d) 0 n
  part_tabled l d at n h = rw (add-zero at) at (part_tabled_from l d at 0 n (omega arith))

  -- the part of an array that is all of it
  pub part_all : (l : List A) (n : ℕ) → length l ≡ n → part l 0 n ≡ l
  unfolding part
  part_all l n h = take_all n l (omega arith)

  -- a list laid over all of another
  pub sets_all : (l s : List A) → length s ≡ length l → sets l 0 s ≡ s
  sets_all l s h = sets-eq s l 0 (omega arith) ∙ ap (λ z. s ++ z) (drop_none l (0 + length s) (omega arith)) ∙ append-nil s

pub get_d_map : {A B : Type 0} (f : A → B) (l : List A) (i : ℕ) (a : A) (b : B) → i < length l → get_or (map f l) i b ≡ f (get_or l i a)
get_d_map f [] i a b h = absurd (not-suc-le-zero h)
get_d_map f (x ∷ l) zero a b h = refl
get_d_map f (x ∷ l) (suc i) a b h = get_d_map f l i a b (le_of_suc-le-suc h)

pub length_map : {A B : Type 0} (f : A → B) (l : List A) → length (map f l) ≡ length l
length_map f [] = refl
length_map f (x ∷ l) = ap suc (length_map f l)

-- a part written over
pub put_sets : {A : Type 0} (at n : ℕ) (l new vs : List A) → new ≡ vs → length vs ≡ n → at + n ≤ length l → put_mid at (at + n - at) l new ≡ sets l at vs
put_sets at n l new vs e size fits =
    let same : at + n - at ≡ length vs = omega (arith, size) in
    ap₂ (λ (a b : List _). take at l ++ (a ++ b)) e (ap (λ k. drop k (drop at l)) same ∙ drop-drop (length vs) at l)
    ∙ sym (append_assoc (take at l) vs (drop (at + length vs) l))
    ∙ sym (sets-eq vs l at (omega (arith, size)))

-- an array mapped by a closure that computes v
pub mapped : {F A B : Type 0} {g : Mut F (A × Unit {0}) B} {f : F} {xs : List A} {ys : List B} {n : ℕ} (v : A → B) (d : A)
    → ((p : F) (x : A) (y : B) (q : F) → Called g p (x, tt) y q → y ≡ v x) → length xs ≡ n → IsMapOf g f xs ys n → ys ≡ map v xs
mapped {xs = xs} {ys = ys} v d each size m =
    ext_get_or (v d) ys (map v xs) (m.long ∙ sym (length_map v xs ∙ size))
    (λ i h.
    let called = m.at i d (v d) (omega (arith, m.long)) in
    each called.0 _ _ called.1 called.2 ∙ sym (get_d_map v xs i d (v d) (omega (arith, m.long))))
