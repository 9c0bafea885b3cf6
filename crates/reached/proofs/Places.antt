-- What holds of every place of a list, as the list is changed. Assumes nothing.
use mathlib.Core.List.{List, [], ◌∷◌}
use Prim.Native.Nat.{ℕ, zero, suc, ◌+◌}
use lib.ListN.{get_or, set, take, drop, replicate}
use lib.Seq.{sets, get_or-drop}
use Rattle.lists.specs.Places.{part}

-- A RULE P of the number at each place, and of 0 past the end
module _ (P : ℕ → Type 0) where
  abbrev pub All : List ℕ → Type 0
  All l = (k : ℕ) → P (get_or l k 0)

  pub all_set : (l : List ℕ) (i a : ℕ) → P a → All l → All (set l i a)
  all_set [] i a p h k = h k
  all_set (x ∷ l) zero a p h zero = p
  all_set (x ∷ l) zero a p h (suc k) = h (suc k)
  all_set (x ∷ l) (suc i) a p h zero = h zero
  all_set (x ∷ l) (suc i) a p h (suc k) = all_set l i a p (λ j. h (suc j)) k

  pub all_sets : (l : List ℕ) (i : ℕ) (vs : List ℕ) → All vs → All l → All (sets l i vs)
  all_sets l i [] p h = h
  all_sets l i (v ∷ vs) p h = all_sets (set l i v) (suc i) vs (λ k. p (suc k)) (all_set l i v (p 0) h)

  pub all_replicate : (n a : ℕ) → P a → P 0 → All (replicate n a)
  all_replicate zero a p z k = z
  all_replicate (suc n) a p z zero = p
  all_replicate (suc n) a p z (suc k) = all_replicate n a p z k

  pub all_drop : (n : ℕ) (l : List ℕ) → All l → All (drop n l)
  all_drop n l h k = rw (get_or-drop n l k 0) (h (n + k))

  pub all_take : (n : ℕ) (l : List ℕ) → P 0 → All l → All (take n l)
  all_take zero l z h k = z
  all_take (suc n) [] z h k = h k
  all_take (suc n) (x ∷ l) z h zero = h zero
  all_take (suc n) (x ∷ l) z h (suc k) = all_take n l z (λ j. h (suc j)) k

  pub all_part : (l : List ℕ) (at n : ℕ) → P 0 → All l → All (part l at n)
  unfolding part
  all_part l at n z h = all_take n (drop at l) z (all_drop at l h)
