-- The entry of a pair in a list that is read: it is of that pair, and what it holds is of the old one or of a new one. Assumes nothing.
use mathlib.Core.Path.{◌≡◌, refl}
use mathlib.Core.Bool.{Bool, true, false, cond}
use mathlib.Core.List.{List, [], ◌∷◌}
use Prim.Native.Nat.{ℕ}
use lib.Dec.{eqb}
use borrow.Author.Tests.{eqb-true}
use Rattle.lists.proofs.Tests.{and_left, and_right}
use Rattle.watches.specs.declared.Entry.{Entry}
use Rattle.programmes.specs.Listing.{is_pair, entry_for}

module _ (P : Entry → Type 0) (t n q : ℕ) (new : P (record { number = n; pid = q; since = t })) where
  -- a fact of every old entry of the pair, and of a new one
  pub entry_either : (old : List Entry) → ((e : Entry) → is_pair n q e ≡ true → P e) → P (entry_for t old n q)
  unfolding entry_for
  entry_either [] own = new
  entry_either (e ∷ es) own = go (is_pair n q e) refl (entry_either es own)
    where
      go : (b : Bool) → is_pair n q e ≡ b → P (entry_for t es n q) → P (cond b e (entry_for t es n q))
      go true h r = own e h
      go false h r = r

module _ (t : ℕ) (old : List Entry) (n q : ℕ) where
  pub entry_number : (entry_for t old n q).number ≡ n
  entry_number = entry_either (λ (e : Entry). e.number ≡ n) t n q refl old (λ e h. eqb-true e.number n (and_left (eqb e.number n) (eqb e.pid q) h))

  pub entry_pid_lem : (entry_for t old n q).pid ≡ q
  entry_pid_lem = entry_either (λ (e : Entry). e.pid ≡ q) t n q refl old (λ e h. eqb-true e.pid q (and_right (eqb e.number n) (eqb e.pid q) h))
