-- Searches through a list, by the library. Assumes nothing.
use mathlib.Core.Path.{◌≡◌, refl, sym, ap}
use mathlib.Core.Bool.{Bool, true, false, cond}
use mathlib.Core.List.{List, [], ◌∷◌}
use Prim.Native.Nat.{ℕ, ◌+◌}
use lib.Dec.{eqb, ltb}
use Rattle.std.specs.Prelude.{Some, None, unwrap_or, position, find}
use Rattle.std.proofs.Math.Numerals.{one-add}
use Rattle.std.proofs.lemmas.List.Recursion.{is_position_or_len}
use lib.ListN.{length}
use Rattle.watches.specs.declared.Entry.{Entry}
use Rattle.programmes.specs.Listing.{is_pair, entry_for}
use Rattle.programmes.specs.inner.Moving.{listed_place}
use Rattle.programmes.specs.Places.{place_of}

-- THE LIBRARY'S SEARCHES are these
pub place_found : (q : ℕ) (es : List Entry) → position (λ (e : Entry). eqb e.pid q) es ≡ listed_place q es
unfolding place_of
place_found q es =
    ap (λ k. cond (ltb k (length es)) (Some k) None) (sym (is_position_or_len (place_of q) (λ (e : Entry). eqb e.pid q) refl turn es))
  where
    turn : (e : Entry) (es : List Entry) → place_of q (e ∷ es) ≡ cond (eqb e.pid q) 0 (1 + place_of q es)
    turn e es = ap (cond (eqb e.pid q) 0) (sym (one-add (place_of q es)))

pub entry_found : (t n q : ℕ) (es : List Entry) → unwrap_or (find (is_pair n q) es) (record { number = n; pid = q; since = t }) ≡ entry_for t es n q
unfolding entry_for
entry_found t n q [] = refl
entry_found t n q (e ∷ es) = go (is_pair n q e) (entry_found t n q es)
  where
    new : Entry
    new = record { number = n; pid = q; since = t }

    go : (b : Bool) → unwrap_or (find (is_pair n q) es) new ≡ entry_for t es n q → unwrap_or (cond b (Some e) (find (is_pair n q) es)) new ≡ cond b e (entry_for t es n q)
    go true h = refl
    go false h = h
