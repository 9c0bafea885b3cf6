-- Programme numbers told apart by marks: a number that is listed has its remainder of 64 marked. Assumes nothing.
use mathlib.Core.Path.{◌≡◌, refl, sym, ap, subst, ◌∙◌}
use mathlib.Core.Bool.{Bool, true, false, cond, not, ◌&&◌, and-false, true≢false}
use mathlib.Core.List.{List, [], ◌∷◌}
use Prim.Native.Nat.{ℕ, zero, suc, ◌+◌, ◌%◌, ◌≤◌, ◌<◌}
use native.Mathlib.Omega.{arith}
use lib.Dec.{eqb}
use lib.ListN.{length, get_or, set, take, drop}
use lib.Seq.{get_or-set_same}
use borrow.Author.Tests.{eqb-true}
use Rattle.lists.proofs.Turns.{left_turn}
use Rattle.watches.specs.declared.Entry.{Entry}
use Rattle.watches.specs.Tables.{no_entry}
use Rattle.calls.specs.Sound.{number_among, entry_sound, entries_sound}

-- every number of the list is marked
abbrev pub Marked : List Bool → List Entry → Type 0
Marked marks es = (n : ℕ) → number_among n es ≡ true → get_or marks (n % 64) false ≡ true

-- a number that is not marked is not listed
pub unmarked_none : (marks : List Bool) (es : List Entry) (n : ℕ) → Marked marks es → get_or marks (n % 64) false ≡ false → number_among n es ≡ false
unmarked_none marks es n h e = go (number_among n es) refl
  where
    go : (b : Bool) → number_among n es ≡ b → b ≡ false
    go true q = absurd (true≢false (sym (h n q) ∙ e))
    go false q = refl

-- a mark that is set stays so
kept : (marks : List Bool) (m i : ℕ) → get_or marks i false ≡ true → get_or (set marks m true) i false ≡ true
kept [] m i e = e
kept (x ∷ marks) zero zero e = refl
kept (x ∷ marks) zero (suc i) e = e
kept (x ∷ marks) (suc m) zero e = e
kept (x ∷ marks) (suc m) (suc i) e = kept marks m i e

-- with the mark of one more entry, every number of the list with that entry is marked
marked_on : (marks : List Bool) (e : Entry) (es : List Entry) → length marks ≡ 64 → Marked marks es → Marked (set marks (e.number % 64) true) (e ∷ es)
unfolding number_among
marked_on marks e es l h n = go (eqb e.number n) refl
  where
    go : (b : Bool) → eqb e.number n ≡ b → cond b true (number_among n es) ≡ true → get_or (set marks (e.number % 64) true) (n % 64) false ≡ true
    go true q z =
        ap (λ (k : ℕ). get_or (set marks (e.number % 64) true) (k % 64) false) (sym (eqb-true e.number n q))
        ∙ get_or-set_same marks (e.number % 64) true false (omega arith)
    go false q z = kept marks (e.number % 64) (n % 64) (h n z)

-- a list that ends in one that is not sound is not sound
pub unsound_end : (es : List Entry) (i : ℕ) → entries_sound (drop i es) ≡ false → entries_sound es ≡ false
unfolding entries_sound
unsound_end [] zero e = e
unsound_end [] (suc i) e = e
unsound_end (x ∷ es) zero e = e
unsound_end (x ∷ es) (suc i) e =
    rw (unsound_end es i e) (and-false (entry_sound x && not (number_among x.number es)))

module _ (es : List Entry) (count i : ℕ) (fits : count ≤ length es) (marks : List Bool) where
  -- one turn of the loop that goes down the first count entries
  pub marked_turn : i < count → length marks ≡ 64 → Marked marks (drop (i + 1) (take count es))
      → Marked (set marks ((get_or es i no_entry).number % 64) true) (drop i (take count es))
  marked_turn h l m =
      subst (λ (rest : List Entry). Marked (set marks ((get_or es i no_entry).number % 64) true) rest) (sym (left_turn es count i no_entry h fits))
      (marked_on marks (get_or es i no_entry) (drop (i + 1) (take count es)) l m)
