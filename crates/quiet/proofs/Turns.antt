-- The tests of a quiet call, one turn of each loop at a time. Assumes nothing.
use mathlib.Core.Path.{◌≡◌, refl, sym, ap, ◌∙◌}
use mathlib.Core.Bool.{Bool, true, false, cond, ◌&&◌, true≢false}
use mathlib.Core.List.{List, [], ◌∷◌}
use Prim.Native.Nat.{ℕ, ◌+◌, ◌≤◌, ◌<◌}
use native.Mathlib.Omega.{arith}
use lib.ListN.{length, get_or, set, take, drop}
use Rattle.lists.proofs.Turns.{left_turn, left_none}
use Rattle.watches.specs.declared.Entry.{Entry}
use Rattle.watches.specs.Tables.{no_entry, fixed_tables}
use Rattle.watches.specs.Late.{table_rows}
use Rattle.arrays.specs.Lent.{tabled}
use Rattle.arrays.proofs.Tabled.{part_all, part_tabled}
use Rattle.std.specs.Prelude.{Some}
use Rattle.quiet.specs.inner.Quiet.{gap_quiet, rows_quiet, entry_quiet, mark_of, entries_quiet, quiet_byte, glance_of}

pub cond_same : (b : Bool) → b ≡ cond b true false
cond_same true = refl
cond_same false = refl

-- the five gap starts, by name
pub five_all : (l : List ℕ) → length l ≡ 5 → l ≡ get_or l 0 0 ∷ get_or l 1 0 ∷ get_or l 2 0 ∷ get_or l 3 0 ∷ get_or l 4 0 ∷ []
unfolding tabled
five_all l h = sym (part_all l 5 h) ∙ part_tabled l 0 0 5 (omega arith)

chained : (a b c d e : Bool) → cond a (cond b (cond c (cond d (cond e true false) false) false) false) false ≡ (a && b && c && d && e)
chained true true true true true = refl
chained true true true true false = refl
chained true true true false e = refl
chained true true false d e = refl
chained true false c d e = refl
chained false b c d e = refl

pub five_quiet : (p t : ℕ) (l : List ℕ) → length l ≡ 5 → rows_quiet p t (table_rows fixed_tables l)
    ≡ (gap_quiet (13_500_000 ∷ []) p t (get_or l 0 0)
    && gap_quiet (270_000_000 ∷ []) p t (get_or l 1 0)
    && gap_quiet (54_000_000 ∷ []) p t (get_or l 2 0)
    && gap_quiet (54_000_000 ∷ []) p t (get_or l 3 0)
    && gap_quiet (810_000_000 ∷ []) p t (get_or l 4 0))
unfolding rows_quiet table_rows
five_quiet p t l h =
    ap (λ (ss : List ℕ). rows_quiet p t (table_rows fixed_tables ss)) (five_all l h)
    ∙ chained (gap_quiet (13_500_000 ∷ []) p t (get_or l 0 0)) (gap_quiet (270_000_000 ∷ []) p t (get_or l 1 0)) (gap_quiet (54_000_000 ∷ []) p t (get_or l 2 0))
    (gap_quiet (54_000_000 ∷ []) p t (get_or l 3 0)) (gap_quiet (810_000_000 ∷ []) p t (get_or l 4 0))

-- ENTRIES
module _ (es : List Entry) (count i : ℕ) (fits : count ≤ length es) (p t q : ℕ) (marks : List Bool) where
  pub entries_here : (e : Entry) → i < count → get_or es i no_entry ≡ e → entry_quiet p t q e ≡ false → entries_quiet p t q marks (drop i (take count es)) ≡ false
  unfolding entries_quiet
  entries_here e h x f = rw (left_turn es count i no_entry h fits, x, f)

  pub entries_marked : (e : Entry) → i < count → get_or es i no_entry ≡ e → entry_quiet p t q e ≡ true → get_or marks (mark_of e) false ≡ true
      → entries_quiet p t q marks (drop i (take count es)) ≡ false
  unfolding entries_quiet
  entries_marked e h x f g = rw (left_turn es count i no_entry h fits, x, f, g)

  pub entries_on : (e : Entry) → i < count → get_or es i no_entry ≡ e → entry_quiet p t q e ≡ true → get_or marks (mark_of e) false ≡ false
      → entries_quiet p t q marks (drop i (take count es)) ≡ entries_quiet p t q (set marks (mark_of e) true) (drop (i + 1) (take count es))
  unfolding entries_quiet
  entries_on e h x f g = rw (left_turn es count i no_entry h fits, x, f, g)

  pub entries_end : count ≤ i → entries_quiet p t q marks (drop i (take count es)) ≡ true
  unfolding entries_quiet
  entries_end h = rw (left_none es count i h fits)

-- A LADDER of tests that is passed, and what its first rung says
pub passed : (b x : Bool) → cond b x false ≡ true → (b ≡ true) × (x ≡ true)
passed true x e = (refl, e)
passed false x e = absurd (true≢false (sym e))

-- WHAT IS TOLD OF A CALL that is quiet
pub told_quiet : (x : List ℕ) (b left : ℕ) (q : Bool) → Some left ≡ glance_of q x b → (q ≡ true) × (left ≡ quiet_byte x b)
told_quiet x b left true e = (refl, cc)
told_quiet x b left false e = absurd (cc)
