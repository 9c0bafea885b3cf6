-- Late events, one watch at a time: the law of the loops that lay them, and how many there are at most. Assumes nothing.
use mathlib.Core.Path.{◌≡◌, refl, sym, ap, ap₂, ◌∙◌}
use mathlib.Core.Bool.{Bool, true, false, ◌&&◌}
use mathlib.Core.List.{List, [], ◌∷◌, ◌++◌, map, append-nil, append_assoc}
use Prim.Native.Nat.{ℕ, zero, suc, ◌+◌, ◌*◌, ◌≤◌, ◌<◌}
use native.Mathlib.Nat.{le_of_suc-le-suc, not-suc-le-zero, suc-mul}
use native.Mathlib.Numerals.{add-one}
use native.Mathlib.Omega.{arith}
use lib.Dec.{leb, ltb}
use lib.ListN.{length, get_or, take, length-append, length-take}
use lib.Seq.{take-suc}
use Rattle.std.specs.Ordering.{nat_cmp, is_le, is_lt}
use Rattle.std.proofs.lemmas.Bool.Decides.{nat_tests}
use Rattle.lateness.specs.Gaps.{keep, due}
use Rattle.events.specs.declared.Event.{Event}
use Rattle.events.specs.Events.{event_at}
use Rattle.events.specs.Faults.{late}
use Rattle.watches.specs.declared.Entry.{Entry}
use Rattle.watches.specs.declared.Table.{Table}
use Rattle.watches.specs.Tables.{latest_time, pmt_table, fixed_tables, fixed_count, table_of, no_entry}
use Rattle.watches.specs.Late.{Row, late_events, row_late, rows_late, table_row, entry_row, table_rows, entry_rows}

-- WHETHER A STAMP FALLS DUE, as a range says it
pub in_range : (p x t : ℕ) → (is_le (nat_cmp p x) && is_lt (nat_cmp x t)) ≡ (leb p x && ltb x t)
in_range p x t = grind (arith, nat_tests)

-- A WATCH has at most one event for each limit
pub late_most : (ls : List ℕ) (f i p t s : ℕ) → length (late_events ls f i p t s) ≤ length ls
late_most [] f i p t s = omega arith
late_most (l ∷ ls) f i p t s = go (leb p (s + l) && ltb (s + l) t) (late_most ls f i p t s)
  where
    go : (b : Bool) → length (late_events ls f i p t s) ≤ length ls
        → length (map (λ x. event_at x f late i) (keep b (s + l) (due ls s p t))) ≤ length (l ∷ ls)
    go true h = omega arith
    go false h = omega arith

-- one limit after others
late_append : (ls ms : List ℕ) (f i p t s : ℕ) → late_events (ls ++ ms) f i p t s ≡ late_events ls f i p t s ++ late_events ms f i p t s
late_append [] ms f i p t s = refl
late_append (l ∷ ls) ms f i p t s = go (leb p (s + l) && ltb (s + l) t) (late_append ls ms f i p t s)
  where
    go : (b : Bool) → late_events (ls ++ ms) f i p t s ≡ late_events ls f i p t s ++ late_events ms f i p t s
        → map (λ x. event_at x f late i) (keep b (s + l) (due (ls ++ ms) s p t))
        ≡ map (λ x. event_at x f late i) (keep b (s + l) (due ls s p t)) ++ late_events ms f i p t s
    go true h = ap (λ (z : List Event). event_at (s + l) f late i ∷ z) h
    go false h = h

pub limits_turn : (ls : List ℕ) (k f i p t s : ℕ) → k < length ls
    → late_events (take (k + 1) ls) f i p t s ≡ late_events (take k ls) f i p t s ++ late_events (get_or ls k 0 ∷ []) f i p t s
limits_turn ls k f i p t s h =
    rw (add-one k) (ap (λ ms. late_events ms f i p t s) (take-suc ls k 0 h) ∙ late_append (take k ls) (get_or ls k 0 ∷ []) f i p t s)

-- WATCHES one after the other
pub rows_append : (p t : ℕ) (ws vs : List Row) → rows_late p t (ws ++ vs) ≡ rows_late p t ws ++ rows_late p t vs
unfolding rows_late
rows_append p t [] vs = refl
rows_append p t (w ∷ ws) vs =
    ap (λ z. row_late p t w ++ z) (rows_append p t ws vs) ∙ sym (append_assoc (row_late p t w) (rows_late p t ws) (rows_late p t vs))

pub rows_turn : (p t k : ℕ) (ws : List Row) (d : Row) → k < length ws → rows_late p t (take (k + 1) ws) ≡ rows_late p t (take k ws) ++ row_late p t (get_or ws k d)
unfolding rows_late
rows_turn p t k ws d h =
    rw (add-one k)
    (ap (rows_late p t) (take-suc ws k d h)
    ∙ rows_append p t (take k ws) (get_or ws k d ∷ [])
    ∙ ap (λ z. rows_late p t (take k ws) ++ z) (append-nil (row_late p t (get_or ws k d))))

pub rows_none : (p t : ℕ) → rows_late p t [] ≡ []
unfolding rows_late
rows_none p t = refl

-- at most `most` events each
abbrev pub FewLimits : ℕ → List Row → Type 0
FewLimits most [] = Unit
FewLimits most (w ∷ ws) = (length w.limits ≤ most) × FewLimits most ws

pub few_both : (most : ℕ) (ws vs : List Row) → FewLimits most ws → FewLimits most vs → FewLimits most (ws ++ vs)
few_both most [] vs f g = g
few_both most (w ∷ ws) vs f g = (f.0, few_both most ws vs f.1 g)

pub few_take : (most k : ℕ) (ws : List Row) → FewLimits most ws → FewLimits most (take k ws)
few_take most zero ws f = tt
few_take most (suc k) [] f = tt
few_take most (suc k) (w ∷ ws) f = (f.0, few_take most k ws f.1)

pub rows_most : (most p t : ℕ) (ws : List Row) → FewLimits most ws → length (rows_late p t ws) ≤ length ws * most
unfolding rows_late
rows_most most p t [] f = omega arith
rows_most most p t (w ∷ ws) f =
    omega (
      arith,
      length-append (row_late p t w) (rows_late p t ws),
      late_most w.limits w.fault w.id p t w.since,
      rows_most most p t ws f.1,
      f.0,
      suc-mul (length ws) most,
    )

-- THE FIXED TABLES
-- each limit is a time
abbrev pub TimesIn : List ℕ → Type 0
TimesIn ls = (i : ℕ) → get_or ls i 0 ≤ latest_time

one_time : (l : ℕ) → l ≤ latest_time → TimesIn (l ∷ [])
one_time l h zero = h
one_time l h (suc i) = omega arith

pub limits_times : (k : ℕ) → TimesIn (table_of k).limits
limits_times zero = one_time _ (omega arith)
limits_times (suc zero) = one_time _ (omega arith)
limits_times (suc (suc zero)) = one_time _ (omega arith)
limits_times (suc (suc (suc zero))) = one_time _ (omega arith)
limits_times (suc (suc (suc (suc zero)))) = one_time _ (omega arith)
limits_times (suc (suc (suc (suc (suc k))))) = one_time _ (omega arith)

pub table_at : (k : ℕ) (rs : List Table) (ss : List ℕ) (d : Table) (e : ℕ) (w : Row) → k < length rs → k < length ss
    → get_or (table_rows rs ss) k w ≡ table_row (get_or rs k d) (get_or ss k e)
unfolding table_rows
table_at k [] ss d e w h g = absurd (not-suc-le-zero h)
table_at k (r ∷ rs) [] d e w h g = absurd (not-suc-le-zero g)
table_at zero (r ∷ rs) (s ∷ ss) d e w h g = refl
table_at (suc k) (r ∷ rs) (s ∷ ss) d e w h g = table_at k rs ss d e w (le_of_suc-le-suc h) (le_of_suc-le-suc g)

pub tables_within : (rs : List Table) (ss : List ℕ) → length (table_rows rs ss) ≤ length rs
unfolding table_rows
tables_within [] ss = omega arith
tables_within (r ∷ rs) [] = omega arith
tables_within (r ∷ rs) (s ∷ ss) = omega (arith, tables_within rs ss)

pub tables_length : (rs : List Table) (ss : List ℕ) → length rs ≡ length ss → length (table_rows rs ss) ≡ length rs
unfolding table_rows
tables_length [] ss e = refl
tables_length (r ∷ rs) [] e = sym e
tables_length (r ∷ rs) (s ∷ ss) e = ap suc (tables_length rs ss (omega arith))

abbrev FewIn : ℕ → List Table → Type 0
FewIn most [] = Unit
FewIn most (r ∷ rs) = (length r.limits ≤ most) × FewIn most rs

tables_few : (most : ℕ) (rs : List Table) (ss : List ℕ) → FewIn most rs → FewLimits most (table_rows rs ss)
unfolding table_rows
tables_few most [] ss f = tt
tables_few most (r ∷ rs) [] f = tt
tables_few most (r ∷ rs) (s ∷ ss) f = (f.0, tables_few most rs ss f.1)

-- one limit each
fixed_few : FewIn 1 fixed_tables
fixed_few = (omega arith, (omega arith, (omega arith, (omega arith, (omega arith, tt)))))

pub fixed_rows_few : (ss : List ℕ) → FewLimits 1 (table_rows fixed_tables ss)
fixed_rows_few ss = tables_few 1 fixed_tables ss fixed_few

pub tables_most : (p t k : ℕ) (ss : List ℕ) → length (rows_late p t (take k (table_rows fixed_tables ss))) ≤ k
tables_most p t k ss =
    let rows = table_rows fixed_tables ss in
    omega (arith, rows_most 1 p t (take k rows) (few_take 1 k rows (fixed_rows_few ss)), length-take k rows)

pub tables_whole : (p t : ℕ) (ss : List ℕ) → length (rows_late p t (table_rows fixed_tables ss)) ≤ fixed_count
tables_whole p t ss =
    omega (arith, rows_most 1 p t (table_rows fixed_tables ss) (fixed_rows_few ss), tables_within fixed_tables ss)

few_at : (most : ℕ) (rs : List Table) (d : Table) → FewIn most rs → length d.limits ≤ most → (k : ℕ) → length (get_or rs k d).limits ≤ most
few_at most [] d f h k = h
few_at most (r ∷ rs) d f h zero = f.0
few_at most (r ∷ rs) d f h (suc k) = few_at most rs d f.1 h k

pub limits_few : (k : ℕ) → length (table_of k).limits ≤ 1
limits_few = few_at 1 fixed_tables pmt_table fixed_few (omega arith)

-- THE LISTED PROGRAMMES
pub take_entries : (k : ℕ) (es : List Entry) → entry_rows (take k es) ≡ take k (entry_rows es)
take_entries zero es = refl
take_entries (suc k) [] = refl
take_entries (suc k) (e ∷ es) = ap (λ z. entry_row e ∷ z) (take_entries k es)

pub entry_at : (k : ℕ) (es : List Entry) → get_or (entry_rows es) k (entry_row no_entry) ≡ entry_row (get_or es k no_entry)
entry_at k [] = refl
entry_at zero (e ∷ es) = refl
entry_at (suc k) (e ∷ es) = entry_at k es

pub entries_length : (es : List Entry) → length (entry_rows es) ≡ length es
entries_length [] = refl
entries_length (e ∷ es) = ap suc (entries_length es)

pub entries_few : (es : List Entry) → FewLimits 1 (entry_rows es)
entries_few [] = tt
entries_few (e ∷ es) = (omega arith, entries_few es)

pub entries_turn : (p t k : ℕ) (es : List Entry) → k < length es
    → rows_late p t (entry_rows (take (k + 1) es)) ≡ rows_late p t (entry_rows (take k es)) ++ row_late p t (entry_row (get_or es k no_entry))
entries_turn p t k es h =
    ap (rows_late p t) (take_entries (k + 1) es)
    ∙ rows_turn p t k (entry_rows es) (entry_row no_entry) (omega (arith, entries_length es))
    ∙ ap₂ (λ (ws : List Row) (w : Row). rows_late p t ws ++ row_late p t w) (sym (take_entries k es)) (entry_at k es)

pub entries_most : (p t k : ℕ) (es : List Entry) → length (rows_late p t (entry_rows (take k es))) ≤ k
entries_most p t k es =
    omega (arith, rows_most 1 p t (entry_rows (take k es)) (entries_few (take k es)), entries_length (take k es), length-take k es)
