-- The late events of a call: those with one watch's name are what falls due of its own gap, and a packet's own events are none. One law over
-- the place in the table and in the list. Assumes nothing.
use mathlib.Core.Path.{◌≡◌, refl, sym, ap, ap₂, subst, ◌∙◌}
use mathlib.Core.Bool.{Bool, true, false, cond, not, ◌&&◌, true≢false}
use mathlib.Core.List.{List, [], ◌∷◌, ◌++◌, map, append-nil}
use Prim.Native.Nat.{ℕ, zero, suc, ◌<◌}
use native.Mathlib.Nat.{le_of_suc-le-suc, not-suc-le-zero}
use native.Mathlib.Omega.{arith}
use lib.Dec.{eqb}
use lib.ListN.{length, get_or}
use borrow.Author.Tests.{eqb-true, eqb-false, eq-eqb, ne_eqb, not-true}
use Rattle.lists.proofs.Tests.{and_left, and_right, or_false_left, or_false_right}
use Rattle.lists.proofs.Table.{passes_at}
use Rattle.lateness.specs.Gaps.{due, due_of, Watch, off, on}
use Rattle.events.specs.declared.Event.{Event}
use Rattle.events.specs.Faults.{late}
use Rattle.events.specs.Events.{event_at}
use Rattle.watches.specs.declared.Entry.{Entry}
use Rattle.watches.specs.declared.Table.{Table}
use Rattle.watches.specs.Tables.{fixed_tables, table_of, pmt_table}
use Rattle.watches.specs.Late.{Row, rows_late, table_row, entry_row, table_rows, entry_rows}
use Rattle.programmes.specs.Listing.{is_pair}
use Rattle.calls.specs.declared.Core.{Core}
use Rattle.calls.specs.Cores.{listed, board_of, late_of}
use Rattle.calls.specs.Sound.{number_among, entry_sound, entries_sound}
use Rattle.demands.specs.Listening.{pair_of, paired}
use Rattle.demands.specs.Judgements.{Watched, fixed, programme, limits_of, fault_of, id_of, IsWatched, is_late, late_for, on_watch, table_named, is_named}
use Rattle.demands.specs.Pages.{found}
use Rattle.demands.proofs.Watches.{watch_in, is_on, paired_found, same_number, same_pid}

-- STAMPS BY NAME
unfoldable pub stamps_of : ℕ → ℕ → List Event → List ℕ
stamps_of f i [] = []
stamps_of f i (e ∷ es) = cond (is_late f i e) (e.stamp ∷ stamps_of f i es) (stamps_of f i es)

-- a late event by name is its stamp
event_named : (f i : ℕ) (e : Event) → is_late f i e ≡ true → e ≡ event_at e.stamp f late i
event_named f i e h =
    let named = and_right (eqb e.cause late) (eqb e.fault f && eqb e.id i) h in
    λ k. record {
      stamp = e.stamp;
      fault = eqb-true e.fault f (and_left (eqb e.fault f) (eqb e.id i) named) k;
      cause = eqb-true e.cause late (and_left (eqb e.cause late) (eqb e.fault f && eqb e.id i) h) k;
      id = eqb-true e.id i (and_right (eqb e.fault f) (eqb e.id i) named) k;
    }

pub late_for_stamps : (f i : ℕ) (es : List Event) → late_for f i es ≡ map (λ x. event_at x f late i) (stamps_of f i es)
unfolding late_for stamps_of
late_for_stamps f i [] = refl
late_for_stamps f i (e ∷ es) = go (is_late f i e) refl (late_for_stamps f i es)
  where
    go : (b : Bool) → is_late f i e ≡ b → late_for f i es ≡ map (λ x. event_at x f late i) (stamps_of f i es)
        → cond b (e ∷ late_for f i es) (late_for f i es) ≡ map (λ x. event_at x f late i) (cond b (e.stamp ∷ stamps_of f i es) (stamps_of f i es))
    go true h ih = ap₂ (λ x y. x ∷ y) (event_named f i e h) ih
    go false h ih = ih

pub stamps_of_append : (f i : ℕ) (xs ys : List Event) → stamps_of f i (xs ++ ys) ≡ stamps_of f i xs ++ stamps_of f i ys
unfolding stamps_of
stamps_of_append f i [] ys = refl
stamps_of_append f i (e ∷ xs) ys = go (is_late f i e) (stamps_of_append f i xs ys)
  where
    go : (b : Bool) → stamps_of f i (xs ++ ys) ≡ stamps_of f i xs ++ stamps_of f i ys
        → cond b (e.stamp ∷ stamps_of f i (xs ++ ys)) (stamps_of f i (xs ++ ys)) ≡ cond b (e.stamp ∷ stamps_of f i xs) (stamps_of f i xs) ++ stamps_of f i ys
    go true h = ap (λ z. e.stamp ∷ z) h
    go false h = h

stamps_of_own : (f i : ℕ) (ss : List ℕ) → stamps_of f i (map (λ x. event_at x f late i) ss) ≡ ss
unfolding stamps_of
stamps_of_own f i [] = refl
stamps_of_own f i (s ∷ ss) = rw (eq-eqb f f refl, eq-eqb i i refl) (ap (λ z. s ∷ z) (stamps_of_own f i ss))

stamps_of_other : (f i g j : ℕ) (ss : List ℕ) → eqb g f && eqb j i ≡ false → stamps_of f i (map (λ x. event_at x g late j) ss) ≡ []
unfolding stamps_of
stamps_of_other f i g j [] e = refl
stamps_of_other f i g j (s ∷ ss) e = rw e (stamps_of_other f i g j ss e)

-- a watch of another name before, or none after, gives nothing
stamps_of_after : (f i g j : ℕ) (ss : List ℕ) (es : List Event) → eqb g f && eqb j i ≡ false
    → stamps_of f i (map (λ x. event_at x g late j) ss ++ es) ≡ stamps_of f i es
stamps_of_after f i g j ss es e = stamps_of_append f i (map (λ x. event_at x g late j) ss) es ∙ ap (λ z. z ++ stamps_of f i es) (stamps_of_other f i g j ss e)

stamps_of_only : (f i : ℕ) (ss : List ℕ) (es : List Event) → stamps_of f i es ≡ [] → stamps_of f i (map (λ x. event_at x f late i) ss ++ es) ≡ ss
stamps_of_only f i ss es e =
    stamps_of_append f i (map (λ x. event_at x f late i) ss) es ∙ ap₂ (λ a b. a ++ b) (stamps_of_own f i ss) e ∙ append-nil ss

-- TESTS
pub eqb_comm : (a b : ℕ) → eqb a b ≡ eqb b a
eqb_comm a b = go (eqb a b) refl
  where
    go : (d : Bool) → eqb a b ≡ d → d ≡ eqb b a
    go true e = sym (eq-eqb b a (sym (eqb-true a b e)))
    go false e = sym (ne_eqb b a (λ z. eqb-false a b e (sym z)))

and_none : (a b : Bool) → a ≡ false → a && b ≡ false
and_none true b e = absurd (true≢false e)
and_none false b e = refl

pub cond_none : (a b : Bool) → cond a true b ≡ false → a ≡ false
cond_none true b e = e
cond_none false b e = refl

pub cond_rest : (a b : Bool) → cond a true b ≡ false → b ≡ false
cond_rest true b e = absurd (true≢false e)
cond_rest false b e = e

-- WATCHES BY NAME, any of them
abbrev named : ℕ → ℕ → Row → Bool
named f i w = eqb w.fault f && eqb w.id i

abbrev NoneNamed : ℕ → ℕ → List Row → Type 0
NoneNamed f i [] = Unit
NoneNamed f i (w ∷ ws) = (named f i w ≡ false) × NoneNamed f i ws

none_both : (f i : ℕ) (ws vs : List Row) → NoneNamed f i ws → NoneNamed f i vs → NoneNamed f i (ws ++ vs)
none_both f i [] vs a b = b
none_both f i (w ∷ ws) vs a b = (a.0, none_both f i ws vs a.1 b)

rows_unnamed : (f i p t : ℕ) (ws : List Row) → NoneNamed f i ws → stamps_of f i (rows_late p t ws) ≡ []
unfolding rows_late stamps_of
rows_unnamed f i p t [] n = refl
rows_unnamed f i p t (w ∷ ws) n =
    stamps_of_after f i w.fault w.id (due w.limits w.since p t) (rows_late p t ws) n.0 ∙ rows_unnamed f i p t ws n.1

-- the one of its name
data Only (w : Row) : List Row → Type 0 where
  here : {ws : List Row} → NoneNamed w.fault w.id ws → Only w (w ∷ ws)
  there : {v : Row} {ws : List Row} → named w.fault w.id v ≡ false → Only w ws → Only w (v ∷ ws)

only_front : {w : Row} {ws : List Row} (vs : List Row) → Only w ws → NoneNamed w.fault w.id vs → Only w (ws ++ vs)
only_front {w} vs (here {ws} n) z = here (none_both w.fault w.id ws vs n z)
only_front vs (there e o) z = there e (only_front vs o z)

only_behind : {w : Row} {vs : List Row} (ws : List Row) → NoneNamed w.fault w.id ws → Only w vs → Only w (ws ++ vs)
only_behind [] n o = o
only_behind (v ∷ ws) n o = there n.0 (only_behind ws n.1 o)

rows_only : {w : Row} {ws : List Row} (p t : ℕ) → Only w ws → stamps_of w.fault w.id (rows_late p t ws) ≡ due w.limits w.since p t
unfolding rows_late
rows_only {w} p t (here {ws} n) =
    stamps_of_only w.fault w.id (due w.limits w.since p t) (rows_late p t ws) (rows_unnamed w.fault w.id p t ws n)
rows_only {w} p t (there {v} {ws} e o) =
    stamps_of_after w.fault w.id v.fault v.id (due v.limits v.since p t) (rows_late p t ws) e ∙ rows_only p t o

-- THE FIXED TABLES, each of its own name
abbrev Apart : List Table → Type 0
Apart [] = Unit
Apart (r ∷ rs) = (table_named r.fault r.pid rs ≡ false) × Apart rs

tables_none : (f i : ℕ) (rs : List Table) (ss : List ℕ) → table_named f i rs ≡ false → NoneNamed f i (table_rows rs ss)
unfolding table_rows table_named
tables_none f i [] ss e = tt
tables_none f i (r ∷ rs) [] e = tt
tables_none f i (r ∷ rs) (s ∷ ss) e =
    (cond_none (eqb r.fault f && eqb r.pid i) (table_named f i rs) e, tables_none f i rs ss (cond_rest (eqb r.fault f && eqb r.pid i) (table_named f i rs) e))

named_other : (f i k : ℕ) (rs : List Table) (d : Table) → table_named f i rs ≡ false → k < length rs
    → eqb f (get_or rs k d).fault && eqb i (get_or rs k d).pid ≡ false
unfolding table_named
named_other f i k [] d e h = absurd (not-suc-le-zero h)
named_other f i zero (r ∷ rs) d e h =
    rw (eqb_comm f r.fault, eqb_comm i r.pid) (cond_none (eqb r.fault f && eqb r.pid i) (table_named f i rs) e)
named_other f i (suc k) (r ∷ rs) d e h =
    named_other f i k rs d (cond_rest (eqb r.fault f && eqb r.pid i) (table_named f i rs) e) (le_of_suc-le-suc h)

tables_only : (k : ℕ) (rs : List Table) (ss : List ℕ) (d : Table) → Apart rs → k < length rs → k < length ss
    → Only (table_row (get_or rs k d) (get_or ss k 0)) (table_rows rs ss)
unfolding table_rows
tables_only k [] ss d a h g = absurd (not-suc-le-zero h)
tables_only k (r ∷ rs) [] d a h g = absurd (not-suc-le-zero g)
tables_only zero (r ∷ rs) (s ∷ ss) d a h g = here (tables_none r.fault r.pid rs ss a.0)
tables_only (suc k) (r ∷ rs) (s ∷ ss) d a h g =
    there (named_other r.fault r.pid k rs d a.0 (le_of_suc-le-suc h)) (tables_only k rs ss d a.1 (le_of_suc-le-suc h) (le_of_suc-le-suc g))

fixed_apart : Apart fixed_tables
unfolding table_named
fixed_apart = (refl, (refl, (refl, (refl, (refl, tt)))))

-- no programme has a fixed table's fault
pub fault_other : (k : ℕ) → k < length fixed_tables → eqb pmt_table.fault (table_of k).fault ≡ false
fault_other k h = not-true (eqb pmt_table.fault (table_of k).fault) (passes_at (λ j. not (eqb pmt_table.fault (table_of j).fault)) 5 refl k h)

pmt_unnamed : (n : ℕ) → table_named pmt_table.fault n fixed_tables ≡ false
unfolding table_named
pmt_unnamed n = refl

-- THE LISTED PROGRAMMES, each of its own number
entries_foreign : (f i : ℕ) (es : List Entry) → eqb pmt_table.fault f ≡ false → NoneNamed f i (entry_rows es)
entries_foreign f i [] e = tt
entries_foreign f i (x ∷ es) e = (and_none (eqb pmt_table.fault f) (eqb x.number i) e, entries_foreign f i es e)

entries_absent : (n : ℕ) (es : List Entry) → number_among n es ≡ false → NoneNamed pmt_table.fault n (entry_rows es)
unfolding number_among
entries_absent n [] e = tt
entries_absent n (x ∷ es) e = (cond_none (eqb x.number n) (number_among n es) e, entries_absent n es (cond_rest (eqb x.number n) (number_among n es) e))

found_number : (n q s : ℕ) (es : List Entry) → found n q es ≡ on s → number_among n es ≡ true
unfolding found number_among
found_number n q s [] e = cc
found_number n q s (x ∷ es) e = go (eqb x.number n) (eqb x.pid q) e (found_number n q s es)
  where
    go : (a b : Bool) → cond (a && b) (on x.since) (found n q es) ≡ on s → (found n q es ≡ on s → number_among n es ≡ true)
        → cond a true (number_among n es) ≡ true
    go true b e ih = refl
    go false b e ih = ih e

abbrev row_of : ℕ → ℕ → Row
row_of n s = record { limits = pmt_table.limits; fault = pmt_table.fault; id = n; since = s }

entries_only : (n q s : ℕ) (es : List Entry) → entries_sound es ≡ true → found n q es ≡ on s → Only (row_of n s) (entry_rows es)
unfolding found entries_sound
entries_only n q s [] a e = absurd (true≢false (cc))
entries_only n q s (x ∷ es) a e = go (is_pair n q x) refl e (entries_only n q s es sound)
  where
    sound : entries_sound es ≡ true
    sound = and_right (entry_sound x && not (number_among x.number es)) (entries_sound es) a

    alone : number_among x.number es ≡ false
    alone =
        not-true (number_among x.number es)
        (and_right (entry_sound x) (not (number_among x.number es)) (and_left (entry_sound x && not (number_among x.number es)) (entries_sound es) a))

    apart : (b : Bool) → eqb x.number n ≡ b → found n q es ≡ on s → b ≡ false
    apart true h f =
        absurd (true≢false (sym (found_number n q s es f) ∙ ap (λ z. number_among z es) (sym (eqb-true x.number n h)) ∙ alone))
    apart false h f = refl

    go : (b : Bool) → is_pair n q x ≡ b → cond b (on x.since) (found n q es) ≡ on s → (found n q es ≡ on s → Only (row_of n s) (entry_rows es))
        → Only (row_of n s) (entry_row x ∷ entry_rows es)
    go true h e ih =
        let same : x.number ≡ n = same_number n q x h in
        let start : x.since ≡ s = cc in
        subst (λ (w : Row). Only w (entry_row x ∷ entry_rows es)) (ap₂ row_of same start) (here (entries_absent x.number es alone))
    go false h e ih = there (apart (eqb x.number n) refl e) (ih e)

-- a listed number has one PID
paired_number : (n q : ℕ) (es : List Entry) → paired n q (map pair_of es) ≡ true → number_among n es ≡ true
paired_number n q es e = go (found n q es) refl
  where
    go : (v : Watch) → found n q es ≡ v → number_among n es ≡ true
    go off h = absurd (true≢false (sym e ∙ paired_found n q es ∙ ap is_on h))
    go (on s) h = found_number n q s es h

pub paired_once : (n q r : ℕ) (es : List Entry) → entries_sound es ≡ true → paired n q (map pair_of es) ≡ true → paired n r (map pair_of es) ≡ true → q ≡ r
unfolding paired entries_sound
paired_once n q r [] a e h = absurd (true≢false (sym e))
paired_once n q r (x ∷ es) a e h = go (is_pair n q x) (is_pair n r x) refl refl e h (paired_once n q r es sound)
  where
    sound : entries_sound es ≡ true
    sound = and_right (entry_sound x && not (number_among x.number es)) (entries_sound es) a

    alone : number_among x.number es ≡ false
    alone =
        not-true (number_among x.number es)
        (and_right (entry_sound x) (not (number_among x.number es)) (and_left (entry_sound x && not (number_among x.number es)) (entries_sound es) a))

    again : (p : ℕ) → x.number ≡ n → paired n p (map pair_of es) ≡ true → q ≡ r
    again p same g = absurd (true≢false (sym (paired_number n p es g) ∙ ap (λ z. number_among z es) (sym same) ∙ alone))

    go : (b d : Bool) → is_pair n q x ≡ b → is_pair n r x ≡ d → cond b true (paired n q (map pair_of es)) ≡ true
        → cond d true (paired n r (map pair_of es)) ≡ true
        → (paired n q (map pair_of es) ≡ true → paired n r (map pair_of es) ≡ true → q ≡ r) → q ≡ r
    go true true u v e h ih = sym (same_pid n q x u) ∙ same_pid n r x v
    go true false u v e h ih = again r (same_number n q x u) h
    go false true u v e h ih = again q (same_number n r x v) e
    go false false u v e h ih = ih e h

-- THE LATE EVENTS OF A CALL with the watch's name are what falls due
pub late_due : (w : Watched) (p t : ℕ) (c : Core) → IsWatched w → length c.since ≡ length fixed_tables → entries_sound (listed c) ≡ true
    → cond (on_watch w c) (stamps_of (fault_of w) (id_of w) (late_of p t c)) [] ≡ due_of (limits_of w) (watch_in w c) p t
unfolding late_of
late_due (fixed k) p t c h l a =
    rows_only p t
    (only_front (entry_rows (listed c)) (tables_only k fixed_tables c.since pmt_table fixed_apart h (omega arith))
    (entries_foreign (table_of k).fault (table_of k).pid (listed c) (fault_other k h)))
late_due (programme n q) p t c h l a = go (found n q (listed c)) refl
  where
    go : (v : Watch) → found n q (listed c) ≡ v
        → cond (paired n q (map pair_of (listed c))) (stamps_of pmt_table.fault n (rows_late p t (board_of c))) [] ≡ due_of pmt_table.limits v p t
    go off e = rw (paired_found n q (listed c), e)
    go (on s) e =
        rw (paired_found n q (listed c), e)
        (rows_only p t
        (only_behind (table_rows fixed_tables c.since) (tables_none pmt_table.fault n fixed_tables c.since (pmt_unnamed n)) (entries_only n q s (listed c) a e)))

-- and a name that no watch has, none
pub late_unnamed : (f i p t : ℕ) (c : Core) → is_named f i c ≡ false → stamps_of f i (late_of p t c) ≡ []
unfolding late_of
late_unnamed f i p t c e =
    rows_unnamed f i p t (board_of c)
    (none_both f i (table_rows fixed_tables c.since) (entry_rows (listed c))
    (tables_none f i fixed_tables c.since (or_false_left (table_named f i fixed_tables) (eqb pmt_table.fault f && number_among i (listed c)) e))
    (go (eqb pmt_table.fault f) refl (or_false_right (table_named f i fixed_tables) (eqb pmt_table.fault f && number_among i (listed c)) e)))
  where
    go : (b : Bool) → eqb pmt_table.fault f ≡ b → b && number_among i (listed c) ≡ false → NoneNamed f i (entry_rows (listed c))
    go true h g = subst (λ (z : ℕ). NoneNamed z i (entry_rows (listed c))) (eqb-true pmt_table.fault f h) (entries_absent i (listed c) g)
    go false h g = entries_foreign f i (listed c) h
