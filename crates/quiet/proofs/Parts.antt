-- What a quiet call's tests say: of the watches, of the list, of half-built sections. Assumes nothing.
use mathlib.Core.Path.{◌≡◌, refl, sym, ap, ◌∙◌}
use mathlib.Core.Bool.{Bool, true, false, cond, not, ◌&&◌, true≢false}
use mathlib.Core.List.{List, [], ◌∷◌, ◌++◌, map}
use Prim.Native.Nat.{ℕ, zero, suc, ◌%◌, ◌≤◌, ◌<◌}
use native.Mathlib.Nat.{le_of_suc-le-suc, not-suc-le-zero}
use native.Mathlib.Omega.{arith}
use lib.Dec.{leb, eqb}
use lib.ListN.{length, get_or, set, length-set, get_or-eq_default}
use lib.Seq.{get_or-set_same, get_or-set_other}
use borrow.Author.Tests.{leb-true, eqb-false, not-true}
use Rattle.lists.proofs.Tests.{and_left, and_right}
use Rattle.lateness.specs.Gaps.{due}
use Rattle.events.specs.Faults.{late}
use Rattle.events.specs.Events.{event_at}
use Rattle.watches.specs.declared.Entry.{Entry}
use Rattle.watches.specs.declared.Table.{Table}
use Rattle.watches.specs.Tables.{no_entry, latest_time}
use Rattle.watches.specs.Late.{Row, row_late, rows_late, table_row, entry_row, table_rows, entry_rows}
use Rattle.programmes.specs.Listing.{lowest_pid}
use Rattle.programmes.specs.Places.{place_of}
use Rattle.calls.specs.Sound.{greatest_pid, time_sound}
use Rattle.calls.proofs.Accepted.{SoundEntry, SoundList}
use Rattle.quiet.specs.inner.Quiet.{none, row_quiet, rows_quiet, entry_quiet, mark_of, entries_quiet}
use Rattle.quiet.proofs.Turns.{passed}

-- A QUIET WATCH is sound and gives no event
none_nil : (xs : List ℕ) → none xs ≡ true → xs ≡ []
none_nil [] e = refl
none_nil (x ∷ xs) e = absurd (true≢false (sym e))

module _ (p t : ℕ) (w : Row) (e : row_quiet p t w ≡ true) where
  row_sound : w.since ≤ latest_time
  row_sound = leb-true w.since latest_time (and_left (time_sound w.since) (none (due w.limits w.since p t)) e)

  row_timely : row_late p t w ≡ []
  row_timely =
      ap (map (λ x. event_at x w.fault late w.id)) (none_nil (due w.limits w.since p t) (and_right (time_sound w.since) (none (due w.limits w.since p t)) e))

-- WATCHES one after the other
pub rows_timely : (p t : ℕ) (ws : List Row) → rows_quiet p t ws ≡ true → rows_late p t ws ≡ []
unfolding rows_quiet rows_late
rows_timely p t [] e = refl
rows_timely p t (w ∷ ws) e =
    let a = passed (row_quiet p t w) (rows_quiet p t ws) e in
    rw (row_timely p t w a.0) (rows_timely p t ws a.1)

pub rows_both : (p t : ℕ) (ws vs : List Row) → rows_quiet p t ws ≡ true → rows_quiet p t vs ≡ true → rows_quiet p t (ws ++ vs) ≡ true
unfolding rows_quiet
rows_both p t [] vs e f = f
rows_both p t (w ∷ ws) vs e f =
    let a = passed (row_quiet p t w) (rows_quiet p t ws) e in
    rw a.0 (rows_both p t ws vs a.1 f)

-- THE FIXED TABLES
pub tables_sound : (p t : ℕ) (rs : List Table) (ss : List ℕ) → length ss ≤ length rs → rows_quiet p t (table_rows rs ss) ≡ true → (k : ℕ) → get_or ss k 0 ≤ latest_time
unfolding rows_quiet table_rows
tables_sound p t rs [] h e k = omega (arith, get_or-eq_default {A = ℕ} [] 0 {n = k} (omega arith))
tables_sound p t [] (s ∷ ss) h e k = absurd (not-suc-le-zero h)
tables_sound p t (r ∷ rs) (s ∷ ss) h e zero = row_sound p t (table_row r s) (passed (row_quiet p t (table_row r s)) (rows_quiet p t (table_rows rs ss)) e).0
tables_sound p t (r ∷ rs) (s ∷ ss) h e (suc k) =
    tables_sound p t rs ss (le_of_suc-le-suc h) (passed (row_quiet p t (table_row r s)) (rows_quiet p t (table_rows rs ss)) e).1 k

-- A QUIET ENTRY
module _ (p t q : ℕ) (x : Entry) (h : entry_quiet p t q x ≡ true) where
  pub entry_sound_lem : SoundEntry x
  entry_sound_lem =
      let a = not (eqb x.number 0) in
      let b = leb lowest_pid x.pid in
      let c = leb x.pid greatest_pid in
      let d = not (eqb x.pid q) in
      let g = row_quiet p t (entry_row x) in
      let abcd = and_left (a && b && c && d) g h in
      let abc = and_left (a && b && c) d abcd in
      let ab = and_left (a && b) c abc in
      record {
        number = eqb-false x.number 0 (not-true (eqb x.number 0) (and_left a b ab));
        low = leb-true lowest_pid x.pid (and_right a b ab);
        high = leb-true x.pid greatest_pid (and_right (a && b) c abc);
        since = row_sound p t (entry_row x) (and_right (a && b && c && d) g h);
      }

  pub entry_other : eqb x.pid q ≡ false
  entry_other =
      let abc = not (eqb x.number 0) && leb lowest_pid x.pid && leb x.pid greatest_pid in
      let d = not (eqb x.pid q) in
      not-true (eqb x.pid q) (and_right abc d (and_left (abc && d) (row_quiet p t (entry_row x)) h))

  entry_row_lem : row_quiet p t (entry_row x) ≡ true
  entry_row_lem =
      let abcd = not (eqb x.number 0) && leb lowest_pid x.pid && leb x.pid greatest_pid && not (eqb x.pid q) in
      and_right abcd (row_quiet p t (entry_row x)) h

-- QUIET ENTRIES
module _ (p t q : ℕ) where
  head_quiet_lem : (marks : List Bool) (x : Entry) (es : List Entry) → entries_quiet p t q marks (x ∷ es) ≡ true → entry_quiet p t q x ≡ true
  unfolding entries_quiet
  head_quiet_lem marks x es e = (passed (entry_quiet p t q x) (cond (get_or marks (mark_of x) false) false (entries_quiet p t q (set marks (mark_of x) true) es)) e).0

  rest_quiet_lem : (marks : List Bool) (x : Entry) (es : List Entry) → entries_quiet p t q marks (x ∷ es) ≡ true
      → (get_or marks (mark_of x) false ≡ false) × (entries_quiet p t q (set marks (mark_of x) true) es ≡ true)
  unfolding entries_quiet
  rest_quiet_lem marks x es e =
      go (get_or marks (mark_of x) false)
      (passed (entry_quiet p t q x) (cond (get_or marks (mark_of x) false) false (entries_quiet p t q (set marks (mark_of x) true) es)) e).1
    where
      go : (b : Bool) → cond b false (entries_quiet p t q (set marks (mark_of x) true) es) ≡ true
          → (b ≡ false) × (entries_quiet p t q (set marks (mark_of x) true) es ≡ true)
      go true z = absurd (true≢false (sym z))
      go false z = (refl, z)

  pub entries_rows : (marks : List Bool) (es : List Entry) → entries_quiet p t q marks es ≡ true → rows_quiet p t (entry_rows es) ≡ true
  unfolding rows_quiet
  entries_rows marks [] e = refl
  entries_rows marks (x ∷ es) e =
      rw (entry_row_lem p t q x (head_quiet_lem marks x es e)) (entries_rows (set marks (mark_of x) true) es (rest_quiet_lem marks x es e).1)

  pub entries_other : (marks : List Bool) (es : List Entry) → entries_quiet p t q marks es ≡ true → place_of q es ≡ length es
  unfolding place_of
  entries_other marks [] e = refl
  entries_other marks (x ∷ es) e =
      rw (entry_other p t q x (head_quiet_lem marks x es e)) (ap suc (entries_other (set marks (mark_of x) true) es (rest_quiet_lem marks x es e).1))

  entries_each : (marks : List Bool) (es : List Entry) → entries_quiet p t q marks es ≡ true → (k : ℕ) → k < length es → SoundEntry (get_or es k no_entry)
  entries_each marks [] e k h = absurd (not-suc-le-zero h)
  entries_each marks (x ∷ es) e zero h = entry_sound_lem p t q x (head_quiet_lem marks x es e)
  entries_each marks (x ∷ es) e (suc k) h = entries_each (set marks (mark_of x) true) es (rest_quiet_lem marks x es e).1 k (le_of_suc-le-suc h)

  -- a mark that is free once another is set: it is another, and was free
  free_before : (marks : List Bool) (m i : ℕ) → m < length marks → get_or (set marks m true) i false ≡ false → (i ≡ m → ⊥) × (get_or marks i false ≡ false)
  free_before marks m i h e = (other, sym (get_or-set_other marks m i true false other) ∙ e)
    where
      other : i ≡ m → ⊥
      other z = true≢false (sym (get_or-set_same marks m true false h) ∙ ap (λ (n : ℕ). get_or (set marks m true) n false) (sym z) ∙ e)

  entries_free : (marks : List Bool) (es : List Entry) → length marks ≡ 64 → entries_quiet p t q marks es ≡ true → (k : ℕ) → k < length es
      → get_or marks (mark_of (get_or es k no_entry)) false ≡ false
  entries_free marks [] l e k h = absurd (not-suc-le-zero h)
  entries_free marks (x ∷ es) l e zero h = (rest_quiet_lem marks x es e).0
  entries_free marks (x ∷ es) l e (suc k) h =
      (free_before marks (mark_of x) (mark_of (get_or es k no_entry)) (omega arith)
      (entries_free (set marks (mark_of x) true) es (length-set marks (mark_of x) true ∙ l) (rest_quiet_lem marks x es e).1 k (le_of_suc-le-suc h))).1

  entries_apart : (marks : List Bool) (es : List Entry) → length marks ≡ 64 → entries_quiet p t q marks es ≡ true → (i k : ℕ) → i < k → k < length es
      → (get_or es i no_entry).number ≡ (get_or es k no_entry).number → ⊥
  entries_apart marks [] l e i k g h z = not-suc-le-zero h
  entries_apart marks (x ∷ es) l e i zero g h z = not-suc-le-zero g
  entries_apart marks (x ∷ es) l e zero (suc k) g h z =
      (free_before marks (mark_of x) (mark_of (get_or es k no_entry)) (omega arith)
      (entries_free (set marks (mark_of x) true) es (length-set marks (mark_of x) true ∙ l) (rest_quiet_lem marks x es e).1 k (le_of_suc-le-suc h))).0
      (ap (λ (n : ℕ). n % 64) (sym z))
  entries_apart marks (x ∷ es) l e (suc i) (suc k) g h z =
      entries_apart (set marks (mark_of x) true) es (length-set marks (mark_of x) true ∙ l) (rest_quiet_lem marks x es e).1 i k (le_of_suc-le-suc g) (le_of_suc-le-suc h) z

  pub entries_sound_lem : (marks : List Bool) (es : List Entry) → length marks ≡ 64 → entries_quiet p t q marks es ≡ true → SoundList es
  entries_sound_lem marks es l e = record { each = entries_each marks es e; apart = entries_apart marks es l e }
