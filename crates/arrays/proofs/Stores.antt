-- What is laid into the lent arrays, as the state that they hold moves by it: each part of the state stands at places of its own. Assumes nothing.
use mathlib.Core.Path.{◌≡◌, refl, sym, ap, ◌∙◌}
use mathlib.Core.Bool.{Bool, true, false}
use mathlib.Core.List.{List, [], ◌∷◌, map}
use Prim.Native.Nat.{ℕ, ◌+◌, ◌≤◌, ◌<◌}
use native.Mathlib.Nat.{zero-add}
use native.Mathlib.Omega.{arith}
use lib.Dec.{eqb}
use lib.ListN.{length, get_or, set, length-set}
use lib.Seq.{sets, length-sets, ext_get_or, get_or-set_same, get_or-set_other}
use borrow.Author.Tests.{eqb-true, eqb-false}
use Rattle.lists.specs.Places.{part}
use Rattle.lists.proofs.Places.{part_set_in, part_sets_all, part_sets_before, part_sets_behind, get_d_sets_before, get_or_sets_behind, get_or_sets_in}
use Rattle.watches.specs.declared.Entry.{Entry}
use Rattle.watches.specs.Tables.{no_entry, fixed_count}
use Rattle.sections.specs.Rooms.{room_count}
use Rattle.programmes.specs.Listing.{most_listed}
use Rattle.calls.specs.Cores.{with_half, with_sync, with_list}
use Rattle.calls.specs.Steps.{arrived_table}
use Rattle.arrays.specs.Lent.{time_count, word_count, lost_in, run_in, entry_in, entries_in, halves_in, core_in, gaps_at, sinces_at, pids_at, halves_at, lost_at, run_at, count_at, numbers_at}
use Rattle.arrays.proofs.Tabled.{tabled_length, get_d_map, length_map}
use Rattle.arrays.proofs.Back.{get_or_tabled}

-- THE ENTRIES, by their numbers
pub entry_at : (times words : List ℕ) (k : ℕ) → k < most_listed → get_or (entries_in times words) k no_entry ≡ entry_in times words k
entry_at times words k h = get_or_tabled (entry_in times words) 0 most_listed k no_entry h ∙ ap (entry_in times words) (zero-add k)

pub entries_length : (times words : List ℕ) → length (entries_in times words) ≡ most_listed
entries_length times words = tabled_length (entry_in times words) 0 most_listed

pub entries_as : (times words : List ℕ) (es : List Entry) → length es ≡ most_listed → ((k : ℕ) → k < most_listed → entry_in times words k ≡ get_or es k no_entry) → entries_in times words ≡ es
entries_as times words es size each =
    ext_get_or no_entry (entries_in times words) es (entries_length times words ∙ sym size)
    (λ k h. let b : k < most_listed = omega (arith, entries_length times words) in entry_at times words k b ∙ each k b)

-- they stand behind the first six times, and in the first 32 words
pub entries_before : (times words : List ℕ) (i : ℕ) (vs : List ℕ) → i + length vs ≤ sinces_at → entries_in (sets times i vs) words ≡ entries_in times words
entries_before times words i vs h =
    entries_as (sets times i vs) words (entries_in times words) (entries_length times words)
    (λ k b. rw (entry_at times words k b, get_or_sets_behind 0 times i (sinces_at + k) vs (omega arith)))

pub entries_behind : (times words : List ℕ) (i : ℕ) (vs : List ℕ) → halves_at ≤ i → entries_in times (sets words i vs) ≡ entries_in times words
entries_behind times words i vs h =
    entries_as times (sets words i vs) (entries_in times words) (entries_length times words)
    (λ k b. rw (entry_at times words k b, get_d_sets_before 0 words i (numbers_at + k) vs (omega arith), get_d_sets_before 0 words i (pids_at + k) vs (omega arith)))

-- TIMES: a gap start
pub gap_laid : (times words : List ℕ) (r t : ℕ) → r < fixed_count → core_in (set times (gaps_at + r) t) words ≡ arrived_table t r (core_in times words)
gap_laid times words r t h = rw (part_set_in times gaps_at fixed_count r t h, entries_before times words (gaps_at + r) (t ∷ []) (omega arith))

-- WORDS: half-built lengths, sync
pub half_laid : (times words : List ℕ) (r n : ℕ) → r < room_count → core_in times (set words (halves_at + r) n) ≡ with_half (set (halves_in words) r n) (core_in times words)
half_laid times words r n h =
    rw (
      part_set_in words halves_at room_count r n h,
      entries_behind times words (halves_at + r) (n ∷ []) (omega arith),
      get_or-set_other words (halves_at + r) lost_at n 0 (λ e. omega arith),
      get_or-set_other words (halves_at + r) run_at n 0 (λ e. omega arith),
      get_or-set_other words (halves_at + r) count_at n 0 (λ e. omega arith),
    )

pub halves_laid : (times words ns : List ℕ) → length words ≡ word_count → length ns ≡ room_count → core_in times (sets words halves_at ns) ≡ with_half ns (core_in times words)
halves_laid times words ns wide size =
    rw (
      part_sets_all words halves_at room_count ns size (omega arith),
      entries_behind times words halves_at ns (omega arith),
      get_or_sets_behind 0 words halves_at lost_at ns (omega arith),
      get_or_sets_behind 0 words halves_at run_at ns (omega arith),
      get_or_sets_behind 0 words halves_at count_at ns (omega arith),
    )

pub sync_laid : (times words : List ℕ) (l r : ℕ) → length words ≡ word_count
    → core_in times (set (set words lost_at l) run_at r) ≡ with_sync (lost_in l) (run_in r) (core_in times words)
sync_laid times words l r wide =
    rw (
      get_or-set_other (set words lost_at l) run_at lost_at r 0 (λ e. omega arith),
      get_or-set_same words lost_at l 0 (omega arith),
      get_or-set_same (set words lost_at l) run_at r 0 (omega (arith, length-set words lost_at l)),
      get_or-set_other (set words lost_at l) run_at count_at r 0 (λ e. omega arith),
      get_or-set_other words lost_at count_at l 0 (λ e. omega arith),
      part_sets_behind words halves_at room_count lost_at (l ∷ r ∷ []) (omega arith),
      entries_behind times words lost_at (l ∷ r ∷ []) (omega arith),
    )

-- A LIST: its entries column by column, and their number
module _ (times words : List ℕ) (es : List Entry) (n : ℕ) (long : length times ≡ time_count) (wide : length words ≡ word_count) (size : length es ≡ most_listed) where
  abbrev column : (Entry → ℕ) → List ℕ
  column f = map f es

  column_length : (f : Entry → ℕ) → length (column f) ≡ most_listed
  column_length f = length_map f es ∙ size

  column_at : (f : Entry → ℕ) (k : ℕ) → k < most_listed → get_or (column f) k 0 ≡ f (get_or es k no_entry)
  column_at f k h = get_d_map f es k no_entry 0 (omega (arith, size))

  abbrev list_times : List ℕ
  list_times = sets times sinces_at (column (λ e. e.since))

  abbrev numbered : List ℕ
  numbered = sets words numbers_at (column (λ e. e.number))

  abbrev piped : List ℕ
  piped = sets numbered pids_at (column (λ e. e.pid))

  abbrev list_words : List ℕ
  list_words = set piped count_at n

  numbered_long : length numbered ≡ word_count
  numbered_long = length-sets words numbers_at (column (λ e. e.number)) ∙ wide

  piped_long : length piped ≡ word_count
  piped_long = length-sets numbered pids_at (column (λ e. e.pid)) ∙ numbered_long

  number_laid : (k : ℕ) → k < most_listed → get_or list_words (numbers_at + k) 0 ≡ (get_or es k no_entry).number
  number_laid k h =
      get_or-set_other piped count_at (numbers_at + k) n 0 (λ z. omega arith)
      ∙ get_d_sets_before 0 numbered pids_at (numbers_at + k) (column (λ e. e.pid)) (omega arith)
      ∙ get_or_sets_in 0 words numbers_at k (column (λ e. e.number)) (omega (arith, column_length (λ e. e.number))) (omega (arith, wide, column_length (λ e. e.number)))
      ∙ column_at (λ e. e.number) k h

  pid_laid : (k : ℕ) → k < most_listed → get_or list_words (pids_at + k) 0 ≡ (get_or es k no_entry).pid
  pid_laid k h =
      get_or-set_other piped count_at (pids_at + k) n 0 (λ z. omega arith)
      ∙ get_or_sets_in 0 numbered pids_at k (column (λ e. e.pid)) (omega (arith, column_length (λ e. e.pid))) (omega (arith, numbered_long, column_length (λ e. e.pid)))
      ∙ column_at (λ e. e.pid) k h

  since_laid : (k : ℕ) → k < most_listed → get_or list_times (sinces_at + k) 0 ≡ (get_or es k no_entry).since
  since_laid k h =
      get_or_sets_in 0 times sinces_at k (column (λ e. e.since)) (omega (arith, column_length (λ e. e.since))) (omega (arith, long, column_length (λ e. e.since)))
      ∙ column_at (λ e. e.since) k h

  -- a word that stands behind the entries and is not their number
  word_kept : (j : ℕ) → halves_at ≤ j → (j ≡ count_at → ⊥) → get_or list_words j 0 ≡ get_or words j 0
  word_kept j h other =
      get_or-set_other piped count_at j n 0 other
      ∙ get_or_sets_behind 0 numbered pids_at j (column (λ e. e.pid)) (omega (arith, column_length (λ e. e.pid)))
      ∙ get_or_sets_behind 0 words numbers_at j (column (λ e. e.number)) (omega (arith, column_length (λ e. e.number)))

  halves_kept : part list_words halves_at room_count ≡ part words halves_at room_count
  halves_kept =
      part_sets_behind piped halves_at room_count count_at (n ∷ []) (omega arith)
      ∙ part_sets_before numbered halves_at room_count pids_at (column (λ e. e.pid)) (omega (arith, column_length (λ e. e.pid)))
      ∙ part_sets_before words halves_at room_count numbers_at (column (λ e. e.number)) (omega (arith, column_length (λ e. e.number)))

  pub list_laid : core_in list_times list_words ≡ with_list n es (core_in times words)
  list_laid =
      rw (
        part_sets_behind times gaps_at fixed_count sinces_at (column (λ e. e.since)) (omega arith),
        halves_kept,
        word_kept lost_at (omega arith) (λ z. omega arith),
        word_kept run_at (omega arith) (λ z. omega arith),
        get_or-set_same piped count_at n 0 (omega (arith, piped_long)),
        entries_as list_times list_words es size (λ k h. rw (number_laid k h, pid_laid k h, since_laid k h)),
      )

-- THE GAP START of one entry
module _ (times words : List ℕ) (i t : ℕ) (inside : i < most_listed) (long : length times ≡ time_count) where
  abbrev restarted : Entry
  restarted = record { number = get_or words (numbers_at + i) 0; pid = get_or words (pids_at + i) 0; since = t }

  abbrev after : List Entry
  after = set (entries_in times words) i restarted

  each_entry : (k : ℕ) → k < most_listed → (same : Bool) → eqb k i ≡ same → entry_in (set times (sinces_at + i) t) words k ≡ get_or after k no_entry
  each_entry k h true e =
      rw (
        eqb-true k i e,
        get_or-set_same (entries_in times words) i restarted no_entry (omega (arith, entries_length times words)),
        get_or-set_same times (sinces_at + i) t 0 (omega arith),
      )
  each_entry k h false e =
      let other : k ≡ i → ⊥ = eqb-false k i e in
      rw (
        get_or-set_other (entries_in times words) i k restarted no_entry other,
        entry_at times words k h,
        get_or-set_other times (sinces_at + i) (sinces_at + k) t 0 (λ z. other (omega arith)),
      )

  pub since_laid_at : entries_in (set times (sinces_at + i) t) words ≡ after
  since_laid_at =
      entries_as (set times (sinces_at + i) t) words after (length-set (entries_in times words) i restarted ∙ entries_length times words)
      (λ k h. each_entry k h (eqb k i) refl)
