-- The arrays that hold a state, laid anew: they are the arrays of that state, but for the latest accepted time, and for a sync that is told to be lost
-- by another number than 1. Assumes nothing.
use mathlib.Core.Path.{◌≡◌, refl, sym, ap, ap₂, ◌∙◌}
use mathlib.Core.Bool.{Bool, true, false, cond}
use mathlib.Core.List.{List, [], ◌∷◌, ◌++◌, map}
use Prim.Native.Nat.{ℕ, ◌+◌, ◌≤◌}
use native.Mathlib.Omega.{arith}
use lib.Dec.{leb, eqb}
use lib.ListN.{length, get_or, set, take, drop, length-set, length-take, take-append-drop}
use lib.Seq.{get_or-set_same, get_or-set_other, set-append_left}
use borrow.Author.Tests.{eqb-true, le-leb, not-false}
use Rattle.lists.specs.Places.{part}
use Rattle.lists.proofs.Turns.{drop_none}
use Rattle.lists.proofs.Places.{part_sets_behind}
use Rattle.watches.specs.declared.Entry.{Entry}
use Rattle.watches.specs.Tables.{fixed_count}
use Rattle.sections.specs.Rooms.{room_count}
use Rattle.programmes.specs.Listing.{most_listed}
use Rattle.calls.specs.declared.State.{State}
use Rattle.arrays.specs.Lent.{time_count, word_count, lost_in, lost_word, run_in, count_word, entry_in, tabled, sync_lost, sync_run, count_in, core_in, times_of, words_of, gaps_at, core_time_count, halves_at, lost_at, run_at, count_at, core_word_count, latest_at, core_times, more_times, core_words, more_words}
use Rattle.arrays.specs.inner.Kept.{SyncTold}
use Rattle.arrays.proofs.Tabled.{part_tabled}
use Rattle.arrays.proofs.Back.{lost_back}
use Rattle.arrays.proofs.Stores.{entries_behind}

-- EACH NUMBER of the first ones, by its place
each : (l : List ℕ) (n : ℕ) → n ≤ length l → tabled (λ (j : ℕ). get_or l (0 + j) 0) 0 n ≡ take n l
unfolding part
each l n h = sym (part_tabled l 0 0 n (omega arith))

-- the core's numbers, whatever stands behind them
core_times_same : (times words : List ℕ) (t : ℕ) → core_time_count ≤ length times
    → core_times (record { latest = t; core = core_in times words }) ≡ set (take core_time_count times) latest_at t
unfolding core_times tabled
core_times_same times words t long =
    ap (λ (l : List ℕ). t ∷ (l ++ map (λ (e : Entry). e.since) (tabled (entry_in times words) 0 most_listed))) (part_tabled times 0 gaps_at fixed_count (omega arith))
    ∙ ap (λ (l : List ℕ). set l latest_at t) (each times core_time_count long)

core_words_same : (times words : List ℕ) (t : ℕ) → core_word_count ≤ length words
    → lost_word (lost_in (get_or words lost_at 0)) ≡ get_or words lost_at 0 → run_in (get_or words run_at 0) ≡ get_or words run_at 0 → count_word (get_or words count_at 0) ≡ get_or words count_at 0
    → core_words (record { latest = t; core = core_in times words }) ≡ take core_word_count words
unfolding core_words tabled
core_words_same times words t wide lost run count =
    let es = tabled (entry_in times words) 0 most_listed in
    ap
    (λ (l : List ℕ).
    map (λ (e : Entry). e.number) es
    ++ (map (λ (e : Entry). e.pid) es ++ (l ++ (lost_word (lost_in (get_or words lost_at 0)) ∷ run_in (get_or words run_at 0) ∷ count_word (get_or words count_at 0) ∷ []))))
    (part_tabled words 0 halves_at room_count (omega arith))
    ∙ ap
    (λ (l : List ℕ).
    map (λ (e : Entry). e.number) es ++ (map (λ (e : Entry). e.pid) es ++ (tabled (λ (j : ℕ). get_or words (halves_at + j) 0) 0 room_count ++ l)))
    marks
    ∙ each words core_word_count wide
  where
    marks : lost_word (lost_in (get_or words lost_at 0)) ∷ run_in (get_or words run_at 0) ∷ count_word (get_or words count_at 0) ∷ []
        ≡ get_or words lost_at 0 ∷ get_or words run_at 0 ∷ get_or words count_at 0 ∷ []
    marks = ap (λ (n : ℕ). n ∷ run_in (get_or words run_at 0) ∷ count_word (get_or words count_at 0) ∷ []) lost
        ∙ ap (λ (n : ℕ). get_or words lost_at 0 ∷ n ∷ count_word (get_or words count_at 0) ∷ []) run
        ∙ ap (λ (n : ℕ). get_or words lost_at 0 ∷ get_or words run_at 0 ∷ n ∷ []) count

-- WHAT STANDS BEHIND THEM: nothing yet
more_times_same : (times words : List ℕ) → length times ≡ time_count → more_times (core_in times words) ≡ drop core_time_count times
more_times_same times words long = sym (drop_none times core_time_count (omega arith))

more_words_same : (times words : List ℕ) → length words ≡ word_count → more_words (core_in times words) ≡ drop core_word_count words
more_words_same times words wide = sym (drop_none words core_word_count (omega arith))

-- BOTH
pub times_same : (times words : List ℕ) (t : ℕ) → length times ≡ time_count
    → times_of (record { latest = t; core = core_in times words }) ≡ set times latest_at t
unfolding times_of
times_same times words t long =
    ap₂ (λ (a b : List ℕ). a ++ b) (core_times_same times words t (omega arith)) (more_times_same times words long)
    ∙ sym (set-append_left (take core_time_count times) (drop core_time_count times) latest_at t (omega (arith, length-take core_time_count times)))
    ∙ ap (λ (l : List ℕ). set l latest_at t) (take-append-drop core_time_count times)

pub words_same : (times words : List ℕ) (t : ℕ) → length words ≡ word_count
    → lost_word (lost_in (get_or words lost_at 0)) ≡ get_or words lost_at 0 → run_in (get_or words run_at 0) ≡ get_or words run_at 0 → count_word (get_or words count_at 0) ≡ get_or words count_at 0
    → words_of (record { latest = t; core = core_in times words }) ≡ words
unfolding words_of
words_same times words t wide lost run count =
    ap₂ (λ (a b : List ℕ). a ++ b) (core_words_same times words t (omega arith) lost run count) (more_words_same times words wide)
    ∙ take-append-drop core_word_count words

-- THE THREE NUMBERS behind the rest: lost where it is 0 or 1, a run and a length of the list within bounds
pub lost_same : (w : ℕ) → lost_in w ≡ false → lost_word (lost_in w) ≡ w
lost_same w e = rw e (sym (eqb-true w 0 (not-false (eqb w 0) e)))

pub run_same : (w : ℕ) → run_in w ≤ 4 → run_in w ≡ w
run_same w = go (leb w 255)
  where
    go : (b : Bool) → cond b w 255 ≤ 4 → cond b w 255 ≡ w
    go true h = refl
    go false h = absurd (omega arith)

pub count_same : (w : ℕ) → w ≤ most_listed → count_word w ≡ w
count_same w h = rw (le-leb w 65535 (omega arith))

-- words in which sync is told as words_of tells it
pub told_same : (times words : List ℕ) (t : ℕ) → SyncTold words → count_in words ≤ most_listed → words_of (record { latest = t; core = core_in times words }) ≡ words
told_same times words t h few = words_same times words t h.wide (sym h.lost) (sym h.run) (count_same (get_or words count_at 0) few)

-- THE END of a call that moves nothing else
module _ (times words : List ℕ) (t : ℕ) (wide : length words ≡ word_count) where
  abbrev told : List ℕ
  told = set words lost_at (lost_word (sync_lost words))

  abbrev settled_at : State
  settled_at = record { latest = t; core = core_in times words }

  told_core : core_in times told ≡ core_in times words
  told_core =
      rw (
        get_or-set_same words lost_at (lost_word (sync_lost words)) 0 (omega arith),
        lost_back (sync_lost words),
        get_or-set_other words lost_at run_at (lost_word (sync_lost words)) 0 (λ e. omega arith),
        get_or-set_other words lost_at count_at (lost_word (sync_lost words)) 0 (λ e. omega arith),
        part_sets_behind words halves_at room_count lost_at (lost_word (sync_lost words) ∷ []) (omega arith),
        entries_behind times words lost_at (lost_word (sync_lost words) ∷ []) (omega arith),
      )

  pub words_told : count_in words ≤ most_listed → sync_run words ≤ 4 → told ≡ words_of settled_at
  words_told few short =
      let l = lost_word (sync_lost words) in
      let lost : get_or told lost_at 0 ≡ l = get_or-set_same words lost_at l 0 (omega arith) in
      let run : get_or told run_at 0 ≡ get_or words run_at 0 = get_or-set_other words lost_at run_at l 0 (λ e. omega arith) in
      let count : get_or told count_at 0 ≡ get_or words count_at 0 = get_or-set_other words lost_at count_at l 0 (λ e. omega arith) in
      sym
      (words_same times told t (length-set words lost_at l ∙ wide) (rw (lost, lost_back (sync_lost words))) (run_same (get_or told run_at 0) (rw run short)) (count_same (get_or told count_at 0) (rw count few)))
      ∙ ap (λ c. words_of (record { latest = t; core = c })) told_core
