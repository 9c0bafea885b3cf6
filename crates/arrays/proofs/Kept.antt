-- What a core does not tell of the lent arrays is kept from move to move; with it a core leaves no choice of them. Assumes nothing.
use mathlib.Core.Path.{◌≡◌, refl, sym, ap, ◌∙◌, subst}
use mathlib.Core.Bool.{Bool}
use mathlib.Core.List.{List, map}
use Prim.Native.Nat.{ℕ, ◌+◌, ◌-◌, ◌<◌, ◌≤◌}
use native.Mathlib.Omega.{arith}
use lib.ListN.{length, get_or, set, length-set}
use lib.Seq.{sets, length-sets, ext_get_or, get_or-set_same, get_or-set_other}
use Rattle.lists.proofs.Tests.{Order, below, from, order}
use Rattle.lists.proofs.Places.{part_at, get_d_sets_before, get_or_sets_behind}
use Rattle.watches.specs.declared.Entry.{Entry}
use Rattle.watches.specs.Tables.{no_entry, fixed_count}
use Rattle.sections.specs.Rooms.{room_count}
use Rattle.programmes.specs.Listing.{most_listed}
use Rattle.calls.specs.declared.Core.{Core}
use Rattle.arrays.specs.Lent.{time_count, word_count, lost_word, lost_in, run_in, entry_in, core_in, gaps_at, sinces_at, core_time_count, pids_at, halves_at, lost_at, run_at, count_at, core_word_count, numbers_at}
use Rattle.arrays.specs.inner.Kept.{LatestKept, SyncKept, Moved, SyncTold}
use Rattle.arrays.proofs.Tabled.{length_map}
use Rattle.arrays.proofs.Back.{lost_back, run_back}
use Rattle.arrays.proofs.Stores.{entry_at}

-- FROM MOVE TO MOVE
pub latest_same : {a : List ℕ} → length a ≡ time_count → LatestKept a a
latest_same long = record { long = long; latest = refl }

pub latest_then : {a b c : List ℕ} → LatestKept a b → LatestKept b c → LatestKept a c
latest_then h k = record { long = k.long; latest = k.latest ∙ h.latest }

pub sync_same : {a : List ℕ} → length a ≡ word_count → SyncKept a a
sync_same wide = record { wide = wide; lost = refl; run = refl }

pub sync_then : {a b c : List ℕ} → SyncKept a b → SyncKept b c → SyncKept a c
sync_then h k = record { wide = k.wide; lost = k.lost ∙ h.lost; run = k.run ∙ h.run }

pub told_then : {a b : List ℕ} → SyncTold a → SyncKept a b → SyncTold b
told_then h k =
    record {
      wide = k.wide;
      lost = k.lost ∙ h.lost ∙ ap (λ (w : ℕ). lost_word (lost_in w)) (sym k.lost);
      run = k.run ∙ h.run ∙ ap run_in (sym k.run);
    }

pub moved_none : {times words : List ℕ} → length times ≡ time_count → length words ≡ word_count → Moved times words times words
moved_none long wide = record { times = latest_same long; words = sync_same wide }

pub moved_then : {times words times' words' times'' words'' : List ℕ}
    → Moved times words times' words' → Moved times' words' times'' words'' → Moved times words times'' words''
moved_then h k = record { times = latest_then h.times k.times; words = sync_then h.words k.words }

-- WHAT IS LAID: times behind the first; words before those that tell sync, and behind them
pub latest_kept : (times : List ℕ) (i : ℕ) (vs : List ℕ) → length times ≡ time_count → 0 < i → LatestKept times (sets times i vs)
latest_kept times i vs long h = record { long = length-sets times i vs ∙ long; latest = get_d_sets_before 0 times i 0 vs h }

pub sync_kept : (words : List ℕ) (i : ℕ) (vs : List ℕ) → length words ≡ word_count → i + length vs ≤ lost_at → SyncKept words (sets words i vs)
sync_kept words i vs wide h =
    record {
      wide = length-sets words i vs ∙ wide;
      lost = get_or_sets_behind 0 words i lost_at vs h;
      run = get_or_sets_behind 0 words i run_at vs (omega arith);
    }

pub count_kept : (words : List ℕ) (n : ℕ) → length words ≡ word_count → SyncKept words (set words count_at n)
count_kept words n wide =
    record {
      wide = length-set words count_at n ∙ wide;
      lost = get_or-set_other words count_at lost_at n 0 (λ e. omega arith);
      run = get_or-set_other words count_at run_at n 0 (λ e. omega arith);
    }

module _ (times words : List ℕ) (es : List Entry) (n : ℕ) (long : length times ≡ time_count) (wide : length words ≡ word_count) (size : length es ≡ most_listed) where
  abbrev numbered : List ℕ
  numbered = sets words numbers_at (map (λ e. e.number) es)

  abbrev piped : List ℕ
  piped = sets numbered pids_at (map (λ e. e.pid) es)

  numbers_kept : SyncKept words numbered
  numbers_kept = sync_kept words 0 (map (λ e. e.number) es) wide (omega (arith, length_map (λ (e : Entry). e.number) es, size))

  pids_kept : SyncKept numbered piped
  pids_kept = sync_kept numbered pids_at (map (λ e. e.pid) es) numbers_kept.wide (omega (arith, length_map (λ (e : Entry). e.pid) es, size))

  pub list_kept : Moved times words (sets times sinces_at (map (λ e. e.since) es)) (set piped count_at n)
  list_kept =
      record {
        times = latest_kept times sinces_at (map (λ e. e.since) es) long (omega arith);
        words = sync_then numbers_kept (sync_then pids_kept (count_kept piped n pids_kept.wide));
      }

pub sync_told : (words : List ℕ) (l : Bool) (r : ℕ) → length words ≡ word_count → r ≤ 255 → SyncTold (set (set words lost_at (lost_word l)) run_at r)
sync_told words l r wide fits =
    let lost : get_or (set (set words lost_at (lost_word l)) run_at r) lost_at 0 ≡ lost_word l
    = get_or-set_other (set words lost_at (lost_word l)) run_at lost_at r 0 (λ e. omega arith) ∙ get_or-set_same words lost_at (lost_word l) 0 (omega arith) in
    let run : get_or (set (set words lost_at (lost_word l)) run_at r) run_at 0 ≡ r
    = get_or-set_same (set words lost_at (lost_word l)) run_at r 0 (omega (arith, length-set words lost_at (lost_word l))) in
    record {
      wide = length-set (set words lost_at (lost_word l)) run_at r ∙ length-set words lost_at (lost_word l) ∙ wide;
      lost = rw (lost, lost_back l);
      run = rw (run, run_back r fits);
    }

-- NO CHOICE: arrays that hold the same core, number by number
module _ (t₁ w₁ t₂ w₂ : List ℕ) (same : core_in t₁ w₁ ≡ core_in t₂ w₂) where
  entry_same : (k : ℕ) → k < most_listed → entry_in t₁ w₁ k ≡ entry_in t₂ w₂ k
  entry_same k h = sym (entry_at t₁ w₁ k h) ∙ ap (λ (c : Core). get_or c.entries k no_entry) same ∙ entry_at t₂ w₂ k h

  half_same : (k : ℕ) → k < room_count → get_or w₁ (halves_at + k) 0 ≡ get_or w₂ (halves_at + k) 0
  half_same k h = sym (part_at w₁ halves_at room_count k 0 h) ∙ ap (λ (c : Core). get_or c.half k 0) same ∙ part_at w₂ halves_at room_count k 0 h

  gap_same : (k : ℕ) → k < fixed_count → get_or t₁ (gaps_at + k) 0 ≡ get_or t₂ (gaps_at + k) 0
  gap_same k h = sym (part_at t₁ gaps_at fixed_count k 0 h) ∙ ap (λ (c : Core). get_or c.since k 0) same ∙ part_at t₂ gaps_at fixed_count k 0 h

  -- a place behind another
  at_place : (l m : List ℕ) (j k : ℕ) → j ≡ k → get_or l j 0 ≡ get_or m j 0 → get_or l k 0 ≡ get_or m k 0
  at_place l m j k e h = subst (λ (z : ℕ). get_or l z 0 ≡ get_or m z 0) e h

  times_each : get_or t₁ 0 0 ≡ get_or t₂ 0 0 → (k : ℕ) → k < core_time_count → get_or t₁ k 0 ≡ get_or t₂ k 0
  times_each latest k h = go (order k 1) (order k sinces_at)
    where
      go : Order k 1 → Order k sinces_at → get_or t₁ k 0 ≡ get_or t₂ k 0
      go (below a) b = at_place t₁ t₂ 0 k (omega arith) latest
      go (from a) (below b) = at_place t₁ t₂ (gaps_at + (k - 1)) k (omega arith) (gap_same (k - 1) (omega arith))
      go (from a) (from b) = at_place t₁ t₂ (sinces_at + (k - sinces_at)) k (omega arith) (ap (λ (e : Entry). e.since) (entry_same (k - sinces_at) (omega arith)))

  words_each : get_or w₁ lost_at 0 ≡ get_or w₂ lost_at 0 → get_or w₁ run_at 0 ≡ get_or w₂ run_at 0 → (k : ℕ) → k < core_word_count → get_or w₁ k 0 ≡ get_or w₂ k 0
  words_each lost run k h = entries (order k pids_at) (order k halves_at)
    where
      marks : Order k lost_at → Order k run_at → Order k count_at → halves_at < k + 1 → get_or w₁ k 0 ≡ get_or w₂ k 0
      marks (below a) b c d = at_place w₁ w₂ (halves_at + (k - halves_at)) k (omega arith) (half_same (k - halves_at) (omega arith))
      marks (from a) (below b) c d = at_place w₁ w₂ lost_at k (omega arith) lost
      marks (from a) (from b) (below c) d = at_place w₁ w₂ run_at k (omega arith) run
      marks (from a) (from b) (from c) d = at_place w₁ w₂ count_at k (omega arith) (ap (λ (c : Core). c.count) same)

      entries : Order k pids_at → Order k halves_at → get_or w₁ k 0 ≡ get_or w₂ k 0
      entries (below a) b = at_place w₁ w₂ (numbers_at + k) k (omega arith) (ap (λ (e : Entry). e.number) (entry_same k (omega arith)))
      entries (from a) (below b) = at_place w₁ w₂ (pids_at + (k - pids_at)) k (omega arith) (ap (λ (e : Entry). e.pid) (entry_same (k - pids_at) (omega arith)))
      entries (from a) (from b) = marks (order k lost_at) (order k run_at) (order k count_at) (omega arith)

  times_alike : length t₁ ≡ time_count → length t₂ ≡ time_count → get_or t₁ 0 0 ≡ get_or t₂ 0 0 → t₁ ≡ t₂
  times_alike long₁ long₂ latest = ext_get_or 0 t₁ t₂ (long₁ ∙ sym long₂) (λ k h. times_each latest k (omega arith))

  words_alike : length w₁ ≡ word_count → length w₂ ≡ word_count → get_or w₁ lost_at 0 ≡ get_or w₂ lost_at 0 → get_or w₁ run_at 0 ≡ get_or w₂ run_at 0 → w₁ ≡ w₂
  words_alike wide₁ wide₂ lost run = ext_get_or 0 w₁ w₂ (wide₁ ∙ sym wide₂) (λ k h. words_each lost run k (omega arith))

  -- words in which sync is told as words_of tells it
  pub told_alike : SyncTold w₁ → SyncTold w₂ → w₁ ≡ w₂
  told_alike h k =
      words_alike h.wide k.wide
      (h.lost ∙ ap (λ (c : Core). lost_word c.lost) same ∙ sym k.lost)
      (h.run ∙ ap (λ (c : Core). c.run) same ∙ sym k.run)

-- what the same moves leave
pub latest_alike : (times t₁ w₁ t₂ w₂ : List ℕ) → core_in t₁ w₁ ≡ core_in t₂ w₂ → LatestKept times t₁ → LatestKept times t₂ → t₁ ≡ t₂
latest_alike times t₁ w₁ t₂ w₂ same h k = times_alike t₁ w₁ t₂ w₂ same h.long k.long (h.latest ∙ sym k.latest)

pub sync_alike : (words t₁ w₁ t₂ w₂ : List ℕ) → core_in t₁ w₁ ≡ core_in t₂ w₂ → SyncKept words w₁ → SyncKept words w₂ → w₁ ≡ w₂
sync_alike words t₁ w₁ t₂ w₂ same h k = words_alike t₁ w₁ t₂ w₂ same h.wide k.wide (h.lost ∙ sym k.lost) (h.run ∙ sym k.run)
