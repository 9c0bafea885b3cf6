-- The arrays of a state: laid piece by piece the core's numbers are whole, whatever stands behind them. Assumes nothing.
use mathlib.Core.Path.{◌≡◌, sym, ap, ◌∙◌}
use mathlib.Core.List.{List, [], ◌∷◌, ◌++◌, map, append-nil}
use Prim.Native.Nat.{ℕ, ◌+◌}
use native.Mathlib.Omega.{arith}
use lib.ListN.{length, set, length-append}
use lib.Seq.{sets}
use Rattle.lists.proofs.Laying.{sets_append}
use Rattle.watches.specs.declared.Entry.{Entry}
use Rattle.watches.specs.Tables.{fixed_count}
use Rattle.sections.specs.Rooms.{room_count}
use Rattle.programmes.specs.Listing.{most_listed}
use Rattle.calls.specs.declared.State.{State}
use Rattle.arrays.specs.Lent.{lost_word, count_word, times_of, words_of, sinces_at, core_time_count, pids_at, halves_at, lost_at, core_word_count, latest_at, gaps_at, time_count, numbers_at, word_count, core_times, core_words}
use Rattle.arrays.proofs.Tabled.{sets_all, length_map}

module _ (s : State) (places : length s.core.entries ≡ most_listed) where
  column : (Entry → ℕ) → List ℕ
  column f = map f s.core.entries

  column_length : (f : Entry → ℕ) → length (column f) ≡ most_listed
  unfolding column
  column_length f = length_map f s.core.entries ∙ places

  marks : List ℕ
  marks = lost_word s.core.lost ∷ s.core.run ∷ count_word s.core.count ∷ []

  pub times_laid : (l : List ℕ) → length s.core.since ≡ fixed_count
      → sets (sets (set l latest_at s.latest) gaps_at s.core.since) sinces_at (map (λ (e : Entry). e.since) s.core.entries) ≡ sets l 0 (core_times s)
  unfolding core_times
  times_laid l gaps =
      let sinces = map (λ (e : Entry). e.since) s.core.entries in
      let behind : gaps_at + length s.core.since ≡ sinces_at = omega (arith, gaps) in
      ap (λ (n : ℕ). sets (sets (set l latest_at s.latest) gaps_at s.core.since) n sinces) (sym behind)
      ∙ sym (sets_append (set l latest_at s.latest) gaps_at s.core.since sinces)

  pub times_length : length s.core.since ≡ fixed_count → length (core_times s) ≡ core_time_count
  unfolding core_times column
  times_length gaps = omega (arith, length-append s.core.since (column (λ e. e.since)), column_length (λ e. e.since), gaps)

  pub words_laid : (l : List ℕ) → length s.core.half ≡ room_count
      → sets (sets (sets (sets l numbers_at (map (λ (e : Entry). e.number) s.core.entries)) pids_at (map (λ (e : Entry). e.pid) s.core.entries)) halves_at s.core.half) lost_at
      (lost_word s.core.lost ∷ s.core.run ∷ count_word s.core.count ∷ [])
      ≡ sets l 0 (core_words s)
  unfolding core_words column marks
  words_laid l rooms = joined l (column (λ e. e.number)) (column (λ e. e.pid)) s.core.half marks (column_length (λ e. e.number)) (column_length (λ e. e.pid)) rooms
    where
      joined : (l a b c d : List ℕ) → length a ≡ most_listed → length b ≡ most_listed → length c ≡ room_count
          → sets (sets (sets (sets l numbers_at a) pids_at b) halves_at c) lost_at d ≡ sets l 0 (a ++ (b ++ (c ++ d)))
      joined l a b c d la lb lc =
          let e1 : 0 + length a ≡ pids_at = omega arith in
          let e2 : pids_at + length b ≡ halves_at = omega arith in
          let e3 : halves_at + length c ≡ lost_at = omega arith in
          ap (λ (n : ℕ). sets (sets (sets (sets l 0 a) pids_at b) halves_at c) n d) (sym e3)
          ∙ sym (sets_append (sets (sets l 0 a) pids_at b) halves_at c d)
          ∙ ap (λ (n : ℕ). sets (sets (sets l 0 a) pids_at b) n (c ++ d)) (sym e2)
          ∙ sym (sets_append (sets l 0 a) pids_at b (c ++ d))
          ∙ ap (λ (n : ℕ). sets (sets l 0 a) n (b ++ (c ++ d))) (sym e1)
          ∙ sym (sets_append l 0 a (b ++ (c ++ d)))

  pub words_length : length s.core.half ≡ room_count → length (core_words s) ≡ core_word_count
  unfolding core_words column marks
  words_length rooms =
      let a = column (λ e. e.number) in
      let b = column (λ e. e.pid) in
      omega (
        arith,
        length-append a (b ++ (s.core.half ++ marks)),
        length-append b (s.core.half ++ marks),
        length-append s.core.half marks,
        column_length (λ e. e.number),
        column_length (λ e. e.pid),
        rooms,
      )

-- nothing stands behind them yet
pub times_whole : (s : State) (l : List ℕ) → length (core_times s) ≡ core_time_count → length l ≡ time_count → sets l 0 (core_times s) ≡ times_of s
unfolding times_of
times_whole s l size h = sets_all l (core_times s) (size ∙ sym h) ∙ sym (append-nil (core_times s))

pub words_whole : (s : State) (l : List ℕ) → length (core_words s) ≡ core_word_count → length l ≡ word_count → sets l 0 (core_words s) ≡ words_of s
unfolding words_of
words_whole s l size h = sets_all l (core_words s) (size ∙ sym h) ∙ sym (append-nil (core_words s))
