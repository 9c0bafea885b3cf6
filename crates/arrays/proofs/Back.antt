-- The state that the arrays of a state hold is that state. Assumes nothing.
use mathlib.Core.Path.{◌≡◌, refl, sym, ap, ◌∙◌}
use mathlib.Core.Bool.{Bool, true, false}
use mathlib.Core.List.{List, [], ◌∷◌, ◌++◌, map, append_assoc}
use Prim.Native.Nat.{ℕ, zero, suc, ◌+◌, ◌<◌, ◌≤◌}
use native.Mathlib.Nat.{zero-add}
use native.Mathlib.Omega.{arith}
use lib.ListN.{length, get_or, take, drop, length-append, length-drop, get_or-append}
use mir.Val.{bool_byte}
use lib.Seq.{take_at, drop_at, get_or-append-add, ext_get_or, take-append-le, drop-append-le}
use borrow.Author.Tests.{le-leb}
use Rattle.lists.specs.Places.{part}
use Rattle.watches.specs.declared.Entry.{Entry}
use Rattle.watches.specs.Tables.{no_entry, fixed_count}
use Rattle.sections.specs.Rooms.{room_count}
use Rattle.programmes.specs.Listing.{most_listed}
use Rattle.calls.specs.declared.Core.{Core}
use Rattle.calls.specs.declared.State.{State}
use Rattle.calls.specs.Cores.{with_list}
use Rattle.arrays.specs.Lent.{lost_word, count_word, lost_in, run_in, entry_in, tabled, times_of, words_of, state_in, gaps_at, sinces_at, pids_at, halves_at, lost_at, gaps_in, halves_in, latest_at, core_time_count, numbers_at, run_at, count_at, core_word_count, core_times, more_times, core_words, more_words}
use Rattle.arrays.specs.inner.Kept.{Typed}
use Rattle.arrays.proofs.Packing.{times_length, words_length}
use Rattle.arrays.proofs.Tabled.{tabled_length, length_map, get_d_map}

-- a state whose arrays hold it: the length of its list is one that a word holds
pub record Shaped (s : State) : Type 0 where
  pub typed : Typed s
  pub count : s.core.count ≤ 65535

pub get_or_tabled : {A : Type 0} (f : ℕ → A) (k n i : ℕ) (d : A) → i < n → get_or (tabled f k n) i d ≡ f (k + i)
unfolding tabled
get_or_tabled f k zero i d h = absurd (omega arith)
get_or_tabled f k (suc n) zero d h = ap f (omega arith)
get_or_tabled f k (suc n) (suc i) d h = get_or_tabled f (suc k) n i d (omega arith) ∙ ap f (omega arith)

-- an element behind a list of known length
get_or_behind : (a b : List ℕ) (n i : ℕ) → length a ≡ n → get_or (a ++ b) (n + i) 0 ≡ get_or b i 0
get_or_behind a b n i e = ap (λ (k : ℕ). get_or (a ++ b) (k + i) 0) (sym e) ∙ get_or-append-add a b i 0

-- a part of the first of two lists
part_front : (a b : List ℕ) (at n : ℕ) → at + n ≤ length a → part (a ++ b) at n ≡ part a at n
unfolding part
part_front a b at n h = rw (drop-append-le at a b (omega arith), take-append-le n (drop at a) b (omega (arith, length-drop at a)))

pub lost_told : (b : Bool) → bool_byte b ≡ lost_word b
lost_told true = refl
lost_told false = refl

pub lost_back : (b : Bool) → lost_in (lost_word b) ≡ b
lost_back true = refl
lost_back false = refl

pub run_back : (n : ℕ) → n ≤ 255 → run_in n ≡ n
run_back n h = simp (le-leb n 255 h)

pub count_back : (n : ℕ) → n ≤ 65535 → count_word n ≡ n
count_back n h = simp (le-leb n 65535 h)

-- the core with another length of the list
abbrev pub with_count : ℕ → Core → Core
with_count n c = with_list n c.entries c

module _ (s : State) (z : Typed s) where
  field_length : (f : Entry → ℕ) → length (map f s.core.entries) ≡ most_listed
  field_length f = length_map f s.core.entries ∙ z.places

  field_at : (f : Entry → ℕ) (k : ℕ) → k < most_listed → get_or (map f s.core.entries) k 0 ≡ f (get_or s.core.entries k no_entry)
  field_at f k h = get_d_map f s.core.entries k no_entry 0 (omega (arith, z.places))

  since_back : part (core_times s) gaps_at fixed_count ≡ s.core.since
  unfolding core_times part
  since_back = take_at s.core.since (map (λ (e : Entry). e.since) s.core.entries) fixed_count z.gaps

  number_back : (k : ℕ) → k < most_listed → get_or (core_words s) (numbers_at + k) 0 ≡ (get_or s.core.entries k no_entry).number
  unfolding core_words
  number_back k h =
      ap (λ (j : ℕ). get_or (core_words s) j 0) (zero-add k)
      ∙ get_or-append (map (λ (e : Entry). e.number) s.core.entries) _ 0 k (omega (arith, field_length (λ e. e.number)))
      ∙ field_at (λ e. e.number) k h

  pid_back : (k : ℕ) → k < most_listed → get_or (core_words s) (pids_at + k) 0 ≡ (get_or s.core.entries k no_entry).pid
  unfolding core_words
  pid_back k h =
      get_or_behind (map (λ (e : Entry). e.number) s.core.entries) _ pids_at k (field_length (λ e. e.number))
      ∙ get_or-append (map (λ (e : Entry). e.pid) s.core.entries) _ 0 k (omega (arith, field_length (λ e. e.pid)))
      ∙ field_at (λ e. e.pid) k h

  gap_back : (k : ℕ) → k < most_listed → get_or (core_times s) (sinces_at + k) 0 ≡ (get_or s.core.entries k no_entry).since
  unfolding core_times
  gap_back k h =
      get_or_behind (s.latest ∷ s.core.since) (map (λ (e : Entry). e.since) s.core.entries) sinces_at k (ap suc z.gaps)
      ∙ field_at (λ e. e.since) k h

  -- all that stands before the half-built lengths, and what stands behind them
  entry_words : List ℕ
  entry_words = map (λ (e : Entry). e.number) s.core.entries ++ map (λ (e : Entry). e.pid) s.core.entries

  marks : List ℕ
  marks = lost_word s.core.lost ∷ s.core.run ∷ count_word s.core.count ∷ []

  entry_words_length : length entry_words ≡ halves_at
  unfolding entry_words
  entry_words_length =
      length-append (map (λ (e : Entry). e.number) s.core.entries) (map (λ (e : Entry). e.pid) s.core.entries)
      ∙ omega (arith, field_length (λ e. e.number), field_length (λ e. e.pid))

  words_cut : core_words s ≡ entry_words ++ (s.core.half ++ marks)
  unfolding core_words marks entry_words
  words_cut = sym (append_assoc (map (λ (e : Entry). e.number) s.core.entries) (map (λ (e : Entry). e.pid) s.core.entries) (s.core.half ++ marks))

  half_back : part (core_words s) halves_at room_count ≡ s.core.half
  unfolding part
  half_back =
      ap (λ l. take room_count (drop halves_at l)) words_cut
      ∙ ap (take room_count) (drop_at entry_words (s.core.half ++ marks) halves_at entry_words_length)
      ∙ take_at s.core.half marks room_count z.rooms

  mark_back : (i : ℕ) → get_or (core_words s) (lost_at + i) 0 ≡ get_or marks i 0
  mark_back i =
      let e : lost_at + i ≡ halves_at + (room_count + i) = omega arith in
      ap (λ l. get_or l (lost_at + i) 0) words_cut
      ∙ ap (λ (k : ℕ). get_or (entry_words ++ (s.core.half ++ marks)) k 0) e
      ∙ get_or_behind entry_words (s.core.half ++ marks) halves_at (room_count + i) entry_words_length
      ∙ get_or_behind s.core.half marks room_count i z.rooms

  -- AND SO whatever stands behind the core's numbers
  time_back : (k : ℕ) → k < core_time_count → get_or (times_of s) k 0 ≡ get_or (core_times s) k 0
  unfolding times_of
  time_back k h = get_or-append (core_times s) (more_times s.core) 0 k (omega (arith, times_length s z.places z.gaps))

  word_back : (k : ℕ) → k < core_word_count → get_or (words_of s) k 0 ≡ get_or (core_words s) k 0
  unfolding words_of
  word_back k h = get_or-append (core_words s) (more_words s.core) 0 k (omega (arith, words_length s z.places z.rooms))

  gaps_back : gaps_in (times_of s) ≡ s.core.since
  unfolding times_of
  gaps_back = part_front (core_times s) (more_times s.core) gaps_at fixed_count (omega (arith, times_length s z.places z.gaps)) ∙ since_back

  halves_back : halves_in (words_of s) ≡ s.core.half
  unfolding words_of
  halves_back = part_front (core_words s) (more_words s.core) halves_at room_count (omega (arith, words_length s z.places z.rooms)) ∙ half_back

  latest_back : get_or (times_of s) latest_at 0 ≡ s.latest
  unfolding core_times
  latest_back = time_back latest_at (omega arith)

  entry_back : (k : ℕ) → k < most_listed → entry_in (times_of s) (words_of s) k ≡ get_or s.core.entries k no_entry
  entry_back k h =
      rw (
        word_back (numbers_at + k) (omega arith),
        word_back (pids_at + k) (omega arith),
        time_back (sinces_at + k) (omega arith),
        number_back k h,
        pid_back k h,
        gap_back k h,
      )

  entries_back : tabled (entry_in (times_of s) (words_of s)) 0 most_listed ≡ s.core.entries
  entries_back =
      ext_get_or no_entry _ _ (tabled_length _ 0 most_listed ∙ sym z.places)
      (λ i h.
      let k : i < most_listed = omega (arith, tabled_length (entry_in (times_of s) (words_of s)) 0 most_listed) in
      get_or_tabled (entry_in (times_of s) (words_of s)) 0 most_listed i no_entry k
      ∙ ap (entry_in (times_of s) (words_of s)) (omega arith)
      ∙ entry_back i k)

  -- the state that its arrays hold: as it is, but for a list longer than a word holds
  pub packed_back : state_in (times_of s) (words_of s) ≡ record { latest = s.latest; core = with_count (count_word s.core.count) s.core }
  unfolding state_in marks
  packed_back =
      rw (
        latest_back,
        gaps_back,
        entries_back,
        halves_back,
        word_back lost_at (omega arith),
        word_back run_at (omega arith),
        word_back count_at (omega arith),
        mark_back 0,
        mark_back 1,
        mark_back 2,
        lost_back s.core.lost,
        run_back s.core.run z.run,
      )

pub state_back : (s : State) → Shaped s → state_in (times_of s) (words_of s) ≡ s
state_back s z = packed_back s z.typed ∙ ap (λ (n : ℕ). record { latest = s.latest; core = with_count n s.core }) (count_back s.core.count z.count)
