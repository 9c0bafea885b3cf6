-- The state as a host lends it: two arrays, by the width of their numbers (docs/DECISIONS.md, F8).
--
--   latest_at, gaps_at, sinces_at == where the times of a state stand: the latest accepted time, the gap starts of the fixed tables, those of the entries
--   numbers_at, pids_at, halves_at, lost_at, run_at, count_at == where its other numbers stand: the entries' programme numbers, their PIDs, the half-built
--                 lengths, lost (0 or 1), run, count
--   core_times s, core_words s == these numbers, in this order
--   core_time_count, core_word_count == how many there are
--   more_times c, more_words c == what stands behind them: no number yet. Numbers that are new stand there, and the places before them do not move
--   times_of s, words_of s == the two arrays
--   time_count, word_count == their lengths
--   lost_word, count_word == lost as a number; a length of the list above 65,535 is as wrong as that
--   lost_in w, run_in w == sync is lost where the number is not 0; a run above 255 is as wrong as 255
--   tabled f k n == f of the n numbers from k on
--   sync_lost, sync_run, gaps_in, count_in, entries_in, halves_in == the parts of the state that two such arrays hold
--   entry_in times words k == the entry at the place k
--   core_in times words, state_in times words == the state that they hold, without the latest accepted time and with it
use Rattle.std.specs.Prelude.{ℕ, zero, suc, ◌+◌, Bool, cond, not, List, [], ◌∷◌, ◌++◌, map, eqb, leb, get_or}
use Rattle.lists.specs.Places.{part}
use Rattle.watches.specs.declared.Entry.{Entry}
use Rattle.watches.specs.Tables.{fixed_count}
use Rattle.sections.specs.Rooms.{room_count}
use Rattle.programmes.specs.Listing.{most_listed}
use Rattle.calls.specs.declared.Core.{Core}
use Rattle.calls.specs.declared.State.{State}

-- THE PLACES in the times, and how many there are
abbrev pub latest_at : ℕ
latest_at = 0

abbrev pub gaps_at : ℕ
gaps_at = 1

abbrev pub sinces_at : ℕ
sinces_at = gaps_at + fixed_count

abbrev pub core_time_count : ℕ
core_time_count = sinces_at + most_listed

abbrev pub time_count : ℕ
time_count = core_time_count

-- in the words
abbrev pub numbers_at : ℕ
numbers_at = 0

abbrev pub pids_at : ℕ
pids_at = numbers_at + most_listed

abbrev pub halves_at : ℕ
halves_at = pids_at + most_listed

abbrev pub lost_at : ℕ
lost_at = halves_at + room_count

abbrev pub run_at : ℕ
run_at = lost_at + 1

abbrev pub count_at : ℕ
count_at = run_at + 1

abbrev pub core_word_count : ℕ
core_word_count = count_at + 1

abbrev pub word_count : ℕ
word_count = core_word_count

-- TO THE ARRAYS
abbrev pub lost_word : Bool → ℕ
lost_word lost = cond lost 1 0

abbrev pub count_word : ℕ → ℕ
count_word n = cond (leb n 65535) n 65535

unfoldable pub core_times : State → List ℕ
core_times s = s.latest ∷ (s.core.since ++ map (λ (e : Entry). e.since) s.core.entries)

abbrev pub more_times : Core → List ℕ
more_times c = []

unfoldable pub times_of : State → List ℕ
times_of s = core_times s ++ more_times s.core

unfoldable pub core_words : State → List ℕ
core_words s =
    map (λ (e : Entry). e.number) s.core.entries
    ++ (map (λ (e : Entry). e.pid) s.core.entries
    ++ (s.core.half ++ (lost_word s.core.lost ∷ s.core.run ∷ count_word s.core.count ∷ [])))

abbrev pub more_words : Core → List ℕ
more_words c = []

unfoldable pub words_of : State → List ℕ
words_of s = core_words s ++ more_words s.core

-- FROM THEM
abbrev pub lost_in : ℕ → Bool
lost_in w = not (eqb w 0)

abbrev pub run_in : ℕ → ℕ
run_in w = cond (leb w 255) w 255

unfoldable pub tabled : {A : Type 0} → (ℕ → A) → ℕ → ℕ → List A
tabled f k zero = []
tabled f k (suc n) = f k ∷ tabled f (suc k) n

abbrev pub entry_in : List ℕ → List ℕ → ℕ → Entry
entry_in times words k = record { number = get_or words (numbers_at + k) 0; pid = get_or words (pids_at + k) 0; since = get_or times (sinces_at + k) 0 }

abbrev pub sync_lost : List ℕ → Bool
sync_lost words = lost_in (get_or words lost_at 0)

abbrev pub sync_run : List ℕ → ℕ
sync_run words = run_in (get_or words run_at 0)

abbrev pub gaps_in : List ℕ → List ℕ
gaps_in times = part times gaps_at fixed_count

abbrev pub count_in : List ℕ → ℕ
count_in words = get_or words count_at 0

abbrev pub entries_in : List ℕ → List ℕ → List Entry
entries_in times words = tabled (entry_in times words) 0 most_listed

abbrev pub halves_in : List ℕ → List ℕ
halves_in words = part words halves_at room_count

abbrev pub core_in : List ℕ → List ℕ → Core
core_in times words =
    record {
      lost = sync_lost words;
      run = sync_run words;
      since = gaps_in times;
      count = count_in words;
      entries = entries_in times words;
      half = halves_in words;
    }

unfoldable pub state_in : List ℕ → List ℕ → State
state_in times words = record { latest = get_or times latest_at 0; core = core_in times words }
