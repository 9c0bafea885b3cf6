-- What the functions that move a state in its arrays are given and hand back. The core that the definitions speak of does not tell all of the arrays
-- (docs/DECISIONS.md, F21), so each says what becomes of the rest.
--
--   listed_in times words == the listed entries of the state that two such arrays hold
--   within n r  == the number r where it is below n, and none where it is not: a search of crate programmes or calls that finds nothing answers a number
--                 past the places, past the tables or past the rooms
--   place_among q es == the first place with the PID q, if there is one
--   Sized times words == both are as long as such arrays are
--   LatestKept a b, SyncKept a b == what a core does not tell of the times b, and of the words b, is as it was in a: the latest accepted time; by
--                 which numbers lost and run are told
--   Moved      == both
--   SyncTold words == lost and run are told as words_of tells them
--   Typed s    == what a state by value has by its types: the lengths of its arrays, and a run that a byte holds
use Rattle.std.specs.Prelude.{◌≡◌, List, ℕ, ◌≤◌, cond, ltb, Option, Some, None, length, get_or, take}
use Rattle.watches.specs.declared.Entry.{Entry}
use Rattle.watches.specs.Tables.{fixed_count}
use Rattle.sections.specs.Rooms.{room_count}
use Rattle.programmes.specs.Listing.{most_listed}
use Rattle.programmes.specs.Places.{place_of}
use Rattle.calls.specs.declared.State.{State}
use Rattle.arrays.specs.Lent.{time_count, word_count, latest_at, lost_at, run_at, lost_word, sync_lost, sync_run, count_in, entries_in}

abbrev pub listed_in : List ℕ → List ℕ → List Entry
listed_in times words = take (count_in words) (entries_in times words)

abbrev pub within : ℕ → ℕ → Option ℕ
within n r = cond (ltb r n) (Some r) None

abbrev pub place_among : ℕ → List Entry → Option ℕ
place_among q es = within (length es) (place_of q es)

pub record Sized (times words : List ℕ) : Type 0 where
  pub long : length times ≡ time_count
  pub wide : length words ≡ word_count

-- WHAT A CORE DOES NOT TELL
pub record LatestKept (a b : List ℕ) : Type 0 where
  pub long : length b ≡ time_count
  pub latest : get_or b latest_at 0 ≡ get_or a latest_at 0

pub record SyncKept (a b : List ℕ) : Type 0 where
  pub wide : length b ≡ word_count
  pub lost : get_or b lost_at 0 ≡ get_or a lost_at 0
  pub run : get_or b run_at 0 ≡ get_or a run_at 0

pub record Moved (times₀ words₀ times₁ words₁ : List ℕ) : Type 0 where
  pub times : LatestKept times₀ times₁
  pub words : SyncKept words₀ words₁

pub record SyncTold (words : List ℕ) : Type 0 where
  pub wide : length words ≡ word_count
  pub lost : get_or words lost_at 0 ≡ lost_word (sync_lost words)
  pub run : get_or words run_at 0 ≡ sync_run words

pub record Typed (s : State) : Type 0 where
  pub gaps : length s.core.since ≡ fixed_count
  pub places : length s.core.entries ≡ most_listed
  pub rooms : length s.core.half ≡ room_count
  pub run : s.core.run ≤ 255
