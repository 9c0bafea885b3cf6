-- The check behind refusal 5: document 01, "The calls and their numbers", its row 5. What the row does not name is no refusal.
--
--   greatest_pid       == 0x1FFE
--   time_sound t       == no time above 2^62
--   times_sound ts     == none of these times is
--   number_among n es  == the programme number n is listed in es
--   entry_sound e      == what is said of a listed programme by itself
--   entries_sound es   == no programme number 0 or listed twice, no listed PID below 0x0020 or above 0x1FFE, no gap start above 2^62
--   run_sound c        == no sync run above 4 (above 1 in sync)
--   room_sound ns m r  == so of the room r
--   rooms_from ns m r left == of `left` rooms from r on
--   rooms_sound ns m   == no half-built bytes that already make a whole section or break the section_length rule, in any room
--   rest_sound c m     == the rest of the state, behind times and list: run_sound and rooms_sound
--   state_sound s m    == all of it
--   byte_sound counters p == the table byte of the packet's PID is 0, 16..31 or 48..63
use Rattle.std.specs.Prelude.{ℕ, zero, suc, ◌+◌, Bool, true, false, cond, not, ◌&&◌, List, [], ◌∷◌, leb, eqb, get_or}
use Rattle.watches.specs.declared.Entry.{Entry}
use Rattle.watches.specs.Tables.{latest_time}
use Rattle.header.specs.Header.{pid_of}
use Rattle.continuity.specs.Continuity.{known_byte}
use Rattle.sections.specs.Rooms.{room_count, greatest_length, half_built}
use Rattle.sections.specs.Section.{stage_of, is_more}
use Rattle.programmes.specs.Listing.{most_listed, lowest_pid}
use Rattle.programmes.specs.Places.{half_at}
use Rattle.calls.specs.declared.Core.{Core}
use Rattle.calls.specs.declared.State.{State}
use Rattle.calls.specs.Cores.{listed}

abbrev pub greatest_pid : ℕ
greatest_pid = 0x1FFE

abbrev pub time_sound : ℕ → Bool
time_sound t = leb t latest_time

unfoldable pub times_sound : List ℕ → Bool
times_sound [] = true
times_sound (t ∷ ts) = time_sound t && times_sound ts

unfoldable pub number_among : ℕ → List Entry → Bool
number_among n [] = false
number_among n (e ∷ es) = cond (eqb e.number n) true (number_among n es)

abbrev pub entry_sound : Entry → Bool
entry_sound e = not (eqb e.number 0) && leb lowest_pid e.pid && leb e.pid greatest_pid && time_sound e.since

unfoldable pub entries_sound : List Entry → Bool
entries_sound [] = true
entries_sound (e ∷ es) = entry_sound e && not (number_among e.number es) && entries_sound es

abbrev pub run_sound : Core → Bool
run_sound c = leb c.run (cond c.lost 4 1)

abbrev pub room_sound : List ℕ → List ℕ → ℕ → Bool
room_sound ns m r = is_more (stage_of (greatest_length r) (half_built m r (half_at ns r)))

unfoldable pub rooms_from : List ℕ → List ℕ → ℕ → ℕ → Bool
rooms_from ns m r zero = true
rooms_from ns m r (suc left) = room_sound ns m r && rooms_from ns m (r + 1) left

abbrev pub rooms_sound : List ℕ → List ℕ → Bool
rooms_sound ns m = rooms_from ns m 0 room_count

abbrev pub rest_sound : Core → List ℕ → Bool
rest_sound c m = run_sound c && rooms_sound c.half m

unfoldable pub state_sound : State → List ℕ → Bool
state_sound s m =
    time_sound s.latest
    && times_sound s.core.since
    && leb s.core.count most_listed
    && entries_sound (listed s.core)
    && rest_sound s.core m

abbrev pub byte_sound : List ℕ → List ℕ → Bool
byte_sound counters p = known_byte (get_or counters (pid_of p) 0)
