-- The programme list, both sides of each boundary, and what becomes of half-built sections: examples that a wrong definition would break.
-- Assumes nothing.
use mathlib.Core.Path.{◌≡◌, refl}
use mathlib.Core.Bool.{Bool, true, false}
use mathlib.Core.List.{List, [], ◌∷◌, ◌++◌, map}
use Prim.Native.Nat.{ℕ, zero, suc, ◌+◌, ◌/◌, ◌%◌}
use lib.ListN.{take, drop, replicate}
use Rattle.lists.specs.Places.{part}
use Rattle.watches.specs.declared.Entry.{Entry}
use Rattle.watches.specs.Tables.{no_entry}
use Rattle.programmes.specs.Listing.{most_listed, lowest_pid, null_pid, number_of, entry_pid, entries_of, pid_unusable, is_number, entry_for, read_on, list_of}
use Rattle.programmes.specs.Places.{place_of, is_listed, places_from, moved_halves, moved_bytes}
use Rattle.programmes.specs.inner.Moving.{none_half}

-- THE LIST
abbrev programme : ℕ → ℕ → ℕ → Entry
programme n q s = record { number = n; pid = q; since = s }

-- the bytes of an entry
abbrev entry : ℕ → ℕ → List ℕ
entry n q = (n / 256) ∷ (n % 256) ∷ (q / 256) ∷ (q % 256) ∷ []

-- a section of these entries: before them eight bytes, behind them four, which would make entries of their own
abbrev section : List ℕ → List ℕ
section es = entry 0x1111 0x111 ++ entry 0x1112 0x112 ++ es ++ entry 0x1113 0x113

-- what such a section, arriving at 9, makes of a list: the listed entries, and whether it is bad
pub record Read : Type 0 where
  pub bad : Bool
  pub entries : List Entry

abbrev read : Bool → List Entry → Read
read b es = record { bad = b; entries = es }

abbrev after : List Entry → List ℕ → Read
after old es =
    let l = list_of 9 old (section es) in
    read l.bad (take l.count l.entries)

abbrev from : List ℕ → Read
from es = after [] es

-- n entries from the programme number k on, each on a PID of its own
abbrev upwards : ℕ → ℕ → List ℕ
upwards k zero = []
upwards k (suc n) = entry k (0x100 + k) ++ upwards (k + 1) n

abbrev upwards_listed : ℕ → ℕ → List Entry
upwards_listed k zero = []
upwards_listed k (suc n) = programme k (0x100 + k) 9 ∷ upwards_listed (k + 1) n

pub record Listing : Type 0 where
  -- a programme number is two bytes, the high one first
  pub number_of_two_bytes : number_of 0x12 0x34 ≡ 0x1234
  -- a PID is 13 bits: the low five of the third byte
  pub pid_of_13_bits : map (λ c. entry_pid c 0) (0x01 ∷ 0x02 ∷ 0x04 ∷ 0x08 ∷ 0x10 ∷ 0x20 ∷ 0x40 ∷ 0x80 ∷ []) ≡ 0x0100 ∷ 0x0200 ∷ 0x0400 ∷ 0x0800 ∷ 0x1000 ∷ 0 ∷ 0 ∷ 0 ∷ []
  -- and all of the fourth
  pub pid_low : entry_pid 0xE1 0x34 ≡ 0x0134
  -- the first eight bytes and the last four are no entries
  pub entries_alone : entries_of (section (entry 1 0x100)) ≡ entry 1 0x100
  -- a section without entries lists none, and its list is not bad
  pub no_entries : from [] ≡ read false []
  -- read in fours of bytes: number, then PID; reserved bits do not matter
  pub in_fours_of_bytes : from (0x12 ∷ 0x34 ∷ 0xE1 ∷ 0x56 ∷ 0x00 ∷ 0x02 ∷ 0x1F ∷ 0xFE ∷ []) ≡ read false (programme 0x1234 0x0156 9 ∷ programme 2 0x1FFE 9 ∷ [])
  -- a PID below 0x0020 or equal to 0x1FFF
  pub unusable_pids : map pid_unusable (0x0000 ∷ 0x001F ∷ 0x0020 ∷ 0x1FFE ∷ 0x1FFF ∷ []) ≡ true ∷ true ∷ false ∷ false ∷ true ∷ []
  -- an entry with PID 0x001F makes the list bad, is ignored, and the rest is used
  pub pid_001f : from (entry 1 0x001F ++ entry 2 0x0020) ≡ read true (programme 2 0x0020 9 ∷ [])
  -- so does one with PID 0x1FFF
  pub pid_1fff : from (entry 1 0x1FFF ++ entry 2 0x1FFE) ≡ read true (programme 2 0x1FFE 9 ∷ [])
  -- PIDs 0x0020 and 0x1FFE are usable
  pub pids_at_the_limits : from (entry 1 0x0020 ++ entry 2 0x1FFE) ≡ read false (programme 1 0x0020 9 ∷ programme 2 0x1FFE 9 ∷ [])
  -- W5: programme 0 is passed over: more than once, and with any PID
  pub programme_0 : from (entry 0 0x0010 ++ entry 1 0x100 ++ entry 0 0x1FFF ++ entry 0 0x0010) ≡ read false (programme 1 0x100 9 ∷ [])
  -- a programme number seen earlier in the section: the first one counts
  pub number_twice : from (entry 1 0x100 ++ entry 2 0x200 ++ entry 1 0x300) ≡ read true (programme 1 0x100 9 ∷ programme 2 0x200 9 ∷ [])
  -- the same pair twice makes the list bad too
  pub pair_twice : from (entry 1 0x100 ++ entry 1 0x100) ≡ read true (programme 1 0x100 9 ∷ [])
  -- two numbers on one PID are two programmes
  pub pid_twice : from (entry 1 0x100 ++ entry 2 0x100) ≡ read false (programme 1 0x100 9 ∷ programme 2 0x100 9 ∷ [])
  -- W5: seen earlier counts also where that entry was not usable
  pub seen_in_an_unusable_entry : from (entry 1 0x001F ++ entry 1 0x100) ≡ read true []
  -- numbers are told apart by both bytes
  pub numbers_by_both_bytes : from (entry 0x0101 0x100 ++ entry 0x0201 0x200 ++ entry 0x0102 0x300) ≡ read false (programme 0x0101 0x100 9 ∷ programme 0x0201 0x200 9 ∷ programme 0x0102 0x300 9 ∷ [])
  -- sixteen usable entries are listed
  pub sixteen : from (upwards 1 16) ≡ read false (upwards_listed 1 16)
  -- an entry past the sixteenth usable one makes the list bad and is ignored
  pub seventeen : from (upwards 1 17) ≡ read true (upwards_listed 1 16)
  -- past the sixteenth usable one: entries that are passed over or unusable do not count
  pub sixteen_usable : from (entry 0 0x10 ++ entry 99 0x1FFF ++ upwards 1 16) ≡ read true (upwards_listed 1 16)
  -- W5: programme 0 is passed over past the sixteenth too
  pub sixteen_and_programme_0 : from (upwards 1 16 ++ entry 0 0x10) ≡ read false (upwards_listed 1 16)
  -- one spare byte at the end makes the list bad, and is ignored
  pub one_spare_byte : from (entry 1 0x100 ++ (0 ∷ [])) ≡ read true (programme 1 0x100 9 ∷ [])
  -- two spare bytes do
  pub two_spare_bytes : from (entry 1 0x100 ++ (0 ∷ 0 ∷ [])) ≡ read true (programme 1 0x100 9 ∷ [])
  -- three spare bytes do
  pub three_spare_bytes : from (entry 1 0x100 ++ (0 ∷ 2 ∷ 1 ∷ [])) ≡ read true (programme 1 0x100 9 ∷ [])
  -- a pair of number and PID that was listed before keeps its watch
  pub kept_pair : entry_for 9 (programme 1 0x100 5 ∷ programme 2 0x200 6 ∷ []) 2 0x200 ≡ programme 2 0x200 6
  -- W2: an old number on a new PID is a new pair: its watch begins at this arrival
  pub new_pid : entry_for 9 (programme 1 0x100 5 ∷ programme 2 0x200 6 ∷ []) 1 0x200 ≡ programme 1 0x200 9
  -- so is a new number on an old PID
  pub new_number : entry_for 9 (programme 1 0x100 5 ∷ []) 2 0x100 ≡ programme 2 0x100 9
  -- the list becomes that of the section, in its order (W4); a missing pair is gone
  pub list_replaced : after (programme 1 0x100 5 ∷ programme 2 0x200 6 ∷ programme 3 0x300 7 ∷ []) (entry 3 0x300 ++ entry 4 0x400 ++ entry 1 0x100) ≡ read false (programme 3 0x300 7 ∷ programme 4 0x400 9 ∷ programme 1 0x100 5 ∷ [])
  -- behind the list there is none
  pub none_behind_the_list : drop 1 (list_of 9 (programme 2 0x200 6 ∷ []) (section (entry 1 0x100))).entries ≡ replicate 15 no_entry
  -- sixteen programmes at most; PIDs from 0x0020; the PID of null packets
  pub limits : most_listed ∷ lowest_pid ∷ null_pid ∷ [] ≡ 16 ∷ 0x0020 ∷ 0x1FFF ∷ []

pub listing : Listing
unfolding list_of read_on is_number entry_for part
listing =
    record {
      number_of_two_bytes = refl;
      pid_of_13_bits = refl;
      pid_low = refl;
      entries_alone = refl;
      no_entries = refl;
      in_fours_of_bytes = refl;
      unusable_pids = refl;
      pid_001f = refl;
      pid_1fff = refl;
      pids_at_the_limits = refl;
      programme_0 = refl;
      number_twice = refl;
      pair_twice = refl;
      pid_twice = refl;
      seen_in_an_unusable_entry = refl;
      numbers_by_both_bytes = refl;
      sixteen = refl;
      seventeen = refl;
      sixteen_usable = refl;
      sixteen_and_programme_0 = refl;
      one_spare_byte = refl;
      two_spare_bytes = refl;
      three_spare_bytes = refl;
      kept_pair = refl;
      new_pid = refl;
      new_number = refl;
      list_replaced = refl;
      none_behind_the_list = refl;
      limits = refl;
    }

-- HALF-BUILT SECTIONS as a list is replaced
-- a list of PIDs, the programmes numbered from 1
abbrev on : ℕ → List ℕ → List Entry
on n [] = []
on n (q ∷ qs) = programme n q 0 ∷ on (n + 1) qs

-- half-built lengths: those of the five fixed rooms 1 to 5, then those of the first places, and 0
abbrev halves : List ℕ → List ℕ
halves ns = 1 ∷ 2 ∷ 3 ∷ 4 ∷ 5 ∷ (take 16 (ns ++ replicate 16 0))

-- section memory up to the third PMT room: each begins with some bytes
abbrev memory : List ℕ → List ℕ → List ℕ → List ℕ
memory a b c = replicate 8192 0 ++ (a ++ replicate 1020 0) ++ (b ++ replicate 1020 0) ++ c

abbrev first_bytes : List ℕ
first_bytes = 0x11 ∷ 0x12 ∷ 0x13 ∷ 0x14 ∷ []

abbrev second_bytes : List ℕ
second_bytes = 0x21 ∷ 0x22 ∷ 0x23 ∷ 0x24 ∷ []

abbrev third_bytes : List ℕ
third_bytes = 0x31 ∷ 0x32 ∷ 0x33 ∷ 0x34 ∷ []

pub record Moving : Type 0 where
  -- the room of a PID is that of the first place with it; past the list where there is none
  pub first_place : place_of 0x200 (on 1 (0x100 ∷ 0x200 ∷ 0x200 ∷ [])) ∷ place_of 0x300 (on 1 (0x100 ∷ 0x200 ∷ [])) ∷ [] ≡ 1 ∷ 2 ∷ []
  -- a PID is listed where a place has it
  pub listed_or_not : map (λ q. is_listed q (on 1 (0x100 ∷ 0x200 ∷ []))) (0x100 ∷ 0x200 ∷ 0x300 ∷ []) ≡ true ∷ true ∷ false ∷ []
  -- nothing is half-built where each length is 0
  pub none_half_built : none_half (0 ∷ 0 ∷ []) ∷ none_half (0 ∷ 1 ∷ []) ∷ none_half (1 ∷ 0 ∷ []) ∷ [] ≡ true ∷ false ∷ false ∷ []
  -- W7: a PID that stays listed keeps its half-built section; fixed rooms are as they were
  pub stays : moved_halves (on 1 (0x100 ∷ 0x200 ∷ [])) (on 1 (0x100 ∷ 0x200 ∷ [])) (halves (7 ∷ 8 ∷ [])) ≡ halves (7 ∷ 8 ∷ [])
  -- W7: at another place too
  pub moves : moved_halves (on 1 (0x100 ∷ 0x200 ∷ [])) (on 1 (0x200 ∷ 0x300 ∷ 0x100 ∷ [])) (halves (7 ∷ 8 ∷ [])) ≡ halves (8 ∷ 0 ∷ 7 ∷ [])
  -- W7: and under another number
  pub moves_under_another_number : moved_halves (on 1 (0x100 ∷ [])) (on 5 (0x300 ∷ 0x100 ∷ [])) (halves (7 ∷ [])) ≡ halves (0 ∷ 7 ∷ [])
  -- a PID no longer listed loses its half-built section
  pub leaves : moved_halves (on 1 (0x100 ∷ 0x200 ∷ [])) (on 1 (0x200 ∷ [])) (halves (7 ∷ 8 ∷ [])) ≡ halves (8 ∷ [])
  -- a new one has none, also where the place held another's, or an unlisted length
  pub is_new : moved_halves (on 1 (0x100 ∷ [])) (on 1 (0x300 ∷ 0x400 ∷ [])) (halves (7 ∷ 8 ∷ [])) ≡ halves []
  -- one shared by two numbers has one room, that of its first place: before, and after
  pub shared : moved_halves (on 1 (0x100 ∷ 0x200 ∷ 0x200 ∷ [])) (on 1 (0x200 ∷ 0x200 ∷ 0x100 ∷ [])) (halves (7 ∷ 8 ∷ 9 ∷ [])) ≡ halves (8 ∷ 0 ∷ 7 ∷ [])
  -- from the last of sixteen places
  pub last_place : moved_halves (on 1 (replicate 15 0x100 ++ (0x200 ∷ []))) (on 1 (0x200 ∷ [])) (halves (replicate 15 0 ++ (6 ∷ []))) ≡ halves (6 ∷ [])
  -- and to it
  pub to_the_last_place : moved_halves (on 1 (0x200 ∷ [])) (on 1 (replicate 15 0x100 ++ (0x200 ∷ []))) (halves (6 ∷ [])) ≡ halves (replicate 15 0 ++ (6 ∷ []))
  -- the bytes move with the PID, as many as are half-built, also where two PIDs change places
  pub bytes_change_places : drop 8192 (moved_bytes (on 1 (0x100 ∷ 0x200 ∷ [])) (on 1 (0x200 ∷ 0x100 ∷ [])) (halves (2 ∷ 3 ∷ [])) (memory first_bytes second_bytes []))
      ≡ drop 8192 (memory (0x21 ∷ 0x22 ∷ 0x23 ∷ 0x14 ∷ []) (0x11 ∷ 0x12 ∷ 0x23 ∷ 0x24 ∷ []) [])
  -- those of a PID that leaves are left where they are, and nobody reads them
  pub bytes_of_one_that_leaves : drop 8192 (moved_bytes (on 1 (0x100 ∷ 0x200 ∷ [])) (on 1 (0x300 ∷ 0x200 ∷ [])) (halves (2 ∷ 3 ∷ [])) (memory first_bytes second_bytes []))
      ≡ drop 8192 (memory first_bytes second_bytes [])
  -- a shared PID's bytes go to its first place alone
  pub bytes_of_a_shared_pid : drop 8192 (moved_bytes (on 1 (0x100 ∷ 0x200 ∷ [])) (on 1 (0x200 ∷ 0x300 ∷ 0x200 ∷ [])) (halves (2 ∷ 3 ∷ [])) (memory first_bytes second_bytes third_bytes))
      ≡ drop 8192 (memory (0x21 ∷ 0x22 ∷ 0x23 ∷ 0x14 ∷ []) second_bytes third_bytes)

pub moving : Moving
unfolding place_of none_half places_from part
moving =
    record {
      first_place = refl;
      listed_or_not = refl;
      none_half_built = refl;
      stays = refl;
      moves = refl;
      moves_under_another_number = refl;
      leaves = refl;
      is_new = refl;
      shared = refl;
      last_place = refl;
      to_the_last_place = refl;
      bytes_change_places = refl;
      bytes_of_one_that_leaves = refl;
      bytes_of_a_shared_pid = refl;
    }
