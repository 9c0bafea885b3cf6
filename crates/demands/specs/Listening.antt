-- What the packets say, heard by one that keeps no time: document 01, "Judging one packet", "Building sections" and "The programme list",
-- without watches. It is what the other judgement of demand 3 goes by: the steps, the sections and the list are those of the paper, and no
-- gap start is held anywhere.
--
--   Pair              == a programme number and a PID
--   Listener          == sync, the list, the half-built sections and the counter table
--   Heard             == a good section of the fixed table k; a good PMT section with the number n on the PID q; a list that is read, with
--                        the one that it replaces
--   Listening         == the listener after some bytes, and what it heard
--   quiet l           == nothing is heard
-- The list:
--   paired n q ps     == the pair is on the list
--   pair_of e          == the pair of an entry
--   plain ps          == the list as entries, whose gap starts say nothing
--   pairs_in s         == the pairs of the list in the PAT section s
--   room_on ps q       == the room where sections of the PID q are built
-- A good section:
--   listener_listed ps l     == the list becomes ps; half-built sections stay with their PIDs
--   index_heard s l    == a good PAT section s
--   page_heard n q ps  == a page counts for a programme only where the index says that it lies, under the number that the index gives
--   heard_in r pid n s l == a good section s of the room r on a PID, with the table_id_extension n
--   heard_by, heard_one == what one finished section says, by its outcome: only a good one is heard
--   heard_all          == the finished sections of a payload, one after the other
-- One packet p:
--   heard_job, listener_built == its payload is handed to section building in the room r; what that leaves half-built
--   payload_heard r p l == the payload, where sections of its PID are built
--   listener_dropped r l       == the half-built section of a room is listener_dropped
--   listener_counted p b l    == the table byte of its PID becomes b
--   sync_of l, listener_synced c l == sync as a core without list and watches; the listener with the sync of a core
--   listen5, listen4, listen3, listen2, listen1 == each step, and what follows it
-- Between two packets:
--   opened_listener m  == the listener at an opening, with any section memory m
--   listener_of h counters == what is held between two calls, its gap starts left out, as a listener
use Rattle.std.specs.Prelude.{ℕ, Bool, true, false, cond, ◌&&◌, ◌||◌, List, [], ◌∷◌, ◌++◌, map, eqb, ltb, length, set, replicate}
use Rattle.watches.specs.declared.Entry.{Entry}
use Rattle.watches.specs.Tables.{fixed_tables}
use Rattle.header.specs.Header.{right_sync, error_bit, unit_start, pid_of, scrambled_bits, control_of, payload_of}
use Rattle.sections.specs.declared.Outcome.{Outcome}
use Rattle.sections.specs.declared.Outcome.TheVariants.{Unfinished, Good, Fault, Silent}
use Rattle.sections.specs.Rooms.{room_count, pat_room}
use Rattle.sections.specs.Building.{Finished, Job, built}
use Rattle.sections.specs.Outcomes.{is_pmt_room, outcome_of}
use Rattle.programmes.specs.Listing.{null_pid, list_of}
use Rattle.programmes.specs.Places.{half_at, moved_halves, moved_bytes}
use Rattle.calls.specs.declared.Core.{Core}
use Rattle.calls.specs.Cores.{listed, Held, fixed_room, list_room}
use Rattle.calls.specs.Sync.{synced_of}
use Rattle.calls.specs.Steps.{listed_by, bytes_of, counted}
use Rattle.calls.specs.Calls.{table_size}

pub record Pair : Type 0 where
  pub number : ℕ
  pub pid : ℕ

pub record Listener : Type 0 where
  pub lost : Bool
  pub run : ℕ
  pub list : List Pair
  pub half : List ℕ
  pub memory : List ℕ
  pub counters : List ℕ

pub data Heard : Type 0 where
  table : ℕ → Heard
  page : ℕ → ℕ → Heard
  index : List Pair → List Pair → Heard

pub record Listening : Type 0 where
  pub listener : Listener
  pub heard : List Heard

abbrev pub quiet : Listener → Listening
quiet l = record { listener = l; heard = [] }

-- THE LIST
unfoldable pub paired : ℕ → ℕ → List Pair → Bool
paired n q [] = false
paired n q (x ∷ xs) = cond (eqb x.number n && eqb x.pid q) true (paired n q xs)

abbrev pub pair_of : Entry → Pair
pair_of e = record { number = e.number; pid = e.pid }

abbrev pub plain : List Pair → List Entry
plain ps = map (λ x. record { number = x.number; pid = x.pid; since = 0 }) ps

abbrev pub pairs_in : List ℕ → List Pair
pairs_in s = map pair_of (listed_by (list_of 0 [] s))

unfoldable pub room_on : List Pair → ℕ → ℕ
room_on ps q = cond (ltb (fixed_room q fixed_tables) (length fixed_tables)) (fixed_room q fixed_tables) (list_room q (plain ps))

-- A GOOD SECTION
abbrev pub listener_listed : List Pair → Listener → Listener
listener_listed ps l =
    record {
      lost = l.lost;
      run = l.run;
      list = ps;
      half = moved_halves (plain l.list) (plain ps) l.half;
      memory = moved_bytes (plain l.list) (plain ps) l.half l.memory;
      counters = l.counters;
    }

abbrev pub index_heard : List ℕ → Listener → Listening
index_heard s l = record { listener = listener_listed (pairs_in s) l; heard = table pat_room ∷ index l.list (pairs_in s) ∷ [] }

abbrev pub page_heard : ℕ → ℕ → List Pair → List Heard
page_heard n q ps = cond (paired n q ps) (page n q ∷ []) []

abbrev pub heard_in : ℕ → ℕ → ℕ → List ℕ → Listener → Listening
heard_in r pid n s l =
    cond (eqb r pat_room) (index_heard s l)
    (cond (is_pmt_room r) (record { listener = l; heard = page_heard n pid l.list }) (record { listener = l; heard = table r ∷ [] }))

abbrev pub heard_by : Outcome → ℕ → ℕ → List ℕ → Listener → Listening
heard_by Unfinished r pid s l = quiet l
heard_by (Good n) r pid s l = heard_in r pid n s l
heard_by (Fault f c i) r pid s l = quiet l
heard_by Silent r pid s l = quiet l

abbrev pub heard_one : ℕ → ℕ → Finished → Listener → Listening
heard_one r pid f l = heard_by (outcome_of r pid f) r pid (bytes_of f) l

unfoldable pub heard_all : ℕ → ℕ → List Finished → Listener → Listening
heard_all r pid [] l = quiet l
heard_all r pid (f ∷ fs) l =
    let a = heard_one r pid f l in
    let b = heard_all r pid fs a.listener in
    record { listener = b.listener; heard = a.heard ++ b.heard }

-- THE PAYLOAD
abbrev pub heard_job : ℕ → List ℕ → Listener → Job
heard_job r p l = built r l.memory (half_at l.half r) (unit_start p) (payload_of p)

abbrev pub listener_built : ℕ → Job → Listener → Listener
listener_built r j l =
    record { lost = l.lost; run = l.run; list = l.list; half = set l.half r j.half; memory = j.memory; counters = l.counters }

abbrev pub payload_heard : ℕ → List ℕ → Listener → Listening
payload_heard r p l =
    cond (ltb r room_count) (heard_all r (pid_of p) (heard_job r p l).finished (listener_built r (heard_job r p l) l)) (quiet l)

-- 5. SCRAMBLING
abbrev pub listener_dropped : ℕ → Listener → Listener
listener_dropped r l = record { lost = l.lost; run = l.run; list = l.list; half = set l.half r 0; memory = l.memory; counters = l.counters }

abbrev pub listen5 : ℕ → List ℕ → Bool → Listener → Listening
listen5 r p take l = cond (scrambled_bits p) (quiet (listener_dropped r l)) (cond take (payload_heard r p l) (quiet l))

-- 4. CONTINUITY
abbrev pub listener_counted : List ℕ → ℕ → Listener → Listener
listener_counted p b l =
    record { lost = l.lost; run = l.run; list = l.list; half = l.half; memory = l.memory; counters = set l.counters (pid_of p) b }

abbrev pub listen4 : List ℕ → Listener → Listening
listen4 p l =
    let j = counted p l.counters in
    let r = room_on l.list (pid_of p) in
    listen5 r p j.take (listener_counted p j.byte (cond j.keep l (listener_dropped r l)))

-- 3. NULL PACKETS, and no payload at all
abbrev pub listen3 : List ℕ → Listener → Listening
listen3 p l = cond (eqb (pid_of p) null_pid || eqb (control_of p) 0) (quiet l) (listen4 p l)

-- 2. TRANSPORT ERROR
abbrev pub listen2 : List ℕ → Listener → Listening
listen2 p l = cond (error_bit p) (quiet l) (listen3 p l)

-- 1. SYNC, which needs no list and no watch
abbrev pub sync_of : Listener → Core
sync_of l = record { lost = l.lost; run = l.run; since = []; count = 0; entries = []; half = l.half }

abbrev pub listener_synced : Core → Listener → Listener
listener_synced c l =
    record { lost = c.lost; run = c.run; list = l.list; half = c.half; memory = l.memory; counters = l.counters }

unfoldable pub listen1 : List ℕ → Listener → Listening
listen1 p l =
    let y = synced_of (right_sync p) (sync_of l) in
    cond y.further (listen2 p (listener_synced y.core l)) (quiet (listener_synced y.core l))

-- BETWEEN TWO PACKETS
abbrev pub opened_listener : List ℕ → Listener
opened_listener m =
    record { lost = false; run = 0; list = []; half = replicate room_count 0; memory = m; counters = replicate table_size 0 }

abbrev pub listener_of : Held → List ℕ → Listener
listener_of h counters =
    record {
      lost = h.core.lost;
      run = h.core.run;
      list = map pair_of (listed h.core);
      half = h.core.half;
      memory = h.memory;
      counters = counters;
    }
