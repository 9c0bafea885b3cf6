-- A quiet packet call: document 01, "Judging one packet" and "Watches and lateness". A call is quiet where all that it does is seen at a glance:
-- nothing is late, and the packet is in sync, without a transport error, of a PID on which no sections are built, with nothing to be said of its
-- counter. It gives no event; step 4 leaves its byte in the table, and its time becomes the latest. That this is what the call does is
-- `proofs/Calls.antt`; a call that is not quiet is made as any other. p is the latest accepted time, t the call's time, q the packet's PID, b its
-- byte in the counter table, m is section memory.
--
--   none xs               == it is the empty list
--   gap_quiet ls p t s     == a gap start s not above 2^62 of a watch with the limits ls, of which none falls due at t
--   row_quiet, rows_quiet   == that of a watch; of watches one after the other
--   entry_quiet p t q e    == a listed entry as refusal 5 has it, its watch quiet, on another PID than q
--   mark_of e              == programme numbers are told apart by their remainder of 64: a call is not quiet where two have the same
--   unmarked              == no remainder is marked
--   entries_quiet p t q marks es == listed entries, none with a remainder that is marked or that of another
--   sync_quiet c           == in sync, with no wrong byte before, at most sixteen programmes listed
--   latest_quiet p t       == the latest time not above 2^62, the call's not below it
--   rest_quiet c m         == the rest of the state: half-built sections are as refusal 5 has them
--   state_quiet s m t q    == the state is quiet for a packet of the PID q
--   head_quiet x           == a right sync byte, no error bit, a PID of 0x0020 or above
--   idle_packet x          == step 3: a null packet, or control 00
--   byte_quiet x b         == a table byte that these calls leave, and no event of step 4, which is `counted_of` as for every other packet
--   count_quiet x b        == a packet of which only the counter is looked at, with nothing to be said of it
--   quiet_call s m t x b   == a call that refusals 1 to 4 pass is quiet
--   quiet_byte x b         == the byte after step 3, or after step 4, `counted_of` again
--   glance_of quiet x b    == what is told of a call: the byte that it leaves, where it is quiet
use Rattle.std.specs.Prelude.{ℕ, ◌%◌, Bool, true, false, cond, not, ◌&&◌, ◌||◌, List, [], ◌∷◌, leb, eqb, get_or, set, replicate, Option, Some, None}
use Rattle.lateness.specs.Gaps.{due}
use Rattle.watches.specs.declared.Entry.{Entry}
use Rattle.watches.specs.Tables.{fixed_tables}
use Rattle.watches.specs.Late.{Row, table_rows, entry_row}
use Rattle.header.specs.Header.{right_sync, error_bit, control_of, pid_of, header_of}
use Rattle.continuity.specs.Continuity.{known_byte, counted_of}
use Rattle.programmes.specs.Listing.{lowest_pid, most_listed, null_pid}
use Rattle.calls.specs.declared.Core.{Core}
use Rattle.calls.specs.declared.State.{State}
use Rattle.calls.specs.Cores.{listed}
use Rattle.calls.specs.Sound.{greatest_pid, time_sound, rooms_sound}

-- WATCHES
abbrev pub none : List ℕ → Bool
none [] = true
none (x ∷ xs) = false

abbrev pub gap_quiet : List ℕ → ℕ → ℕ → ℕ → Bool
gap_quiet ls p t s = time_sound s && none (due ls s p t)

abbrev pub row_quiet : ℕ → ℕ → Row → Bool
row_quiet p t w = gap_quiet w.limits p t w.since

unfoldable pub rows_quiet : ℕ → ℕ → List Row → Bool
rows_quiet p t [] = true
rows_quiet p t (w ∷ ws) = cond (row_quiet p t w) (rows_quiet p t ws) false

abbrev pub entry_quiet : ℕ → ℕ → ℕ → Entry → Bool
entry_quiet p t q e =
    not (eqb e.number 0)
    && leb lowest_pid e.pid
    && leb e.pid greatest_pid
    && not (eqb e.pid q)
    && row_quiet p t (entry_row e)

abbrev pub mark_of : Entry → ℕ
mark_of e = e.number % 64

unfoldable pub entries_quiet : ℕ → ℕ → ℕ → List Bool → List Entry → Bool
entries_quiet p t q marks [] = true
entries_quiet p t q marks (e ∷ es) =
    cond (entry_quiet p t q e) (cond (get_or marks (mark_of e) false) false (entries_quiet p t q (set marks (mark_of e) true) es)) false

abbrev pub unmarked : List Bool
unmarked = replicate 64 false

-- THE STATE
abbrev pub sync_quiet : Core → Bool
sync_quiet c = not c.lost && eqb c.run 0 && leb c.count most_listed

abbrev pub latest_quiet : ℕ → ℕ → Bool
latest_quiet p t = time_sound p && leb p t

abbrev pub rest_quiet : Core → List ℕ → Bool
rest_quiet c m = rooms_sound c.half m

unfoldable pub state_quiet : State → List ℕ → ℕ → ℕ → Bool
state_quiet s m t q =
    cond (sync_quiet s.core)
    (cond (latest_quiet s.latest t)
    (cond (rest_quiet s.core m)
    (cond (rows_quiet s.latest t (table_rows fixed_tables s.core.since)) (entries_quiet s.latest t q unmarked (listed s.core))
    false)
    false)
    false)
    false

-- THE PACKET
abbrev pub head_quiet : List ℕ → Bool
head_quiet x = right_sync x && not (error_bit x) && leb lowest_pid (pid_of x)

abbrev pub idle_packet : List ℕ → Bool
idle_packet x = eqb (pid_of x) null_pid || eqb (control_of x) 0

abbrev pub byte_quiet : List ℕ → ℕ → Bool
byte_quiet x b = cond (known_byte b) (idle_packet x || not (counted_of b (header_of x)).event) false

abbrev pub count_quiet : List ℕ → ℕ → Bool
count_quiet x b = cond (head_quiet x) (byte_quiet x b) false

-- THE CALL
abbrev pub quiet_call : State → List ℕ → ℕ → List ℕ → ℕ → Bool
quiet_call s m t x b = cond (count_quiet x b) (state_quiet s m t (pid_of x)) false

-- WHAT IT LEAVES
abbrev pub quiet_byte : List ℕ → ℕ → ℕ
quiet_byte x b = cond (idle_packet x) b (counted_of b (header_of x)).byte

abbrev pub glance_of : Bool → List ℕ → ℕ → Option ℕ
glance_of quiet x b = cond quiet (Some (quiet_byte x b)) None
