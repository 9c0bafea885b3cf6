-- A quiet call is what it is said to be: accepted, without an event; step 4 leaves its byte in the table, the packet's time becomes the latest, and
-- nothing else changes. Assumes nothing.
use mathlib.Core.Path.{◌≡◌, refl, sym, ap, ap₂, ◌∙◌}
use mathlib.Core.Bool.{Bool, true, false, cond, not, ◌&&◌, ◌||◌}
use mathlib.Core.List.{List, [], ◌∷◌}
use Prim.Native.Nat.{ℕ, ◌≤◌}
use native.Mathlib.Omega.{arith}
use lib.Dec.{leb, eqb}
use lib.ListN.{length, get_or, set}
use lib.Seq.{set-get_or}
use borrow.Author.Tests.{leb-true, eqb-true, ne_eqb, le-ltb, not-true}
use Rattle.lists.proofs.Tests.{and_left, and_right}
use Rattle.events.specs.Faults.{continuity_error}
use Rattle.watches.specs.Tables.{pat_pid, nit_pid, sdt_pid, eit_pid, tdt_pid, fixed_tables, fixed_count}
use Rattle.watches.specs.Late.{table_rows, entry_rows}
use Rattle.header.specs.Header.{right_sync, error_bit, scrambled_bits, pid_of, header_of}
use Rattle.continuity.specs.declared.Counted.{Counted}
use Rattle.continuity.specs.Continuity.{known_byte, counted_of}
use Rattle.sections.specs.Rooms.{room_count, no_room}
use Rattle.programmes.specs.Listing.{lowest_pid, most_listed}
use Rattle.programmes.specs.Places.{is_listed}
use Rattle.calls.specs.declared.State.{State}
use Rattle.calls.specs.Cores.{Held, listed, fixed_room, room_for, dropped_room, board_of, late_of, with_sync}
use Rattle.calls.specs.Sync.{Synced, while_lost, in_sync, synced_of}
use Rattle.calls.specs.Steps.{AfterStep, also, packet_events, counted, step1, step2, step4, step5}
use Rattle.calls.specs.Sound.{time_sound, state_sound}
use Rattle.calls.specs.Calls.{held_of, packet_call}
use Rattle.calls.proofs.Accepted.{PacketAccepted, accepted_packet_lem, packet_call_accepted, rooms_at, sound_whole}
use Rattle.calls.proofs.Moves.{dropped_nowhere}
use Rattle.checks.specs.inner.Ladders.{Right}
use Rattle.quiet.specs.inner.Quiet.{rows_quiet, rest_quiet, entries_quiet, unmarked, sync_quiet, latest_quiet, state_quiet, head_quiet, idle_packet, byte_quiet, count_quiet, quiet_call, quiet_byte}
use Rattle.quiet.proofs.Turns.{passed}
use Rattle.quiet.proofs.Parts.{rows_timely, rows_both, tables_sound, entries_rows, entries_other, entries_sound_lem}

-- A QUIET STATE, part by part
pub record QuietState (s : State) (m : List ℕ) (t q : ℕ) : Type 0 where
  pub insync : s.core.lost ≡ false
  pub run : s.core.run ≡ 0
  pub count : s.core.count ≤ most_listed
  pub latest : time_sound s.latest ≡ true
  pub order : s.latest ≤ t
  pub rest : rest_quiet s.core m ≡ true
  pub tables : rows_quiet s.latest t (table_rows fixed_tables s.core.since) ≡ true
  pub entries : entries_quiet s.latest t q unmarked (listed s.core) ≡ true

pub state_parts : (s : State) (m : List ℕ) (t q : ℕ) → state_quiet s m t q ≡ true → QuietState s m t q
unfolding state_quiet
state_parts s m t q e =
    let d = entries_quiet s.latest t q unmarked (listed s.core) in
    let c = rows_quiet s.latest t (table_rows fixed_tables s.core.since) in
    let b = rest_quiet s.core m in
    let a = latest_quiet s.latest t in
    let one = passed (sync_quiet s.core) (cond a (cond b (cond c d false) false) false) e in
    let two = passed a (cond b (cond c d false) false) one.1 in
    let three = passed b (cond c d false) two.1 in
    let four = passed c d three.1 in
    let lost = not s.core.lost in
    let run = eqb s.core.run 0 in
    let ab = and_left (lost && run) (leb s.core.count most_listed) one.0 in
    record {
      insync = not-true s.core.lost (and_left lost run ab);
      run = eqb-true s.core.run 0 (and_right lost run ab);
      count = leb-true s.core.count most_listed (and_right (lost && run) (leb s.core.count most_listed) one.0);
      latest = and_left (time_sound s.latest) (leb s.latest t) two.0;
      order = leb-true s.latest t (and_right (time_sound s.latest) (leb s.latest t) two.0);
      rest = three.0;
      tables = four.0;
      entries = four.1;
    }

module _ (s : State) (m : List ℕ) (t q : ℕ) (h : QuietState s m t q) where
  -- it is sound
  pub quiet_sound : length s.core.since ≤ fixed_count → state_sound s m ≡ true
  quiet_sound l =
      sound_whole s m
      (record {
        latest = leb-true s.latest _ h.latest;
        since = tables_sound s.latest t fixed_tables s.core.since l h.tables;
        count = h.count;
        entries = entries_sound_lem s.latest t q unmarked (listed s.core) refl h.entries;
        run = omega (arith, h.run);
        rooms = λ r b. rooms_at s.core.half m 0 room_count h.rest r (omega arith) b;
      })

  -- nothing is late
  pub quiet_timely : late_of s.latest t s.core ≡ []
  unfolding late_of
  quiet_timely =
      let tables = table_rows fixed_tables s.core.since in
      let entries = entry_rows (listed s.core) in
      rows_timely s.latest t (board_of s.core) (rows_both s.latest t tables entries h.tables (entries_rows s.latest t q unmarked (listed s.core) h.entries))

  -- no sections of the PID are built
  quiet_unlisted : is_listed q (listed s.core) ≡ false
  quiet_unlisted = rw (entries_other s.latest t q unmarked (listed s.core) h.entries, le-ltb (length (listed s.core)) (length (listed s.core)) (omega arith))

  quiet_room : lowest_pid ≤ q → room_for s.core q ≡ no_room
  unfolding room_for fixed_room
  quiet_room l =
      rw (
        ne_eqb pat_pid q (λ z. omega arith),
        ne_eqb nit_pid q (λ z. omega arith),
        ne_eqb sdt_pid q (λ z. omega arith),
        ne_eqb eit_pid q (λ z. omega arith),
        ne_eqb tdt_pid q (λ z. omega arith),
        quiet_unlisted,
      )

  -- step 1 leaves the core
  pub quiet_synced : (right : Bool) → right ≡ true → synced_of right s.core ≡ record { core = s.core; faults = []; further = true }
  quiet_synced right e =
      let c = s.core in
      ap (λ (b : Bool). cond b (while_lost right c) (in_sync right c)) h.insync
      ∙ ap (λ (b : Bool). in_sync b c) e
      ∙ ap₂ (λ (b : Bool) (n : ℕ). record { core = with_sync b n c; faults = []; further = true }) (sym h.insync) (sym h.run)

-- A QUIET PACKET, part by part
pub record QuietPacket (x : List ℕ) (b : ℕ) : Type 0 where
  pub sync : right_sync x ≡ true
  pub error : error_bit x ≡ false
  pub low : lowest_pid ≤ pid_of x
  pub byte : known_byte b ≡ true
  pub silent : (idle_packet x || not (counted_of b (header_of x)).event) ≡ true

pub packet_parts : (x : List ℕ) (b : ℕ) → count_quiet x b ≡ true → QuietPacket x b
packet_parts x b e =
    let two = passed (head_quiet x) (byte_quiet x b) e in
    let three = passed (known_byte b) (idle_packet x || not (counted_of b (header_of x)).event) two.1 in
    let right = right_sync x in
    let clear = not (error_bit x) in
    let head = and_left (right && clear) (leb lowest_pid (pid_of x)) two.0 in
    record {
      sync = and_left right clear head;
      error = not-true (error_bit x) (and_right right clear head);
      low = leb-true lowest_pid (pid_of x) (and_right (right && clear) (leb lowest_pid (pid_of x)) two.0);
      byte = three.0;
      silent = three.1;
    }

-- where sync and lateness leave nothing to say, the call is steps 2 to 5
module _ (s : State) (m : List ℕ) (t q : ℕ) (h : QuietState s m t q) (x counters : List ℕ) (capacity : ℕ) (right : right_sync x ≡ true) where
  abbrev synced_by : Synced → AfterStep
  synced_by y =
      let g : Held = record { core = y.core; memory = m } in
      also (packet_events t x y.faults) (cond y.further (step2 t x counters g) (record { held = g; counters = counters; events = [] }))

  pub calm_step : step1 t x counters (held_of s m) ≡ step2 t x counters (held_of s m)
  unfolding step1
  calm_step = ap synced_by (quiet_synced s m t q h (right_sync x) right)

  pub calm_call : PacketAccepted s t x counters m capacity → (after : AfterStep) → step2 t x counters (held_of s m) ≡ after → after.events ≡ [] → packet_call s t x counters m capacity
      ≡ record { refusal = 0; state = record { latest = t; core = after.held.core }; counters = after.counters; memory = after.held.memory; events = [] }
  calm_call ok after e none =
      packet_call_accepted s t x counters m capacity (accepted_packet_lem s t x counters m capacity ok) ∙ rw (calm_step, e, none, quiet_timely s m t q h)

-- the table after it
abbrev pub counted_table : List ℕ → List ℕ → List ℕ
counted_table x counters = set counters (pid_of x) (quiet_byte x (get_or counters (pid_of x) 0))

module _ (s : State) (m : List ℕ) (t : ℕ) (x counters : List ℕ) (capacity : ℕ) (right : Right t x counters capacity)
    (e : quiet_call s m t x (get_or counters (pid_of x) 0) ≡ true) where
  abbrev seen : ℕ
  seen = get_or counters (pid_of x) 0

  quiet_packet : QuietPacket x seen
  quiet_packet = packet_parts x seen (passed (count_quiet x seen) (state_quiet s m t (pid_of x)) e).0

  quiet_state : QuietState s m t (pid_of x)
  quiet_state = state_parts s m t (pid_of x) (passed (count_quiet x seen) (state_quiet s m t (pid_of x)) e).1

  abbrev quiet_step : AfterStep
  quiet_step = record { held = held_of s m; counters = counted_table x counters; events = [] }

  nowhere : room_for s.core (pid_of x) ≡ no_room
  nowhere = quiet_room s m t (pid_of x) quiet_state quiet_packet.low

  -- 5: no sections of the PID are built, and it is no PID whose scrambling is an event
  abbrev after5 : List ℕ → AfterStep
  after5 cs = record { held = held_of s m; counters = cs; events = [] }

  quiet_step_5 : (take : Bool) (cs : List ℕ) → length s.core.half ≤ room_count → step5 t x take cs (held_of s m) ≡ after5 cs
  quiet_step_5 take cs l =
      rw (nowhere, dropped_nowhere no_room (held_of s m) l, ne_eqb (pid_of x) 0 (λ z. omega (arith, quiet_packet.low)), quiet_unlisted s m t (pid_of x) quiet_state) (go (scrambled_bits x) take)
    where
      go : (b c : Bool) → cond b (after5 cs) (cond c (after5 cs) (after5 cs)) ≡ after5 cs
      go true c = refl
      go false true = refl
      go false false = refl

  -- 4: by the judgement of the counter
  quiet_step_4 : length s.core.half ≤ room_count → (j : Counted) → j.event ≡ false
      → also (packet_events t x (cond j.event (continuity_error ∷ []) []))
      (step5 t x j.take (set counters (pid_of x) j.byte) (cond j.keep (held_of s m) (dropped_room (room_for s.core (pid_of x)) (held_of s m))))
      ≡ after5 (set counters (pid_of x) j.byte)
  quiet_step_4 l j none =
      let cs = set counters (pid_of x) j.byte in
      ap (λ (b : Bool). also (packet_events t x (cond b (continuity_error ∷ []) [])) (step5 t x j.take cs (cond j.keep (held_of s m) (dropped_room (room_for s.core (pid_of x)) (held_of s m))))) none
      ∙ ap (step5 t x j.take cs) (ap (λ (r : ℕ). cond j.keep (held_of s m) (dropped_room r (held_of s m))) nowhere ∙ kept j.keep)
      ∙ quiet_step_5 j.take cs l
    where
      kept : (b : Bool) → cond b (held_of s m) (dropped_room no_room (held_of s m)) ≡ held_of s m
      kept true = refl
      kept false = dropped_nowhere no_room (held_of s m) l

  -- 3 and 2
  quiet_step_2 : length s.core.half ≤ room_count → step2 t x counters (held_of s m) ≡ quiet_step
  quiet_step_2 l = rw quiet_packet.error (go (idle_packet x) quiet_packet.silent)
    where
      go : (b : Bool) → (b || not (counted x counters).event) ≡ true
          → cond b (after5 counters) (step4 t x counters (held_of s m)) ≡ after5 (set counters (pid_of x) (cond b seen (counted x counters).byte))
      go true z = ap after5 (sym (set-get_or counters (pid_of x) 0))
      go false z = quiet_step_4 l (counted x counters) (not-true (counted x counters).event z)

  -- THE CALL
  quiet_accepted : length s.core.since ≤ fixed_count → PacketAccepted s t x counters m capacity
  quiet_accepted l =
      record {
        packet = right.packet;
        table = right.table;
        capacity = right.records;
        time = right.time;
        sound = quiet_sound s m t (pid_of x) quiet_state l;
        byte = quiet_packet.byte;
        order = quiet_state.order;
      }

  pub quiet_call_lem : length s.core.since ≤ fixed_count → length s.core.half ≤ room_count → packet_call s t x counters m capacity
      ≡ record { refusal = 0; state = record { latest = t; core = s.core }; counters = counted_table x counters; memory = m; events = [] }
  quiet_call_lem l g = calm_call s m t (pid_of x) quiet_state x counters capacity quiet_packet.sync (quiet_accepted l) quiet_step (quiet_step_2 g) refl
