-- How many events a call gives at most, from any state. Assumes nothing.
use mathlib.Core.Path.{◌≡◌, refl}
use mathlib.Core.Bool.{Bool, true, false}
use mathlib.Core.List.{List}
use Prim.Native.Nat.{ℕ, ◌+◌, ◌≤◌}
use native.Mathlib.Omega.{arith}
use lib.Dec.{eqb}
use lib.ListN.{length, length-append, length-take}
use borrow.Author.Tests.{eqb-true, eqb-false}
use Rattle.events.specs.Capacity.{most_events}
use Rattle.watches.specs.Tables.{fixed_tables, fixed_count}
use Rattle.watches.specs.Late.{table_rows, entry_rows}
use Rattle.watches.proofs.Late.{few_both, rows_most, fixed_rows_few, tables_within, entries_few, entries_length}
use Rattle.calls.specs.declared.Core.{Core}
use Rattle.calls.specs.declared.State.{State}
use Rattle.calls.specs.Cores.{listed, board_of, late_of}
use Rattle.calls.specs.Calls.{packet_refusal, clock_refusal, held_of, stepped, packet_call, clock_call, answer_of}
use Rattle.calls.proofs.Own.{packet_own}
use Rattle.calls.proofs.Accepted.{sound_parts, packet_accepted, clock_accepted, packet_call_accepted, packet_call_refused, clock_call_accepted, clock_call_refused}

-- LATE EVENTS: one for each watch of the board, the fixed ones and the listed ones
pub late_of_most : (p t : ℕ) (c : Core) → length (late_of p t c) ≤ fixed_count + c.count
unfolding late_of
late_of_most p t c =
    let tables = table_rows fixed_tables c.since in
    let entries = entry_rows (listed c) in
    omega (
      arith,
      rows_most 1 p t (board_of c) (few_both 1 tables entries (fixed_rows_few c.since) (entries_few (listed c))),
      length-append tables entries,
      tables_within fixed_tables c.since,
      entries_length (listed c),
      length-take c.count c.entries,
    )

-- THE PAPER'S SENTENCE ("n is never above 87"): 5 + 16 late, one of continuity and 61 of sections are 83
pub most_events_lem : (s : State) (t : ℕ) (p counters m : List ℕ) (capacity : ℕ) → length (packet_call s t p counters m capacity).events ≤ 83
most_events_lem s t p counters m capacity = go (eqb (packet_refusal s t p counters m capacity) 0) refl
  where
    go : (accepted : Bool) → eqb (packet_refusal s t p counters m capacity) 0 ≡ accepted → length (packet_call s t p counters m capacity).events ≤ 83
    go true e =
        let zero = eqb-true (packet_refusal s t p counters m capacity) 0 e in
        let given = packet_accepted s t p counters m capacity zero in
        rw (packet_call_accepted s t p counters m capacity zero)
        (omega (
          arith,
          length-append (late_of s.latest t s.core) (stepped s t p counters m).events,
          late_of_most s.latest t s.core,
          (sound_parts s m given.sound).count,
          (packet_own t p counters (held_of s m)).few given.packet,
        ))
    go false e = rw (packet_call_refused s t p counters m capacity (eqb-false (packet_refusal s t p counters m capacity) 0 e)) (omega arith)

pub most_events_paper : (s : State) (t : ℕ) (p counters m : List ℕ) (capacity : ℕ) → (answer_of (packet_call s t p counters m capacity)).n ≤ most_events
most_events_paper s t p counters m capacity = omega (arith, most_events_lem s t p counters m capacity)

pub most_events_clock : (s : State) (t : ℕ) (m : List ℕ) (capacity : ℕ) → length (clock_call s t m capacity).events ≤ 21
most_events_clock s t m capacity = go (eqb (clock_refusal s t m capacity) 0) refl
  where
    go : (accepted : Bool) → eqb (clock_refusal s t m capacity) 0 ≡ accepted → length (clock_call s t m capacity).events ≤ 21
    go true e =
        let zero = eqb-true (clock_refusal s t m capacity) 0 e in
        rw (clock_call_accepted s t m capacity zero)
        (omega (arith, late_of_most s.latest t s.core, (sound_parts s m (clock_accepted s t m capacity zero).sound).count))
    go false e = rw (clock_call_refused s t m capacity (eqb-false (clock_refusal s t m capacity) 0 e)) (omega arith)
