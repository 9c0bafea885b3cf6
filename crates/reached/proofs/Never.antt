-- Number 5 is never given for a state and table that came from opening through these calls; and a call on them is accepted where its own
-- arguments give no ground to refuse it. Assumes nothing.
use mathlib.Core.Path.{◌≡◌, refl}
use mathlib.Core.Bool.{Bool, true, false, cond}
use mathlib.Core.List.{List}
use Prim.Native.Nat.{ℕ, ◌≤◌}
use native.Mathlib.Omega.{arith}
use lib.Dec.{ltb, eqb}
use lib.ListN.{length, length-replicate}
use borrow.Author.Tests.{eq-eqb, eqb-true, eqb-false}
use Rattle.events.specs.Capacity.{least_capacity}
use Rattle.watches.specs.Tables.{latest_time}
use Rattle.header.specs.Header.{packet_size, pid_of}
use Rattle.continuity.specs.Continuity.{known_byte}
use Rattle.calls.specs.declared.State.{State}
use Rattle.calls.specs.Sound.{time_sound, state_sound}
use Rattle.calls.specs.Calls.{table_size, open_refusal, open_state, open_table, packet_refusal, clock_refusal, held_of, packet_call, clock_call}
use Rattle.calls.proofs.Accepted.{entries_parts, sound_whole, open_accepted, packet_accepted, accepted_packet_lem, clock_accepted, accepted_clock_lem, packet_call_accepted, packet_call_refused, clock_call_accepted, clock_call_refused}
use Rattle.calls.specs.Cores.{opened_state}
use Rattle.reached.specs.Reached.{Bytes, Reached, opening, packet, clock}
use Rattle.reached.proofs.Places.{all_replicate}
use Rattle.reached.proofs.Kept.{Kept, Known, opened_kept, packet_kept}

-- WHAT IS REACHED is kept
pub record Invariant (s : State) (m counters : List ℕ) : Type 0 where
  pub latest : s.latest ≤ latest_time
  pub kept : Kept (held_of s m)
  pub known : Known counters

opening_invariant : (t : ℕ) (counters m : List ℕ) → open_refusal t counters ≡ 0 → Kept (held_of (opened_state t) m) → t ≤ latest_time
    → Invariant (open_state t counters) m (open_table t counters)
opening_invariant t counters m e k h =
    rw (eq-eqb (open_refusal t counters) 0 e) (record { latest = h; kept = k; known = record { size = length-replicate {A = ℕ} table_size 0; bytes = all_replicate (λ x. known_byte x ≡ true) table_size 0 refl refl } })

module _ (s : State) (m counters : List ℕ) (t : ℕ) (i : Invariant s m counters) where
  packet_invariant : (p : List ℕ) (capacity : ℕ) → Bytes p
      → Invariant (packet_call s t p counters m capacity).state (packet_call s t p counters m capacity).memory (packet_call s t p counters m capacity).counters
  packet_invariant p capacity b = go (eqb (packet_refusal s t p counters m capacity) 0) refl
    where
      go : (accepted : Bool) → eqb (packet_refusal s t p counters m capacity) 0 ≡ accepted
          → Invariant (packet_call s t p counters m capacity).state (packet_call s t p counters m capacity).memory (packet_call s t p counters m capacity).counters
      go true e =
          let zero = eqb-true (packet_refusal s t p counters m capacity) 0 e in
          let time = (packet_accepted s t p counters m capacity zero).time in
          let x = packet_kept t time p b counters (held_of s m) i.kept i.known in
          rw (packet_call_accepted s t p counters m capacity zero) (record { latest = time; kept = x.0; known = x.1 })
      go false e = rw (packet_call_refused s t p counters m capacity (eqb-false (packet_refusal s t p counters m capacity) 0 e)) i

  clock_invariant : (capacity : ℕ) → Invariant (clock_call s t m capacity).state (clock_call s t m capacity).memory counters
  clock_invariant capacity = go (eqb (clock_refusal s t m capacity) 0) refl
    where
      go : (accepted : Bool) → eqb (clock_refusal s t m capacity) 0 ≡ accepted → Invariant (clock_call s t m capacity).state (clock_call s t m capacity).memory counters
      go true e =
          let zero = eqb-true (clock_refusal s t m capacity) 0 e in
          rw (clock_call_accepted s t m capacity zero) (record { latest = (clock_accepted s t m capacity zero).time; kept = i.kept; known = i.known })
      go false e = rw (clock_call_refused s t m capacity (eqb-false (clock_refusal s t m capacity) 0 e)) i

pub reached_invariant : (s : State) (m counters : List ℕ) → Reached s m counters → Invariant s m counters
reached_invariant s m counters (opening t table bytes e l b) =
    let time = (open_accepted t table e).time in
    opening_invariant t table bytes e (opened_kept t bytes time l b) time
reached_invariant s m counters (packet s₀ m₀ c₀ t p capacity r b) = packet_invariant s₀ m₀ c₀ t (reached_invariant s₀ m₀ c₀ r) p capacity b
reached_invariant s m counters (clock s₀ m₀ c₀ t capacity r) = clock_invariant s₀ m₀ c₀ t (reached_invariant s₀ m₀ c₀ r) capacity

-- and so the state is sound
pub reached_sound : (s : State) (m counters : List ℕ) → Reached s m counters → state_sound s m ≡ true
reached_sound s m counters r =
    let i = reached_invariant s m counters r in
    let k = i.kept in
    sound_whole s m (record { latest = i.latest; since = k.since; count = k.count; entries = entries_parts _ k.entries; run = k.run; rooms = k.rooms })

-- LADDERS without a ground for number 5
abbrev last_rungs : Bool → Bool → ℕ
last_rungs time early = cond time (cond true (cond early 6 0) 5) 4

abbrev clock_rungs : Bool → Bool → Bool → ℕ
clock_rungs capacity time early = cond capacity 3 (last_rungs time early)

abbrev packet_rungs : Bool → Bool → Bool → Bool → Bool → ℕ
packet_rungs size table capacity time early = cond size (cond table (clock_rungs capacity time early) 2) 1

clock_not_five : (capacity time early : Bool) → clock_rungs capacity time early ≡ 5 → ⊥
clock_not_five true time early e = omega arith
clock_not_five false true true e = omega arith
clock_not_five false true false e = omega arith
clock_not_five false false early e = omega arith

packet_not_five : (size table capacity time early : Bool) → packet_rungs size table capacity time early ≡ 5 → ⊥
packet_not_five true true capacity time early e = clock_not_five capacity time early e
packet_not_five true false capacity time early e = omega arith
packet_not_five false table capacity time early e = omega arith

-- THE PAPER'S SENTENCE
module _ (s : State) (m counters : List ℕ) (r : Reached s m counters) where
  pub never_five_packet : (t : ℕ) (p : List ℕ) (capacity : ℕ) → packet_refusal s t p counters m capacity ≡ 5 → ⊥
  unfolding packet_refusal
  never_five_packet t p capacity e =
      let byte = (reached_invariant s m counters r).known.bytes (pid_of p) in
      packet_not_five (eqb (length p) packet_size) (eqb (length counters) table_size) (ltb capacity least_capacity) (time_sound t) (ltb t s.latest)
      (rw (reached_sound s m counters r, byte) at e)

  pub never_five_clock : (t capacity : ℕ) → clock_refusal s t m capacity ≡ 5 → ⊥
  unfolding clock_refusal
  never_five_clock t capacity e =
      clock_not_five (ltb capacity least_capacity) (time_sound t) (ltb t s.latest) (rw (reached_sound s m counters r) at e)

  -- AND SO a right call is accepted
  pub reached_accepts_packet : (t : ℕ) (p : List ℕ) (capacity : ℕ) → length p ≡ packet_size → least_capacity ≤ capacity → t ≤ latest_time → s.latest ≤ t
      → packet_refusal s t p counters m capacity ≡ 0
  reached_accepts_packet t p capacity size enough time order =
      let known = (reached_invariant s m counters r).known in
      accepted_packet_lem s t p counters m capacity
      (record {
        packet = size;
        table = known.size;
        capacity = enough;
        time = time;
        sound = reached_sound s m counters r;
        byte = known.bytes (pid_of p);
        order = order;
      })

  pub reached_accepts_clock : (t capacity : ℕ) → least_capacity ≤ capacity → t ≤ latest_time → s.latest ≤ t → clock_refusal s t m capacity ≡ 0
  reached_accepts_clock t capacity enough time order =
      accepted_clock_lem s t m capacity (record { capacity = enough; time = time; sound = reached_sound s m counters r; order = order })
