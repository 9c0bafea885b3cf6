-- Demand 2: each number is given exactly when its condition holds and no lower one's does, and an accepted call's events are those of the
-- paper in its order. That reading a written test data section gives its fields, and writing those of one that was read its bytes, are the
-- laws `read_written` and `Written-Read` of the crate testdata. Assumes nothing.
use mathlib.Core.Path.{◌≡◌, refl, sym, ap, ◌∙◌}
use mathlib.Core.Bool.{Bool, true, false, cond, ◌&&◌}
use mathlib.Core.Logic.{◌↔◌, ◌⊎◌, inl, inr}
use mathlib.Core.List.{List, ◌++◌, append-nil}
use Prim.Native.Nat.{ℕ, ◌≤◌}
use native.Mathlib.Omega.{arith}
use lib.Dec.{ltb, eqb}
use lib.ListN.{length, get_or}
use borrow.Author.Tests.{ltb-true, ltb-false, leb-true, leb-false, eqb-true, eqb-false}
use Rattle.lists.proofs.Tests.{and_left, and_right}
use Rattle.lateness.specs.Logs.{Call, clock, packet, time_of}
use Rattle.severity.specs.Severity as severity
use Rattle.events.specs.Capacity.{least_capacity}
use Rattle.watches.specs.Tables.{latest_time}
use Rattle.header.specs.Header.{packet_size, pid_of}
use Rattle.calls.specs.declared.State.{State}
use Rattle.calls.specs.Sound.{time_sound, state_sound, byte_sound}
use Rattle.calls.specs.Calls.{Result, table_size, packet_wrong, table_wrong, capacity_wrong, time_wrong, state_wrong, order_wrong, open_refusal, packet_refusal, clock_refusal, answer_of}
use Rattle.calls.specs.Cores.{late_of}
use Rattle.demands.specs.Runs.{Given, call_given}
use Rattle.demands.specs.Conditions.{PacketWrong, TableWrong, ListShort, TimeAbove, StateWrong, ByteWrong, OrderWrong, Rung, Accepted, OpenNumber, PacketNumber, ClockNumber, SeverityNumber, own_events}
use Rattle.demands.proofs.StateWrong.{state_fails, state_holds, byte_fails, byte_holds}
use Rattle.demands.proofs.Accepted.{accepted_of, call_accepted}

-- A LADDER says what its rungs say
abbrev Says : ℕ → (ℕ → Type 0) → Type 0
Says x N = (n : ℕ) → (x ≡ n) ↔ N n

says_none : Says 0 Accepted
says_none n = (λ e. sym e, λ e. sym e)

module _ (C : Type 0) (N : ℕ → Type 0) (k : ℕ) where
  rung_holds : (n : ℕ) → C → Rung k C N n → n ≡ k
  rung_holds n c (inl x) = x.1
  rung_holds n c (inr x) = absurd (x.0 c)

  rung_fails : (n : ℕ) → (C → ⊥) → Rung k C N n → N n
  rung_fails n f (inl x) = absurd (f x.0)
  rung_fails n f (inr x) = x.1

  says_here : C → Says k (Rung k C N)
  says_here c n = (λ e. inl (c, sym e), λ x. sym (rung_holds n c x))

  says_next : (next : ℕ) → (C → ⊥) → Says next N → Says next (Rung k C N)
  says_next next f rest n = (λ e. inr (f, (rest n).0 e), λ x. (rest n).1 (rung_fails n f x))

  -- a rung whose test is of the condition, and one whose test is of the contrary
  says_if : (b : Bool) (next : ℕ) → (b ≡ true → C) → (b ≡ false → C → ⊥) → Says next N → Says (cond b k next) (Rung k C N)
  says_if true next holds fails rest = says_here (holds refl)
  says_if false next holds fails rest = says_next next (fails refl) rest

  says_unless : (b : Bool) (next : ℕ) → (b ≡ true → C → ⊥) → (b ≡ false → C) → Says next N → Says (cond b next k) (Rung k C N)
  says_unless true next holds fails rest = says_next next (holds refl) rest
  says_unless false next holds fails rest = says_here (fails refl)

-- THE RUNGS, each with its test
module _ {N : ℕ → Type 0} (next : ℕ) (rest : Says next N) where
  says_packet : (p : List ℕ) → Says (packet_wrong p next) (Rung 1 (PacketWrong p) N)
  says_packet p = says_unless (PacketWrong p) N 1 (eqb (length p) packet_size) next (λ e f. f (eqb-true (length p) packet_size e)) (eqb-false (length p) packet_size) rest

  says_table : (counters : List ℕ) → Says (table_wrong counters next) (Rung 2 (TableWrong counters) N)
  says_table counters =
      says_unless (TableWrong counters) N 2 (eqb (length counters) table_size) next (λ e f. f (eqb-true (length counters) table_size e)) (eqb-false (length counters) table_size) rest

  says_capacity : (capacity : ℕ) → Says (capacity_wrong capacity next) (Rung 3 (ListShort capacity) N)
  says_capacity capacity = says_if (ListShort capacity) N 3 (ltb capacity least_capacity) next (ltb-true capacity least_capacity) (λ e h. omega (arith, ltb-false capacity least_capacity e)) rest

  says_time : (t : ℕ) → Says (time_wrong t next) (Rung 4 (TimeAbove t) N)
  says_time t = says_unless (TimeAbove t) N 4 (time_sound t) next (λ e h. omega (arith, leb-true t latest_time e)) (leb-false t latest_time) rest

  says_state : (s : State) (m : List ℕ) → Says (state_wrong (state_sound s m) next) (Rung 5 (StateWrong s m) N)
  says_state s m = says_unless (StateWrong s m) N 5 (state_sound s m) next (state_holds s m) (state_fails s m) rest

  says_byte : (s : State) (p counters m : List ℕ)
      → Says (state_wrong (state_sound s m && byte_sound counters p) next) (Rung 5 (StateWrong s m ⊎ ByteWrong (get_or counters (pid_of p) 0)) N)
  says_byte s p counters m = says_unless (StateWrong s m ⊎ ByteWrong (get_or counters (pid_of p) 0)) N 5 (state_sound s m && byte_sound counters p) next holds (fails (state_sound s m) refl) rest
    where
      b : ℕ
      b = get_or counters (pid_of p) 0

      holds : state_sound s m && byte_sound counters p ≡ true → StateWrong s m ⊎ ByteWrong b → ⊥
      holds e (inl w) = state_holds s m (and_left (state_sound s m) (byte_sound counters p) e) w
      holds e (inr w) = byte_holds b (and_right (state_sound s m) (byte_sound counters p) e) w

      fails : (a : Bool) → state_sound s m ≡ a → a && byte_sound counters p ≡ false → StateWrong s m ⊎ ByteWrong b
      fails true q e = inr (byte_fails b e)
      fails false q e = inl (state_fails s m q)

  says_order : (s : State) (t : ℕ) → Says (order_wrong s t next) (Rung 6 (OrderWrong s t) N)
  says_order s t = says_if (OrderWrong s t) N 6 (ltb t s.latest) next (ltb-true t s.latest) (λ e h. omega (arith, ltb-false t s.latest e)) rest

-- DEMAND 2: the numbers
pub demand_2_opening : (t : ℕ) (counters : List ℕ) (n : ℕ) → (open_refusal t counters ≡ n) ↔ OpenNumber t counters n
unfolding open_refusal
demand_2_opening t counters = says_table (time_wrong t 0) (says_time 0 says_none t) counters

pub demand_2_clock : (s : State) (t : ℕ) (m : List ℕ) (capacity n : ℕ) → (clock_refusal s t m capacity ≡ n) ↔ ClockNumber s t m capacity n
unfolding clock_refusal
demand_2_clock s t m capacity =
    let six = says_order 0 says_none s t in
    let five = says_state (order_wrong s t 0) six s m in
    let four = says_time (state_wrong (state_sound s m) (order_wrong s t 0)) five t in
    says_capacity (time_wrong t (state_wrong (state_sound s m) (order_wrong s t 0))) four capacity

pub demand_2_packet : (s : State) (t : ℕ) (p counters m : List ℕ) (capacity n : ℕ)
    → (packet_refusal s t p counters m capacity ≡ n) ↔ PacketNumber s t p counters m capacity n
unfolding packet_refusal
demand_2_packet s t p counters m capacity =
    let x5 = state_wrong (state_sound s m && byte_sound counters p) (order_wrong s t 0) in
    let six = says_order 0 says_none s t in
    let five = says_byte (order_wrong s t 0) six s p counters m in
    let four = says_time x5 five t in
    let three = says_capacity (time_wrong t x5) four capacity in
    let two = says_table (capacity_wrong capacity (time_wrong t x5)) three counters in
    says_packet (table_wrong counters (capacity_wrong capacity (time_wrong t x5))) two p

pub demand_2_severity : (kind gap n : ℕ) → ((severity.severity_of kind gap).refusal ≡ n) ↔ SeverityNumber kind n
unfolding severity.severity_of
demand_2_severity kind gap = go (ltb kind (length severity.table)) refl
  where
    go : (b : Bool) → ltb kind (length severity.table) ≡ b
        → Says (cond b (severity.answer_for (severity.set_for (severity.row_for kind) gap)) severity.refused).refusal (SeverityNumber kind)
    go true e = says_next (length severity.table ≤ kind) Accepted 7 0 (λ h. omega (arith, ltb-true kind (length severity.table) e)) says_none
    go false e = says_here (length severity.table ≤ kind) Accepted 7 (ltb-false kind (length severity.table) e)

-- a call outside the table is accepted
pub demand_2_accepts_opening : (t : ℕ) (counters : List ℕ) → (TableWrong counters → ⊥) → (TimeAbove t → ⊥) → open_refusal t counters ≡ 0
demand_2_accepts_opening t counters two four = (demand_2_opening t counters 0).1 (inr (two, inr (four, refl)))

pub demand_2_accepts_clock : (s : State) (t : ℕ) (m : List ℕ) (capacity : ℕ)
    → (ListShort capacity → ⊥) → (TimeAbove t → ⊥) → (StateWrong s m → ⊥) → (OrderWrong s t → ⊥) → clock_refusal s t m capacity ≡ 0
demand_2_accepts_clock s t m capacity three four five six =
    (demand_2_clock s t m capacity 0).1 (inr (three, inr (four, inr (five, inr (six, refl)))))

pub demand_2_accepts_packet : (s : State) (t : ℕ) (p counters m : List ℕ) (capacity : ℕ)
    → (PacketWrong p → ⊥) → (TableWrong counters → ⊥) → (ListShort capacity → ⊥) → (TimeAbove t → ⊥)
    → (StateWrong s m ⊎ ByteWrong (get_or counters (pid_of p) 0) → ⊥) → (OrderWrong s t → ⊥) → packet_refusal s t p counters m capacity ≡ 0
demand_2_accepts_packet s t p counters m capacity one two three four five six =
    (demand_2_packet s t p counters m capacity 0).1 (inr (one, inr (two, inr (three, inr (four, inr (five, inr (six, refl)))))))

-- DEMAND 2: the events of an accepted call are the late ones, then those of steps 1 to 5; n is their number
pub demand_2_events : (capacity : ℕ) (g : Given) (c : Call (List ℕ)) → (call_given capacity g c).refusal ≡ 0
    → ((call_given capacity g c).events ≡ late_of g.state.latest (time_of c) g.state.core ++ own_events g c)
    × ((answer_of (call_given capacity g c)).n ≡ length (call_given capacity g c).events)
demand_2_events capacity g c e = (ap (λ (x : Result). x.events) (call_accepted capacity g c e) ∙ own c, refl)
  where
    own : (d : Call (List ℕ)) → (accepted_of g d).events ≡ late_of g.state.latest (time_of d) g.state.core ++ own_events g d
    own (clock t) = sym (append-nil (late_of g.state.latest t g.state.core))
    own (packet t p) = refl
