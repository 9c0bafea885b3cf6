-- Wrong engines of document 01, "How the promises are judged", each shown not to meet the promise of probe::packet and probe::clock. A row says
-- of all outcomes of its kind that they do not meet it. Assumes nothing.
use mathlib.Core.Path.{◌≡◌, refl, sym, ap, ◌∙◌}
use mathlib.Core.Logic.{◌⊎◌}
use mathlib.Core.List.{List, [], ◌∷◌}
use Prim.Native.Nat.{ℕ, suc}
use native.Mathlib.Omega.{arith}
use lib.ListN.{length, get_or, replicate}
use Rattle.crc.specs.Crc.{crc_step, crc_feed, bits, bits_of, crc_of}
use Rattle.lists.specs.Places.{part}
use Rattle.lateness.specs.Logs.{Call, clock, packet}
use Rattle.events.specs.declared.Event.{Event}
use Rattle.events.specs.Events.{event_at}
use Rattle.events.specs.Capacity.{least_capacity}
use Rattle.watches.specs.Late.{rows_late, table_rows}
use Rattle.header.specs.Header.{pid_of, header_of}
use Rattle.continuity.specs.Continuity.{counted_of}
use Rattle.sections.specs.Section.{stage_of}
use Rattle.sections.specs.Building.{fed, built}
use Rattle.sections.specs.Outcomes.{crc_wrong, whole_outcome}
use Rattle.programmes.specs.Places.{place_of, places_from}
use Rattle.programmes.specs.Listing.{is_number, entry_for, read_on, list_of}
use Rattle.calls.specs.declared.Answer.{Answer}
use Rattle.calls.specs.declared.State.{State}
use Rattle.calls.specs.declared.Core.{Core}
use Rattle.calls.specs.Steps.{absorbed_all, sections_taken, step1}
use Rattle.calls.specs.Sound.{times_sound, number_among, entries_sound, rooms_from, state_sound}
use Rattle.calls.specs.Calls.{open_answer, packet_refusal, clock_refusal, packet_call, clock_call}
use Rattle.calls.specs.Cores.{fixed_room, room_for, late_of}
use Rattle.demands.specs.Runs.{Given, call_given, asking, after_call}
use Rattle.demands.specs.Conditions.{PacketWrong, TableWrong, ListShort, TimeAbove, StateWrong, ByteWrong, OrderWrong}
use Rattle.calls.proofs.Accepted.{packet_number, clock_number}
use Rattle.demands.proofs.Numbers.{demand_2_accepts_opening, demand_2_accepts_clock, demand_2_accepts_packet}
use Rattle.outcomes.specs.Engines.{Outcome, Meets, right_outcome, Refuses, events_in, next, start, records, pat_at, counted_at}
use Rattle.outcomes.proofs.Calls.{right_meets, answered, numbered, counted, listed, listed_third, refusal_events, refusal_state, refusal_n, refusal_counters, refusal_memory}
use Rattle.outcomes.proofs.Beside.{other_byte_kept}

-- THE LOG: a gap that is late, a PAT, and a second gap that is late
abbrev second : Given
second = after_call start (asking least_capacity (clock 13_500_001))

abbrev third : Given
third = after_call second (asking least_capacity (pat_at 13_500_002 []))

record Defined : Type 0 where
  clock_accepted : (call_given least_capacity start (clock 5)).refusal ≡ 0
  packet_accepted : (call_given least_capacity start (counted_at 5)).refusal ≡ 0
  packet_refused : (call_given least_capacity start (packet 5 (replicate 187 0x47))).refusal ≡ 1
  silent : (call_given least_capacity start (clock 13_500_000)).events ≡ []
  late : (call_given least_capacity start (clock 13_500_001)).events ≡ event_at 13_500_000 0x0009 1 0 ∷ []
  packet_late : (call_given least_capacity start (counted_at 13_500_001)).events ≡ event_at 13_500_000 0x0009 1 0 ∷ []
  latest : (call_given least_capacity start (clock 5)).state.latest ≡ 5
  arrived : get_or (call_given least_capacity start (pat_at 10 [])).state.core.since 0 0 ≡ 10
  byte : get_or (call_given least_capacity start (counted_at 5)).counters 0x100 0 ≡ 19
  late_again : (call_given least_capacity third (clock 27_000_003)).events ≡ event_at 27_000_002 0x0009 1 0 ∷ []

defined : Defined
unfolding packet_call clock_call packet_refusal clock_refusal state_sound times_sound entries_sound number_among rooms_from late_of rows_late table_rows room_for fixed_room place_of step1 sections_taken absorbed_all built fed stage_of part whole_outcome crc_wrong crc_of crc_feed crc_step bits bits_of header_of counted_of list_of read_on is_number entry_for places_from
defined =
    record {
      clock_accepted = refl;
      packet_accepted = refl;
      packet_refused = refl;
      silent = refl;
      late = refl;
      packet_late = refl;
      latest = refl;
      arrived = refl;
      byte = refl;
      late_again = refl;
    }

pub record NoWrongEngine : Type 0 where
  -- the promise of every call can be met
  pub right : (g : Given) (c : Call (List ℕ)) (old : List Event) → Meets g c old (right_outcome g c old)
  -- REFUSES ALL: calls outside the table, as demand 2 has them, and two of them
  pub refuses_opening : (t : ℕ) (counters : List ℕ) (r : Answer) → r ≡ open_answer t counters → (TableWrong counters → ⊥) → (TimeAbove t → ⊥)
      → (r.refusal ≡ 0 → ⊥) → ⊥
  pub refuses_clock : (g : Given) (t : ℕ) (old : List Event) (o : Outcome) → Meets g (clock t) old o
      → (ListShort (length old) → ⊥) → (TimeAbove t → ⊥) → (StateWrong g.state g.memory → ⊥) → (OrderWrong g.state t → ⊥) → Refuses o → ⊥
  pub refuses_packet : (g : Given) (t : ℕ) (p : List ℕ) (old : List Event) (o : Outcome) → Meets g (packet t p) old o
      → (PacketWrong p → ⊥) → (TableWrong g.counters → ⊥) → (ListShort (length old) → ⊥) → (TimeAbove t → ⊥)
      → (StateWrong g.state g.memory ⊎ ByteWrong (get_or g.counters (pid_of p) 0) → ⊥) → (OrderWrong g.state t → ⊥) → Refuses o → ⊥
  pub refuses_first_clock : (o : Outcome) → Meets start (clock 5) records o → Refuses o → ⊥
  pub refuses_first_packet : (o : Outcome) → Meets start (counted_at 5) records o → Refuses o → ⊥
  -- A CONSTANT OR EMPTY EVENT LIST
  pub empty_list : (o : Outcome) → Meets start (clock 13_500_001) records o → events_in o ≡ [] → ⊥
  pub empty_list_packet : (o : Outcome) → Meets start (counted_at 13_500_001) records o → events_in o ≡ [] → ⊥
  pub constant_list : (o o' : Outcome) → Meets start (clock 13_500_000) records o → Meets start (clock 13_500_001) records o' → events_in o ≡ events_in o' → ⊥
  -- LEAVES THE STATE AS IT CAME: the latest time, or the gaps
  pub state_as_it_came : (o : Outcome) → Meets start (clock 5) records o → o.answer.state ≡ start.state → ⊥
  pub gaps_as_they_came : (o : Outcome) → Meets start (pat_at 10 []) records o → o.answer.state.core ≡ start.state.core → ⊥
  pub table_as_it_came : (o : Outcome) → Meets start (counted_at 5) records o → o.counters ≡ start.counters → ⊥
  -- JUDGES AT THE FIRST CALL and then only counts: the second gap of a log
  pub judges_once : (o₁ o₂ o₃ : Outcome) → Meets start (clock 13_500_001) records o₁
      → Meets (next start (clock 13_500_001) o₁) (pat_at 13_500_002 []) records o₂
      → Meets (next (next start (clock 13_500_001) o₁) (pat_at 13_500_002 []) o₂) (clock 27_000_003) records o₃
      → events_in o₃ ≡ [] → ⊥
  -- AN INVENTED N
  pub invented_n : (g : Given) (c : Call (List ℕ)) (old : List Event) (o : Outcome) → Meets g c old o
      → (o.answer.n ≡ length (call_given (length old) g c).events → ⊥) → ⊥
  pub invented_n_late : (o : Outcome) → Meets start (clock 13_500_001) records o → (o.answer.n ≡ 1 → ⊥) → ⊥
  -- A REFUSAL THAT WRITES: a packet of 187 bytes is refused
  pub short_packet : (o : Outcome) → Meets start (packet 5 (replicate 187 0x47)) records o → o.answer.refusal ≡ 1
  pub events_on_refusal : (g : Given) (c : Call (List ℕ)) (old : List Event) (o : Outcome) → Meets g c old o → Refuses o → (o.events ≡ old → ⊥) → ⊥
  pub n_on_refusal : (g : Given) (c : Call (List ℕ)) (old : List Event) (o : Outcome) → Meets g c old o → Refuses o → (o.answer.n ≡ 0 → ⊥) → ⊥
  pub state_on_refusal : (g : Given) (c : Call (List ℕ)) (old : List Event) (o : Outcome) → Meets g c old o → Refuses o
      → (o.answer.state ≡ g.state → ⊥) → ⊥
  pub table_on_refusal : (g : Given) (t : ℕ) (p : List ℕ) (old : List Event) (o : Outcome) → Meets g (packet t p) old o → Refuses o
      → (o.counters ≡ g.counters → ⊥) → ⊥
  pub memory_on_refusal : (g : Given) (t : ℕ) (p : List ℕ) (old : List Event) (o : Outcome) → Meets g (packet t p) old o → Refuses o
      → (o.memory ≡ g.memory → ⊥) → ⊥
  -- THE TABLE BYTE OF ANOTHER PID
  pub other_byte : (g : Given) (t : ℕ) (p : List ℕ) (old : List Event) (o : Outcome) (q : ℕ) → Meets g (packet t p) old o → (q ≡ pid_of p → ⊥)
      → (get_or o.counters q 0 ≡ get_or g.counters q 0 → ⊥) → ⊥

-- a number above 0 is not 0, and a list with an event is not empty
above_zero : (x n : ℕ) → x ≡ suc n → x ≡ 0 → ⊥
above_zero x n p q = absurd (omega (arith, p, q))

pub some_not_none : {A : Type 0} (x : A) (l : List A) → l ≡ x ∷ [] → l ≡ [] → ⊥
some_not_none x l p q = absurd (omega (arith, ap length (sym p ∙ q)))

pub no_wrong_engine : NoWrongEngine
no_wrong_engine =
    record {
      right = right_meets;
      refuses_opening = λ t counters r e two four not. not (ap (λ (a : Answer). a.refusal) e ∙ demand_2_accepts_opening t counters two four);
      refuses_clock = λ g t old o m three four five six not.
          not
          (numbered g old o (clock t) m
          ∙ clock_number g.state t g.memory (length old)
          ∙ demand_2_accepts_clock g.state t g.memory (length old) three four five six);
      refuses_packet = λ g t p old o m one two three four five six not.
          not
          (numbered g old o (packet t p) m
          ∙ packet_number g.state t p g.counters g.memory (length old)
          ∙ demand_2_accepts_packet g.state t p g.counters g.memory (length old) one two three four five six);
      refuses_first_clock = λ o m not. not (numbered start records o (clock 5) m ∙ defined.clock_accepted);
      refuses_first_packet = λ o m not. not (numbered start records o (counted_at 5) m ∙ defined.packet_accepted);
      empty_list = λ o m. some_not_none _ (events_in o) (listed start records o (clock 13_500_001) m ∙ defined.late);
      empty_list_packet = λ o m. some_not_none _ (events_in o) (listed start records o (counted_at 13_500_001) m ∙ defined.packet_late);
      constant_list = λ o o' m m' e.
          some_not_none _ (events_in o') (listed start records o' (clock 13_500_001) m' ∙ defined.late)
          (sym e ∙ listed start records o (clock 13_500_000) m ∙ defined.silent);
      state_as_it_came = λ o m e.
          above_zero o.answer.state.latest 4 (ap (λ (a : Answer). a.state.latest) (answered start records o (clock 5) m) ∙ defined.latest)
          (ap (λ (s : State). s.latest) e);
      gaps_as_they_came = λ o m e.
          above_zero (get_or o.answer.state.core.since 0 0) 9
          (ap (λ (a : Answer). get_or a.state.core.since 0 0) (answered start records o (pat_at 10 []) m) ∙ defined.arrived)
          (ap (λ (c : Core). get_or c.since 0 0) e);
      table_as_it_came = λ o m e.
          above_zero (get_or o.counters 0x100 0) 18 (ap (λ l. get_or l 0x100 0) m.1 ∙ defined.byte) (ap (λ l. get_or l 0x100 0) e);
      judges_once = λ o₁ o₂ o₃ m₁ m₂ m₃.
          some_not_none _ (events_in o₃)
          (listed_third start records (clock 13_500_001) (pat_at 13_500_002 []) o₁ o₂ m₁ m₂ (clock 27_000_003) o₃ m₃ ∙ defined.late_again);
      invented_n = λ g c old o m not. not (counted g old o c m);
      invented_n_late = λ o m not. not (counted start records o (clock 13_500_001) m ∙ ap length defined.late);
      short_packet = λ o m. numbered start records o (packet 5 (replicate 187 0x47)) m ∙ defined.packet_refused;
      events_on_refusal = λ g c old o m refuses not. not (refusal_events g old o c m refuses);
      n_on_refusal = λ g c old o m refuses not. not (refusal_n g old o c m refuses);
      state_on_refusal = λ g c old o m refuses not. not (refusal_state g old o c m refuses);
      table_on_refusal = λ g t p old o m refuses not. not (refusal_counters g old o t p m refuses);
      memory_on_refusal = λ g t p old o m refuses not. not (refusal_memory g old o t p m refuses);
      other_byte = λ g t p old o q m other not.
          not (ap (λ l. get_or l q 0) m.1 ∙ other_byte_kept t p g.counters q other g.state g.memory (length old));
    }
