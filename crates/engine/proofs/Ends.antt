-- The ends of a call: what is handed back where it is refused, and where it is accepted. Assumes nothing.
use mathlib.Core.Path.{◌≡◌, refl, sym, ap, ap₂, ◌∙◌}
use mathlib.Core.Bool.{true, ◌&&◌}
use mathlib.Core.List.{List, [], ◌++◌}
use Prim.Native.Nat.{ℕ, ◌+◌, ◌≤◌, ◌<◌}
use native.Mathlib.Omega.{arith}
use lib.Dec.{leb}
use lib.ListN.{length, get_or, set, replicate}
use borrow.Author.Tests.{eq-eqb, ne_eqb}
use Rattle.lists.proofs.Tests.{and_right, cond_either}
use Rattle.lists.proofs.Laying.{laid_none, laid_turn}
use Rattle.events.specs.declared.Event.{Event}
use Rattle.events.specs.Events.{numbers_of, events_laid}
use Rattle.events.specs.Capacity.{record_width}
use Rattle.watches.specs.Tables.{latest_time, fixed_count}
use Rattle.std.specs.Prelude.{Err}
use Rattle.header.specs.declared.Header.{Header}
use Rattle.header.specs.Header.{pid_of, header_of}
use Rattle.header.specs.inner.Reads.{ReadOff}
use Rattle.programmes.specs.Listing.{most_listed}
use Rattle.calls.specs.declared.Core.{Core}
use Rattle.calls.specs.declared.State.{State}
use Rattle.calls.specs.declared.Answer.{Answer}
use Rattle.calls.specs.Cores.{listed, late_of, opened_state}
use Rattle.calls.specs.Sound.{time_sound, times_sound, entries_sound, run_sound, rooms_sound, rest_sound, state_sound}
use Rattle.calls.specs.Steps.{step1}
use Rattle.calls.specs.Calls.{Result, open_refusal, packet_refusal, clock_refusal, open_answer, open_table, packet_call, clock_call}
use Rattle.calls.proofs.Accepted.{Sound, open_accepted, packet_call_accepted, packet_call_refused, clock_call_accepted, clock_call_refused}
use Rattle.arrays.specs.declared.Reply.{Reply}
use Rattle.arrays.specs.Lent.{core_in, state_in, times_of, words_of, latest_at}
use Rattle.arrays.specs.inner.Kept.{Sized}
use Rattle.arrays.specs.Replies.{times_after, words_after}
use Rattle.payloads.specs.inner.Taking.{held}
use Rattle.checks.specs.declared.Refusal.{Refusal}
use Rattle.checks.specs.Refusals.{refusal_number}
use Rattle.checks.specs.inner.Ladders.{sizes_refusal, Right}
use Rattle.checks.proofs.Ladders.{number_given, sizes_given}
use Rattle.steps.specs.inner.Judging.{Done}
use Rattle.quiet.specs.inner.Quiet.{quiet_call, quiet_byte}
use Rattle.quiet.proofs.Calls.{counted_table}
use Rattle.quiet.proofs.Lents.{quiet_done}
use Rattle.engine.specs.inner.Numbers.{AllFit, Numbered}
use Rattle.engine.specs.inner.Lent.{PacketLaid, ClockLaid}
use Rattle.engine.specs.inner.Outcomes.{replied}
use Rattle.engine.proofs.Fits.{all_fit_append, step1_fits}

-- A SOUND STATE, in the forms that judging a packet asks
pub sound_rooms : (s : State) (m : List ℕ) → state_sound s m ≡ true → rooms_sound s.core.half m ≡ true
unfolding state_sound
sound_rooms s m e =
    and_right (run_sound s.core) (rooms_sound s.core.half m)
    (and_right (time_sound s.latest && times_sound s.core.since && leb s.core.count most_listed && entries_sound (listed s.core)) (rest_sound s.core m) e)

pub sound_run : (s : State) (m : List ℕ) → Sound s m → s.core.run ≤ 4
sound_run s m h = omega (arith, h.run, cond_either (λ (n : ℕ). n ≤ 4) s.core.lost 4 1 (omega arith) (omega arith))

-- EVENTS, laid from the first place on
pub numbered_none : (list : List ℕ) → Numbered list list []
numbered_none list = record { laid = sym (laid_none numbers_of record_width list 0); fits = tt; few = omega arith }

-- WHAT IS ANSWERED
abbrev refused : ℕ → State → Answer
refused number s = record { refusal = number; n = 0; state = s }

-- OPENING
abbrev pub OpenEnd : ℕ → List ℕ → Answer → List ℕ → Type 0
OpenEnd t counters a table = (a ≡ open_answer t counters) × (table ≡ open_table t counters)

module _ (t : ℕ) (counters : List ℕ) where
  pub open_refused : (number : ℕ) (s : State) → number ≡ open_refusal t counters → (number ≡ 0 → ⊥) → s ≡ opened_state 0
      → OpenEnd t counters (refused number s) counters
  open_refused number s e wrong es =
      rw (ne_eqb (open_refusal t counters) 0 (λ z. wrong (e ∙ z))) (ap₂ refused e es, refl)

  pub open_done : (s : State) (table : List ℕ) → open_refusal t counters ≡ 0 → s ≡ opened_state t → table ≡ replicate (length counters) 0
      → OpenEnd t counters (refused 0 s) table
  open_done s table e es cleared =
      rw (eq-eqb (open_refusal t counters) 0 e)
      (ap₂ refused (sym e) es, cleared ∙ ap (λ (n : ℕ). replicate n 0) (open_accepted t counters e).table)

-- THE TABLE of a quiet call, by what is read of the packet
pub told_table : (p counters : List ℕ) (h : Header) (b left : ℕ) → ReadOff p counters h b → left ≡ quiet_byte p b → set counters h.pid left ≡ counted_table p counters
unfolding header_of
told_table p counters h b left read e = ap₂ (λ (k n : ℕ). set counters k n) (ap (λ (k : Header). k.pid) read.header) (e ∙ ap (quiet_byte p) read.byte)

-- A PACKET CALL on two arrays
module _ (times words : List ℕ) (t : ℕ) (p counters m : List ℕ) (capacity : ℕ) (before : List ℕ) where
  abbrev called : Result
  called = packet_call (state_in times words) t p counters m capacity

  abbrev told : ℕ → ℕ → Reply
  told number n = record { refusal = number; n = n }

  pub packet_refused : (number : ℕ) → number ≡ packet_refusal (state_in times words) t p counters m capacity → (number ≡ 0 → ⊥)
      → PacketLaid called (told number 0) times times words words counters m before before
  unfolding times_after words_after
  packet_refused number e wrong =
      let refused : packet_refusal (state_in times words) t p counters m capacity ≡ 0 → ⊥ = λ z. wrong (e ∙ z) in
      rw (packet_call_refused (state_in times words) t p counters m capacity refused, ne_eqb (packet_refusal (state_in times words) t p counters m capacity) 0 refused)
      (ap (λ (n : ℕ). told n 0) e, refl, refl, refl, refl, numbered_none before)

  -- by what is read of the packet first
  pub packet_refused_early : (r : Refusal) → refusal_number r ≡ sizes_refusal t p counters capacity → PacketLaid called (replied (Err r)) times times words words counters m before before
  packet_refused_early r e =
      packet_refused (refusal_number r) (e ∙ sym (sizes_given (state_in times words) t p counters m capacity (λ z. number_given r (e ∙ z)))) (number_given r)

  -- a quiet one: nothing but one table byte and the latest time changes
  pub packet_quiet : Sized times words → Right t p counters capacity → (table : List ℕ) → quiet_call (state_in times words) m t p (get_or counters (pid_of p) 0) ≡ true → table ≡ counted_table p counters
      → PacketLaid called (told 0 0) times (set times latest_at t) words words table m before before
  packet_quiet sized right table e counted =
      let d = quiet_done times words sized t p counters m capacity right e in
      (d.0, d.1, d.2, counted ∙ d.3, d.4, rw d.5 (numbered_none before))

  abbrev late : List Event
  late = late_of (get_or times latest_at 0) t (core_in times words)

  pub packet_done : {mid : List ℕ} {i : ℕ} {c : Core} {table left after : List ℕ} {r : ℕ} {timesLeft wordsLeft : List ℕ}
      → packet_refusal (state_in times words) t p counters m capacity ≡ 0 → t ≤ latest_time → pid_of p < 65536
      → i ≡ length late → mid ≡ events_laid before 0 late → i ≤ fixed_count + most_listed → AllFit late
      → Done (step1 t p counters (held (core_in times words) m)) 65 c table left mid i after r
      → timesLeft ≡ times_of (record { latest = t; core = c }) → wordsLeft ≡ words_of (record { latest = t; core = c })
      → PacketLaid called (told 0 r) times timesLeft words wordsLeft table left before after
  unfolding state_in times_after words_after
  packet_done {mid = mid} {i = i} {c = c} {after = after} {r = r} e ht hp ei el few fits done et ew =
      let own = (step1 t p counters (held (core_in times words) m)).events in
      let from : i ≡ 0 + length late = omega (arith, ei) in
      let w = laid_turn numbers_of record_width (λ e. refl) 0 i r before mid after late own from el done.next done.laid in
      let n : r ≡ length (late ++ own) = omega (arith, w.0) in
      rw (packet_call_accepted (state_in times words) t p counters m capacity e) (
        ap (told 0) n,
        et ∙ ap (λ (k : Core). times_of (record { latest = t; core = k })) done.core,
        ew ∙ ap (λ (k : Core). words_of (record { latest = t; core = k })) done.core,
        done.counters,
        done.memory,
        record {
          laid = w.1;
          fits = all_fit_append late own fits (step1_fits t (omega arith) p hp counters (held (core_in times words) m));
          few = omega (arith, w.0, done.few);
        },
      )

-- A CLOCK CALL on two arrays
module _ (times words : List ℕ) (t : ℕ) (m : List ℕ) (capacity : ℕ) (before : List ℕ) where
  abbrev clocked : Result
  clocked = clock_call (state_in times words) t m capacity

  pub clock_refused : (number : ℕ) → number ≡ clock_refusal (state_in times words) t m capacity → (number ≡ 0 → ⊥)
      → ClockLaid clocked (record { refusal = number; n = 0 }) times times words words before before
  unfolding times_after words_after
  clock_refused number e wrong =
      let refused : clock_refusal (state_in times words) t m capacity ≡ 0 → ⊥ = λ z. wrong (e ∙ z) in
      rw (clock_call_refused (state_in times words) t m capacity refused, ne_eqb (clock_refusal (state_in times words) t m capacity) 0 refused)
      (ap (λ (n : ℕ). record { refusal = n; n = 0 }) e, refl, refl, numbered_none before)

  pub clock_done : {after : List ℕ} {i : ℕ} {timesLeft wordsLeft : List ℕ} → clock_refusal (state_in times words) t m capacity ≡ 0
      → i ≡ length (late_of (get_or times latest_at 0) t (core_in times words)) → after ≡ events_laid before 0 (late_of (get_or times latest_at 0) t (core_in times words)) → i ≤ fixed_count + most_listed
      → AllFit (late_of (get_or times latest_at 0) t (core_in times words))
      → timesLeft ≡ times_of (record { latest = t; core = core_in times words }) → wordsLeft ≡ words_of (record { latest = t; core = core_in times words })
      → ClockLaid clocked (record { refusal = 0; n = i }) times timesLeft words wordsLeft before after
  unfolding state_in times_after words_after
  clock_done e ei el few fits et ew =
      rw (clock_call_accepted (state_in times words) t m capacity e)
      (ap (λ (n : ℕ). record { refusal = 0; n = n }) ei, et, ew, record { laid = el; fits = fits; few = omega (arith, ei) })
