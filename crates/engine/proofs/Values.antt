-- The calls with the state by value: what is answered where the call is refused, where it is quiet, and where it was made on the arrays that the state was laid
-- into. Assumes nothing.
use mathlib.Core.Path.{◌≡◌, refl, sym, ap, ap₂, ◌∙◌}
use mathlib.Core.Bool.{Bool, true, cond}
use mathlib.Core.List.{List}
use Prim.Native.Nat.{ℕ, ◌≤◌}
use native.Mathlib.Omega.{arith}
use lib.ListN.{length, get_or}
use borrow.Author.Tests.{eq-eqb}
use Rattle.header.specs.Header.{pid_of}
use Rattle.sections.specs.Rooms.{room_count}
use Rattle.calls.specs.declared.State.{State}
use Rattle.calls.specs.declared.Answer.{Answer}
use Rattle.calls.specs.Calls.{Result, packet_refusal, clock_refusal, packet_call, clock_call, answer_of}
use Rattle.calls.proofs.Accepted.{packet_call_refused, clock_call_refused, packet_number, clock_number}
use Rattle.arrays.specs.declared.Reply.{Reply}
use Rattle.arrays.specs.Lent.{times_of, words_of, state_in}
use Rattle.arrays.specs.inner.Kept.{Typed}
use Rattle.arrays.specs.Replies.{times_after, words_after}
use Rattle.arrays.proofs.Back.{Shaped, state_back}
use Rattle.arrays.proofs.Shapes.{accepted_shaped, accepted_clock_shaped}
use Rattle.arrays.proofs.Packed.{packed, packed_packet, packed_clock, packet_packed, clock_packed}
use Rattle.std.specs.Prelude.{Err}
use Rattle.checks.specs.declared.Refusal.{Refusal}
use Rattle.checks.specs.Refusals.{refusal_number}
use Rattle.checks.specs.inner.Ladders.{sizes_refusal, Right}
use Rattle.checks.proofs.Ladders.{number_given, sizes_given}
use Rattle.quiet.specs.inner.Quiet.{quiet_call}
use Rattle.quiet.proofs.Calls.{counted_table, quiet_call_lem}
use Rattle.engine.specs.inner.Numbers.{Numbered}
use Rattle.engine.specs.inner.Lent.{PacketLaid, ClockLaid}
use Rattle.engine.specs.inner.Outcomes.{answered}
use Rattle.engine.proofs.Ends.{numbered_none}

-- WHAT IS ANSWERED
abbrev refused : ℕ → State → Answer
refused number s = record { refusal = number; n = 0; state = s }

abbrev accepted : ℕ → State → Answer
accepted n s = record { refusal = 0; n = n; state = s }

-- the state that the arrays hold behind an accepted call
held_after : (a : Answer) (times words timesLeft wordsLeft : List ℕ) → a.refusal ≡ 0 → Shaped a.state → timesLeft ≡ times_after a times → wordsLeft ≡ words_after a words
    → state_in timesLeft wordsLeft ≡ a.state
unfolding times_after words_after
held_after a times words timesLeft wordsLeft e z et ew =
    let yes = eq-eqb a.refusal 0 e in
    ap₂ state_in (et ∙ ap (λ (b : Bool). cond b (times_of a.state) times) yes) (ew ∙ ap (λ (b : Bool). cond b (words_of a.state) words) yes) ∙ state_back a.state z

told_accepted : (a : Answer) (r : Reply) (s : State) → r.n ≡ a.n → a.refusal ≡ 0 → s ≡ a.state → accepted r.n s ≡ a
told_accepted a r s en e es =
    ap (λ (k : ℕ). record { refusal = k; n = r.n; state = s }) (sym e)
    ∙ ap (λ (k : ℕ). record { refusal = a.refusal; n = k; state = s }) en
    ∙ ap (λ (k : State). record { refusal = a.refusal; n = a.n; state = k }) es

-- A PACKET CALL: its answer, the counter table, section memory and the numbers
abbrev pub PacketEnd : State → ℕ → List ℕ → List ℕ → List ℕ → ℕ → Answer → List ℕ → List ℕ → List ℕ → List ℕ → Type 0
PacketEnd s t p counters m capacity a table left before after =
    (a ≡ answer_of (packet_call s t p counters m capacity))
    × (table ≡ (packet_call s t p counters m capacity).counters)
    × (left ≡ (packet_call s t p counters m capacity).memory)
    × Numbered before after (packet_call s t p counters m capacity).events

module _ (s : State) (t : ℕ) (p counters m : List ℕ) (capacity : ℕ) (before : List ℕ) where
  pub packet_refused_at : (number : ℕ) → number ≡ packet_refusal s t p counters m capacity → (number ≡ 0 → ⊥)
      → PacketEnd s t p counters m capacity (refused number s) counters m before before
  packet_refused_at number e wrong =
      rw (packet_call_refused s t p counters m capacity (λ z. wrong (e ∙ z))) (ap (λ (n : ℕ). refused n s) e, refl, refl, numbered_none before)

  pub packet_refused_early_at : (r : Refusal) → refusal_number r ≡ sizes_refusal t p counters capacity → PacketEnd s t p counters m capacity (answered s (Err r)) counters m before before
  packet_refused_early_at r e =
      packet_refused_at (refusal_number r) (e ∙ sym (sizes_given s t p counters m capacity (λ z. number_given r (e ∙ z)))) (number_given r)

  pub packet_quiet_at : Right t p counters capacity → Typed s → (table : List ℕ) → quiet_call s m t p (get_or counters (pid_of p) 0) ≡ true → table ≡ counted_table p counters
      → PacketEnd s t p counters m capacity (accepted 0 (record { latest = t; core = s.core })) table m before before
  packet_quiet_at right z table e counted =
      let five : length s.core.since ≤ 5 = omega (arith, z.gaps) in
      let rooms : length s.core.half ≤ room_count = omega (arith, z.rooms) in
      rw (quiet_call_lem s m t p counters capacity right e five rooms) (refl, counted, refl, numbered_none before)

  -- on the arrays that it was laid into
  module _ (z : Typed s) {r : Reply} {timesLeft wordsLeft table left after : List ℕ}
      (laid : PacketLaid (packet_call (packed s) t p counters m capacity) r (times_of s) timesLeft (words_of s) wordsLeft table left before after) where
    told : r.refusal ≡ packet_refusal (packed s) t p counters m capacity
    told = ap (λ (d : Reply). d.refusal) laid.0 ∙ packet_number (packed s) t p counters m capacity

    number : r.refusal ≡ packet_refusal s t p counters m capacity
    number = told ∙ packed_packet s z t p counters m capacity

    pub loud_refused : (r.refusal ≡ 0 → ⊥) → PacketEnd s t p counters m capacity (refused r.refusal s) table left before after
    loud_refused wrong =
        let same = packet_call_refused (packed s) t p counters m capacity (λ e. wrong (told ∙ e)) in
        let none = rw same at laid.5 in
        rw (packet_call_refused s t p counters m capacity (λ e. wrong (number ∙ e)))
        (ap (λ (n : ℕ). refused n s) number, laid.3 ∙ ap (λ (x : Result). x.counters) same, laid.4 ∙ ap (λ (x : Result). x.memory) same, none)

    pub loud_accepted : r.refusal ≡ 0 → PacketEnd s t p counters m capacity (accepted r.n (state_in timesLeft wordsLeft)) table left before after
    loud_accepted right =
        let zero = sym number ∙ right in
        let l = rw (packet_packed s z t p counters m capacity zero) at laid in
        let x = packet_call s t p counters m capacity in
        let none = packet_number s t p counters m capacity ∙ zero in
        let state = held_after (answer_of x) (times_of s) (words_of s) timesLeft wordsLeft none (accepted_shaped s z t p counters m capacity zero) l.1 l.2 in
        (told_accepted (answer_of x) r (state_in timesLeft wordsLeft) (ap (λ (d : Reply). d.n) l.0) none state, l.3, l.4, l.5)

-- A CLOCK CALL: its answer and the numbers
abbrev pub ClockEnd : State → ℕ → List ℕ → ℕ → Answer → List ℕ → List ℕ → Type 0
ClockEnd s t m capacity a before after = (a ≡ answer_of (clock_call s t m capacity)) × Numbered before after (clock_call s t m capacity).events

module _ (s : State) (t : ℕ) (m : List ℕ) (capacity : ℕ) (before : List ℕ) (z : Typed s) {r : Reply} {timesLeft wordsLeft after : List ℕ}
    (laid : ClockLaid (clock_call (packed s) t m capacity) r (times_of s) timesLeft (words_of s) wordsLeft before after) where
  clock_told : r.refusal ≡ clock_refusal (packed s) t m capacity
  clock_told = ap (λ (d : Reply). d.refusal) laid.0 ∙ clock_number (packed s) t m capacity

  clock_given : r.refusal ≡ clock_refusal s t m capacity
  clock_given = clock_told ∙ packed_clock s z t m capacity

  pub clock_refused_at : (r.refusal ≡ 0 → ⊥) → ClockEnd s t m capacity (refused r.refusal s) before after
  clock_refused_at wrong =
      let none = rw (clock_call_refused (packed s) t m capacity (λ e. wrong (clock_told ∙ e))) at laid.3 in
      rw (clock_call_refused s t m capacity (λ e. wrong (clock_given ∙ e))) (ap (λ (n : ℕ). refused n s) clock_given, none)

  pub clock_accepted_at : r.refusal ≡ 0 → ClockEnd s t m capacity (accepted r.n (state_in timesLeft wordsLeft)) before after
  clock_accepted_at right =
      let zero = sym clock_given ∙ right in
      let l = rw (clock_packed s z t m capacity zero) at laid in
      let x = clock_call s t m capacity in
      let none = clock_number s t m capacity ∙ zero in
      let state = held_after (answer_of x) (times_of s) (words_of s) timesLeft wordsLeft none (accepted_clock_shaped s z t m capacity zero) l.1 l.2 in
      (told_accepted (answer_of x) r (state_in timesLeft wordsLeft) (ap (λ (d : Reply). d.n) l.0) none state, l.3)
