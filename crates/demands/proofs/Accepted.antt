-- What an accepted call of a log leaves for the one after it. Assumes nothing.
use mathlib.Core.Path.{◌≡◌, refl, sym, ap, ◌∙◌}
use mathlib.Core.Bool.{true, cond}
use mathlib.Core.List.{List, []}
use Prim.Native.Nat.{ℕ, ◌≤◌}
use borrow.Author.Tests.{eq-eqb}
use lib.ListN.{replicate}
use Rattle.lateness.specs.Logs.{Call, clock, packet, time_of}
use Rattle.calls.specs.Cores.{listed, opened_state}
use Rattle.calls.specs.Sound.{state_sound, entries_sound}
use Rattle.calls.specs.Calls.{Result, table_size, open_refusal, accepted_packet, accepted_clock}
use Rattle.calls.proofs.Accepted.{clock_accepted, packet_accepted, packet_call_accepted, clock_call_accepted, packet_number, clock_number, sound_parts, entries_whole}
use Rattle.demands.specs.Runs.{Given, call_given, Lent, own, other, Asked, lending, call_of, after_call, IsAccepted, TakesOwn, opening}

-- AN ACCEPTED CALL, as its definition says
abbrev pub accepted_of : Given → Call (List ℕ) → Result
accepted_of g (clock t) = accepted_clock g.state t [] g.memory
accepted_of g (packet t p) = accepted_packet g.state t p g.counters g.memory

abbrev table_of_call : Given → Call (List ℕ) → List ℕ
table_of_call g (clock t) = g.counters
table_of_call g (packet t p) = (accepted_of g (packet t p)).counters

abbrev pub accepted_after : Given → Call (List ℕ) → Given
accepted_after g c = record { state = (accepted_of g c).state; counters = table_of_call g c; memory = (accepted_of g c).memory }

module _ (capacity : ℕ) (g : Given) where
  pub call_accepted : (c : Call (List ℕ)) → (call_given capacity g c).refusal ≡ 0 → call_given capacity g c ≡ accepted_of g c
  call_accepted (clock t) e =
      clock_call_accepted g.state t g.memory capacity (sym (clock_number g.state t g.memory capacity) ∙ e)
  call_accepted (packet t p) e =
      packet_call_accepted g.state t p g.counters g.memory capacity
      (sym (packet_number g.state t p g.counters g.memory capacity) ∙ e)

  -- it was given a sound state, and its time is not below the latest
  sound_accepted : (c : Call (List ℕ)) → (call_given capacity g c).refusal ≡ 0 → state_sound g.state g.memory ≡ true
  sound_accepted (clock t) e = (clock_accepted g.state t g.memory capacity (sym (clock_number g.state t g.memory capacity) ∙ e)).sound
  sound_accepted (packet t p) e =
      (packet_accepted g.state t p g.counters g.memory capacity
      (sym (packet_number g.state t p g.counters g.memory capacity) ∙ e)).sound

  order_given : (c : Call (List ℕ)) → (call_given capacity g c).refusal ≡ 0 → g.state.latest ≤ time_of c
  order_given (clock t) e = (clock_accepted g.state t g.memory capacity (sym (clock_number g.state t g.memory capacity) ∙ e)).order
  order_given (packet t p) e =
      (packet_accepted g.state t p g.counters g.memory capacity
      (sym (packet_number g.state t p g.counters g.memory capacity) ∙ e)).order

-- AN ACCEPTED CALL OF A LOG, whatever it is lent
pub entries_accepted : (g : Given) (a : Asked) → IsAccepted g a → entries_sound (listed g.state.core) ≡ true
entries_accepted g a e =
    entries_whole (listed g.state.core)
    (sound_parts g.state g.memory (sound_accepted a.capacity (lending g a.table) a.call e)).entries

pub order_accepted : (g : Given) (a : Asked) → IsAccepted g a → g.state.latest ≤ time_of a.call
order_accepted g a e = order_given a.capacity (lending g a.table) a.call e

-- and one that touches no other counter table than the log's own
abbrev pub AcceptedOwn : Given → Asked → Type 0
AcceptedOwn g a = IsAccepted g a × TakesOwn a.call a.table

pub call_own : (g : Given) (a : Asked) → TakesOwn a.call a.table → call_of g a ≡ call_given a.capacity g a.call
call_own g a = go a.call a.table
  where
    go : (c : Call (List ℕ)) (l : Lent) → TakesOwn c l → call_given a.capacity (lending g l) c ≡ call_given a.capacity g c
    go (clock t) l h = refl
    go (packet t p) own h = refl
    go (packet t p) (other foreign) h = absurd h

pub after_accepted : (g : Given) (a : Asked) → AcceptedOwn g a → after_call g a ≡ accepted_after g a.call
after_accepted g a h = go a.call a.table h.0 h.1
  where
    asked : Call (List ℕ) → Lent → Asked
    asked c l = record { capacity = a.capacity; table = l; call = c }

    clocked : (t : ℕ) → (call_given a.capacity g (clock t)).refusal ≡ 0
        → record { state = (call_given a.capacity g (clock t)).state; counters = g.counters; memory = (call_given a.capacity g (clock t)).memory }
        ≡ accepted_after g (clock t)
    clocked t e =
        ap (λ (x : Result). record { state = x.state; counters = g.counters; memory = x.memory }) (call_accepted a.capacity g (clock t) e)

    go : (c : Call (List ℕ)) (l : Lent) → (call_given a.capacity (lending g l) c).refusal ≡ 0 → TakesOwn c l → after_call g (asked c l) ≡ accepted_after g c
    go (clock t) own e h = clocked t e
    go (clock t) (other foreign) e h = clocked t e
    go (packet t p) own e h =
        ap (λ (x : Result). record { state = x.state; counters = x.counters; memory = x.memory }) (call_accepted a.capacity g (packet t p) e)
    go (packet t p) (other foreign) e h = absurd h

-- AN ACCEPTED OPENING
abbrev pub opened_given : ℕ → List ℕ → Given
opened_given t m = record { state = opened_state t; counters = replicate table_size 0; memory = m }

pub opening_accepted : (t : ℕ) (counters m : List ℕ) → open_refusal t counters ≡ 0 → opening t counters m ≡ opened_given t m
opening_accepted t counters m e =
    ap (λ b. record { state = cond b (opened_state t) (opened_state 0); counters = cond b (replicate table_size 0) counters; memory = m })
    (eq-eqb (open_refusal t counters) 0 e)
