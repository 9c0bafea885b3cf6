-- Calls of a host join: the state that the arrays hold after a call is the state of its answer, and so the next call is given what this one left.
-- Assumes nothing.
use mathlib.Core.Path.{◌≡◌, refl, sym, ap}
use mathlib.Core.Bool.{Bool, true, false, cond}
use mathlib.Core.List.{List}
use Prim.Native.Nat.{ℕ}
use lib.Dec.{eqb}
use borrow.Author.Tests.{eqb-false}
use Rattle.calls.specs.declared.Answer.{Answer}
use Rattle.calls.specs.declared.State.{State}
use Rattle.calls.specs.Cores.{opened_state}
use Rattle.calls.specs.Calls.{Result, open_refusal, packet_refusal, clock_refusal, open_answer, packet_call, clock_call, answer_of}
use Rattle.calls.proofs.Accepted.{packet_call_accepted, packet_call_refused, clock_call_accepted, clock_call_refused}
use Rattle.arrays.specs.Lent.{times_of, words_of, state_in}
use Rattle.arrays.proofs.Back.{Shaped, state_back}
use Rattle.arrays.proofs.Shapes.{zero_or, packet_shaped, clock_shaped, opened_shaped}
use Rattle.arrays.specs.Replies.{times_after, words_after}

-- A REFUSED CALL hands back the state it was given
module _ (s : State) (t : ℕ) where
  packet_same : (p c m : List ℕ) (capacity : ℕ) → ((packet_call s t p c m capacity).refusal ≡ 0 → ⊥) → (packet_call s t p c m capacity).state ≡ s
  packet_same p c m capacity refused =
      zero_or (packet_refusal s t p c m capacity) _
      (λ e. absurd (refused (ap (λ (x : Result). x.refusal) (packet_call_accepted s t p c m capacity e))))
      (λ e. ap (λ (x : Result). x.state) (packet_call_refused s t p c m capacity e))

  clock_same : (m : List ℕ) (capacity : ℕ) → ((clock_call s t m capacity).refusal ≡ 0 → ⊥) → (clock_call s t m capacity).state ≡ s
  clock_same m capacity refused =
      zero_or (clock_refusal s t m capacity) _
      (λ e. absurd (refused (ap (λ (x : Result). x.refusal) (clock_call_accepted s t m capacity e))))
      (λ e. ap (λ (x : Result). x.state) (clock_call_refused s t m capacity e))

joins : (a : Answer) (times words : List ℕ) → Shaped a.state → ((a.refusal ≡ 0 → ⊥) → a.state ≡ state_in times words)
    → state_in (times_after a times) (words_after a words) ≡ a.state
unfolding times_after words_after
joins a times words z same = go (eqb a.refusal 0) refl
  where
    go : (b : Bool) → eqb a.refusal 0 ≡ b → state_in (cond b (times_of a.state) times) (cond b (words_of a.state) words) ≡ a.state
    go true e = state_back a.state z
    go false e = sym (same (eqb-false a.refusal 0 e))

-- AFTER AN OPENING
pub open_joins : (t : ℕ) (c times words : List ℕ) → open_refusal t c ≡ 0
    → state_in (times_after (open_answer t c) times) (words_after (open_answer t c) words) ≡ opened_state t
open_joins t c times words e =
    let a : open_answer t c ≡ record { refusal = 0; n = 0; state = opened_state t } = rw e in
    rw a (joins (record { refusal = 0; n = 0; state = opened_state t }) times words (opened_shaped t) (λ refused. absurd (refused refl)))

-- AFTER A CALL on arrays that hold a state of right shape
module _ (times words : List ℕ) (z : Shaped (state_in times words)) where
  abbrev given_state : State
  given_state = state_in times words

  pub packet_joins : (t : ℕ) (p c m : List ℕ) (capacity : ℕ) → let x = packet_call given_state t p c m capacity in
      state_in (times_after (answer_of x) times) (words_after (answer_of x) words) ≡ x.state
  packet_joins t p c m capacity =
      joins (answer_of (packet_call given_state t p c m capacity)) times words (packet_shaped given_state z t p c m capacity) (packet_same given_state t p c m capacity)

  pub clock_joins : (t : ℕ) (m : List ℕ) (capacity : ℕ) → let x = clock_call given_state t m capacity in
      state_in (times_after (answer_of x) times) (words_after (answer_of x) words) ≡ x.state
  clock_joins t m capacity =
      joins (answer_of (clock_call given_state t m capacity)) times words (clock_shaped given_state z t m capacity) (clock_same given_state t m capacity)
