-- A packet call leaves the table bytes of other PIDs as they were. Assumes nothing.
use mathlib.Core.Path.{◌≡◌, refl, ap, ◌∙◌}
use mathlib.Core.Bool.{Bool, cond, ◌||◌}
use mathlib.Core.List.{List}
use Prim.Native.Nat.{ℕ}
use lib.Dec.{eqb}
use lib.ListN.{get_or, set}
use lib.Seq.{get_or-set_other}
use Rattle.lists.proofs.Tests.{cond_either}
use Rattle.header.specs.Header.{right_sync, error_bit, pid_of, scrambled_bits, control_of}
use Rattle.programmes.specs.Listing.{null_pid}
use Rattle.calls.specs.declared.State.{State}
use Rattle.calls.specs.Cores.{Held, room_for, dropped_room}
use Rattle.calls.specs.Sync.{synced_of}
use Rattle.calls.specs.Steps.{AfterStep, counted, step1, step2, step4, step5}
use Rattle.calls.specs.Calls.{Result, held_of, packet_call, packet_refusal}

module _ (t : ℕ) (p counters : List ℕ) (q : ℕ) (other : q ≡ pid_of p → ⊥) where
  -- the byte is as it was
  abbrev Kept : AfterStep → Type 0
  Kept s = get_or s.counters q 0 ≡ get_or counters q 0

  step5_counters : (take : Bool) (after : List ℕ) (h : Held) → (step5 t p take after h).counters ≡ after
  step5_counters take after h =
      cond_either (λ (s : AfterStep). s.counters ≡ after) (scrambled_bits p) _ _ refl
      (cond_either (λ (s : AfterStep). s.counters ≡ after) take _ _ refl refl)

  kept_4 : (h : Held) → Kept (step4 t p counters h)
  kept_4 h =
      ap (λ l. get_or l q 0) (step5_counters (counted p counters).take (set counters (pid_of p) (counted p counters).byte)
      (cond (counted p counters).keep h (dropped_room (room_for h.core (pid_of p)) h)))
      ∙ get_or-set_other counters (pid_of p) q (counted p counters).byte 0 other

  kept_2 : (h : Held) → Kept (step2 t p counters h)
  kept_2 h = cond_either Kept (error_bit p) _ _ refl (cond_either Kept (eqb (pid_of p) null_pid || eqb (control_of p) 0) _ _ refl (kept_4 h))

  kept_1 : (h : Held) → Kept (step1 t p counters h)
  unfolding step1
  kept_1 h =
      cond_either Kept (synced_of (right_sync p) h.core).further _ _
      (kept_2 (record { core = (synced_of (right_sync p) h.core).core; memory = h.memory })) refl

  pub other_byte_kept : (s : State) (m : List ℕ) (capacity : ℕ) → get_or (packet_call s t p counters m capacity).counters q 0 ≡ get_or counters q 0
  unfolding packet_call
  other_byte_kept s m capacity =
      cond_either (λ (x : Result). get_or x.counters q 0 ≡ get_or counters q 0) (eqb (packet_refusal s t p counters m capacity) 0) _ _
      (kept_1 (held_of s m)) refl
