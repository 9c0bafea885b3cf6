-- What a finished section leaves of section memory and of the half-built lengths, whatever its outcome. Assumes nothing.
use mathlib.Core.Path.{◌≡◌, ap, ◌∙◌}
use mathlib.Core.Bool.{Bool, true, false, cond}
use mathlib.Core.List.{List, [], ◌∷◌, map}
use Prim.Native.Nat.{ℕ, ◌≤◌}
use native.Mathlib.Omega.{arith}
use lib.Dec.{eqb}
use lib.ListN.{length, take, length-append, length-take}
use lib.Seq.{length-take-le}
use Rattle.lists.proofs.Tests.{Order, below, from, order}
use Rattle.lists.proofs.Laying.{laid_length}
use Rattle.events.specs.Events.{numbers_of}
use Rattle.events.specs.Capacity.{record_width}
use Rattle.watches.specs.declared.Entry.{Entry}
use Rattle.sections.specs.declared.Outcome.{Outcome}
use Rattle.sections.specs.declared.Outcome.TheVariants.{Unfinished, Good, Fault, Silent}
use Rattle.sections.specs.declared.Stage.{Stage}
use Rattle.sections.specs.Rooms.{memory_size, pat_room, room_of_place}
use Rattle.sections.specs.Building.{Finished}
use Rattle.sections.specs.Outcomes.{is_pmt_room, outcome_of}
use Rattle.sections.specs.inner.Steps.{step_outcome}
use Rattle.programmes.specs.Places.{half_at, every_place, moved_half, moved_halves}
use Rattle.programmes.proofs.Moves.{placed}
use Rattle.calls.specs.declared.Core.{Core}
use Rattle.calls.specs.Steps.{arrival, arrived_table, arrived_programme, new_list, listed_by, relisted, bytes_of, absorbed_by, absorbed_all}
use Rattle.calls.specs.Cores.{Held, listed}
use Rattle.payloads.specs.inner.Taking.{held}
use Rattle.payloads.specs.inner.Parts.{end_acts, Left, Shown, Small, Fit}
use Rattle.programmes.proofs.Moved.{moved_length}

pub record Kept (h : Held) : Type 0 where
  pub whole : length h.memory ≡ memory_size
  pub rooms : 5 ≤ length h.core.half
  pub halves : Small h.core.half

-- a half-built section that stays with its PID is no longer than it was
halves_small : (old new : List Entry) (ns : List ℕ) → 5 ≤ length ns → length old ≤ 16 → Small ns → Small (moved_halves old new ns)
halves_small old new ns enough most small k h = go (order 0 (half_at (moved_halves old new ns) (room_of_place k)))
  where
    go : Order 0 (half_at (moved_halves old new ns) (room_of_place k)) → half_at (moved_halves old new ns) (room_of_place k) ≤ 1024
    go (below some) = (placed old new ns enough most small k h some).fits
    go (from none) = omega arith

module _ (t r pid : ℕ) (c : Core) (m : List ℕ) (most : c.count ≤ 16) (kept : Kept (held c m)) where
  relisted_kept : (x : List ℕ) → Kept (relisted t x (held c m))
  relisted_kept x =
      let old = listed c in
      let new = listed_by (new_list t x c) in
      record {
        whole = moved_length old new c.half m ∙ kept.whole;
        rooms = omega (arith, length-append (take 5 c.half) (map (moved_half old new c.half) every_place), length-take-le 5 c.half kept.rooms);
        halves = halves_small old new c.half kept.rooms (omega (arith, length-take c.count c.entries)) kept.halves;
      }

  pub action_kept : (o : Outcome) (x : List ℕ) → Kept (absorbed_by o (arrival t r pid) x (held c m)).held
  action_kept Unfinished x = kept
  action_kept (Fault f a i) x = kept
  action_kept Silent x = kept
  action_kept (Good n) x = go (eqb r pat_room) (is_pmt_room r)
    where
      go : (pat pmt : Bool)
          → Kept (cond pat (relisted t x (held c m)) (record { core = cond pmt (arrived_programme n pid t c) (arrived_table t r c); memory = m }))
      go true pmt = relisted_kept x
      go false true = record { whole = kept.whole; rooms = kept.rooms; halves = kept.halves }
      go false false = record { whole = kept.whole; rooms = kept.rooms; halves = kept.halves }

-- so what acts leaves enough for the next to act
pub fit_acted : (t r pid : ℕ) (g : Stage) (x : List ℕ) (c : Core) (m list m' list' : List ℕ) (n : ℕ) (a : Left)
    → Fit c m list → Shown (end_acts t r pid g x (held c m)) n list list' m' a → a.core.count ≤ 16 → Fit a.core m' list'
fit_acted t r pid g x c m list m' list' n a f s most =
    let k = action_kept t r pid c m f.listed (record { whole = f.whole; rooms = f.rooms; halves = f.halves }) (step_outcome r pid g x) x in
    record {
      whole = ap length s.memory ∙ k.whole;
      listed = most;
      rooms = rw s.core k.rooms;
      halves = rw s.core k.halves;
      numbers = omega (arith, f.numbers, ap length s.laid ∙ laid_length numbers_of record_width list n (end_acts t r pid g x (held c m)).events);
    }

-- the section that went on, or none
pub few_kept : (t r pid : ℕ) (fs : List Finished) → length fs ≤ 1 → (c : Core) (m : List ℕ) → c.count ≤ 16 → Kept (held c m)
    → Kept (absorbed_all (arrival t r pid) fs (held c m)).held
unfolding absorbed_all
few_kept t r pid [] h c m most k = k
few_kept t r pid (f ∷ []) h c m most k = action_kept t r pid c m most k (outcome_of r pid f) (bytes_of f)
few_kept t r pid (f ∷ g ∷ fs) h c m most k = absurd (omega arith)
