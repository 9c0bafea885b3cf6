-- Finished sections act apart from the room that they were built in: what follows them in the payload may be built before they act, or
-- after. Assumes nothing.
use mathlib.Core.Path.{◌≡◌, refl, sym, ap, ap₂, ◌∙◌}
use mathlib.Core.Bool.{Bool, true, false, cond}
use mathlib.Core.List.{List, [], ◌∷◌, ◌++◌}
use Prim.Native.Nat.{ℕ, ◌≤◌}
use native.Mathlib.Omega.{arith}
use lib.Dec.{eqb}
use lib.ListN.{length, set}
use borrow.Author.Tests.{eqb-true}
use Rattle.events.specs.declared.Event.{Event}
use Rattle.sections.specs.declared.Outcome.{Outcome}
use Rattle.sections.specs.declared.Outcome.TheVariants.{Unfinished, Good, Fault, Silent}
use Rattle.sections.specs.Rooms.{pat_room}
use Rattle.sections.specs.Building.{Stretch, Finished, Job, fed}
use Rattle.sections.specs.Outcomes.{is_pmt_room, outcome_of}
use Rattle.sections.proofs.Jobs.{behind, fed_behind, SoundJob, moved, fed_moved}
use Rattle.programmes.specs.Places.{moved_halves, moved_bytes}
use Rattle.calls.specs.declared.Core.{Core}
use Rattle.calls.specs.Cores.{Held, listed, with_list, with_half}
use Rattle.calls.specs.Steps.{arrival, arrived_table, arrived_programme, new_list, listed_by, relisted, list_events, Absorbed, bytes_of, absorbed_by, absorbed, absorbed_all, built_in}
use Rattle.payloads.specs.inner.Taking.{held}
use Rattle.payloads.specs.inner.Parts.{came_to}
use Rattle.payloads.proofs.Apart.{halves_apart, bytes_apart, bytes_elsewhere}

-- a job on other memory
abbrev pub in_memory : List ℕ → Job → Job
in_memory m j = record { memory = m; half = j.half; finished = j.finished; ignored = j.ignored }

-- events that came before
abbrev pub led : List Event → Absorbed → Absorbed
led es a = record { held = a.held; events = es ++ a.events }

-- THE PAT'S SECTION: the list is read, and half-built sections move with it
module _ (t : ℕ) (w : Stretch) (j : Job) (s : List ℕ) (c : Core) (m₀ x : List ℕ) (q : SoundJob pat_room j) (halves : 5 ≤ length c.half) where
  abbrev relisted_to : List ℕ → List ℕ → Held
  relisted_to ns m = record { core = with_half ns (with_list (new_list t x c).count (new_list t x c).entries (arrived_table t pat_room c)); memory = m }

  fed_on_moved : fed w pat_room (moved (moved_bytes (listed c) (listed_by (new_list t x c)) c.half) j) s ≡ moved (moved_bytes (listed c) (listed_by (new_list t x c)) c.half) (fed w pat_room j s)
  fed_on_moved = fed_moved pat_room (moved_bytes (listed c) (listed_by (new_list t x c)) c.half) (omega arith) (bytes_elsewhere (listed c) (listed_by (new_list t x c)) c.half) w j s q

  relisted_pat : relisted t x (built_in pat_room (fed w pat_room j s) (held c m₀))
      ≡ built_in pat_room (fed w pat_room (in_memory (relisted t x (held c j.memory)).memory j) s) (relisted t x (held c j.memory))
  relisted_pat =
      let old = listed c in
      let new = listed_by (new_list t x c) in
      let job = fed w pat_room j s in
      ap₂ relisted_to (halves_apart old new c.half job.half halves) (bytes_apart old new c.half job.half job.memory)
      ∙ ap (λ (k : Job). relisted_to (set (moved_halves old new c.half) pat_room k.half) k.memory) (sym fed_on_moved)

-- ANY FINISHED SECTION, by its outcome
module _ (t r pid : ℕ) (w : Stretch) (j : Job) (s : List ℕ) (c : Core) (m₀ : List ℕ) (q : SoundJob r j) (halves : 5 ≤ length c.half) where
  abbrev arrived_by : Bool → Bool → ℕ → List ℕ → Held → Held
  arrived_by pat pmt n x h = cond pat (relisted t x h) (record { core = cond pmt (arrived_programme n pid t h.core) (arrived_table t r h.core); memory = h.memory })

  relisted_job : (x : List ℕ) → r ≡ pat_room
      → relisted t x (built_in r (fed w r j s) (held c m₀)) ≡ built_in r (fed w r (in_memory (relisted t x (held c j.memory)).memory j) s) (relisted t x (held c j.memory))
  relisted_job x e = rw e (relisted_pat t w j s c m₀ x (rw e at q) halves)

  finished_job : (x : List ℕ) → r ≡ pat_room → (fed w r (in_memory (relisted t x (held c j.memory)).memory j) s).finished ≡ (fed w r j s).finished
  finished_job x e = rw e (ap (λ (k : Job). k.finished) (fed_on_moved t w j s c m₀ x (rw e at q) halves))

  pub action_after : (o : Outcome) (x : List ℕ)
      → absorbed_by o (arrival t r pid) x (built_in r (fed w r j s) (held c m₀))
      ≡ record { held = built_in r (fed w r (in_memory (absorbed_by o (arrival t r pid) x (held c j.memory)).held.memory j) s) (absorbed_by o (arrival t r pid) x (held c j.memory)).held; events = (absorbed_by o (arrival t r pid) x (held c j.memory)).events }
  action_after Unfinished x = refl
  action_after (Fault f a i) x = refl
  action_after Silent x = refl
  action_after (Good n) x = ap (λ (h : Held). record { held = h; events = list_events (arrival t r pid) x c }) (go (eqb r pat_room) refl (is_pmt_room r))
    where
      go : (pat : Bool) → eqb r pat_room ≡ pat → (pmt : Bool)
          → arrived_by pat pmt n x (built_in r (fed w r j s) (held c m₀))
          ≡ built_in r (fed w r (in_memory (arrived_by pat pmt n x (held c j.memory)).memory j) s) (arrived_by pat pmt n x (held c j.memory))
      go true e pmt = relisted_job x (eqb-true r pat_room e)
      go false e true = refl
      go false e false = refl

  pub finished_after : (o : Outcome) (x : List ℕ) → (fed w r (in_memory (absorbed_by o (arrival t r pid) x (held c j.memory)).held.memory j) s).finished ≡ (fed w r j s).finished
  finished_after Unfinished x = refl
  finished_after (Fault f a i) x = refl
  finished_after Silent x = refl
  finished_after (Good n) x = go (eqb r pat_room) refl (is_pmt_room r)
    where
      go : (pat : Bool) → eqb r pat_room ≡ pat → (pmt : Bool) → (fed w r (in_memory (arrived_by pat pmt n x (held c j.memory)).memory j) s).finished ≡ (fed w r j s).finished
      go true e pmt = finished_job x (eqb-true r pat_room e)
      go false e pmt = refl

  -- it acts first, and what follows it in the payload goes on from there
  pub came_behind : (f : Finished)
      → came_to t r pid (fed w r (behind (f ∷ []) j) s) (held c m₀)
      ≡ led (absorbed (arrival t r pid) f (held c j.memory)).events (came_to t r pid (fed w r (in_memory (absorbed (arrival t r pid) f (held c j.memory)).held.memory j) s) (absorbed (arrival t r pid) f (held c j.memory)).held)
  unfolding absorbed_all
  came_behind f =
      ap (λ k. came_to t r pid k (held c m₀)) (fed_behind (f ∷ []) w r j s)
      ∙ ap₂ (λ (a : Absorbed) (fs : List Finished). led a.events (absorbed_all (arrival t r pid) fs a.held)) (action_after (outcome_of r pid f) (bytes_of f)) (sym (finished_after (outcome_of r pid f) (bytes_of f)))
