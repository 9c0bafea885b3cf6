-- The events of steps 1 to 5, walked once: each has the call's time, the packet's PID, numbers that fit their fields and another cause than
-- lateness; and there are at most 62. Assumes nothing.
--
--   Given t p e  == e is such an event of the packet p at t
--   Own t p n es == each of es is, and there are at most n, where the packet has its size
use mathlib.Core.Path.{◌≡◌, refl}
use mathlib.Core.Bool.{Bool, true, false, cond, not, ◌&&◌, ◌||◌}
use mathlib.Core.List.{List, [], ◌∷◌, ◌++◌, map}
use Prim.Native.Nat.{ℕ, ◌+◌, ◌≤◌, ◌<◌}
use native.Mathlib.Omega.{arith}
use lib.Dec.{ltb, eqb}
use lib.ListN.{length, set, length-append, length-drop}
use Rattle.lists.proofs.Tests.{cond_either}
use Rattle.events.specs.declared.Event.{Event}
use Rattle.events.specs.Faults as faults
use Rattle.events.specs.Events.{event_at}
use Rattle.watches.specs.Tables.{pat_pid}
use Rattle.header.specs.Header.{packet_size, right_sync, error_bit, unit_start, pid_of, scrambled_bits, control_of, adaptation_length, has_payload, payload_at, payload_of}
use Rattle.sections.specs.declared.Outcome.{Outcome}
use Rattle.sections.specs.declared.Outcome.TheVariants.{Good, Silent}
use Rattle.sections.specs.Rooms.{room_count, pat_room}
use Rattle.sections.specs.Section.{table_id, extension_of}
use Rattle.sections.specs.Building.{Finished, bad_length, whole}
use Rattle.sections.specs.Outcomes.{crc_wrong, is_pmt_room, is_good, right_id, whole_outcome}
use Rattle.sections.proofs.Counts.{built_greatest}
use Rattle.programmes.specs.Listing.{null_pid}
use Rattle.programmes.specs.Places.{is_listed, half_at}
use Rattle.calls.specs.declared.Core.{Core}
use Rattle.calls.specs.Cores.{Held, listed, room_for, dropped_room}
use Rattle.calls.specs.Sync.{Synced, in_sync, while_lost, synced_of}
use Rattle.calls.specs.Steps.{arrival, AfterStep, Absorbed, packet_events, new_list, absorbed_by, absorbed, absorbed_all, job_of, sections_taken, scrambling_events, counted, step5, step4, step2, step1}

pub record Given (t : ℕ) (p : List ℕ) (e : Event) : Type 0 where
  pub stamp : e.stamp ≡ t
  pub fault : e.fault < 65536
  pub cause : e.cause < 256
  pub not_late : eqb e.cause faults.late ≡ false
  pub id : e.id ≡ pid_of p

abbrev pub Each : (Event → Type 0) → List Event → Type 0
Each P [] = Unit
Each P (e ∷ es) = P e × Each P es

pub record Own (t : ℕ) (p : List ℕ) (n : ℕ) (es : List Event) : Type 0 where
  pub each : Each (Given t p) es
  pub few : length p ≡ packet_size → length es ≤ n

-- how many: of a payload's sections, and of a packet
abbrev pub sections_most : ℕ
sections_most = 61

abbrev pub own_most : ℕ
own_most = sections_most + 1

-- a payload has at most 184 bytes
pub payload_most : (p : List ℕ) → length p ≡ packet_size → length (payload_of p) ≤ 184
payload_most p h = omega (arith, length-drop (payload_at p) p, go (has_payload (control_of p) (adaptation_length p)) (eqb (control_of p) 1))
  where
    go : (has one : Bool) → 4 ≤ cond has (cond one 4 (5 + adaptation_length p)) packet_size
    go true true = omega arith
    go true false = omega arith
    go false one = omega arith

module _ (t : ℕ) (p : List ℕ) where
  own_none : (n : ℕ) → Own t p n []
  own_none n = record { each = tt; few = λ z. omega arith }

  own_one : (n f c : ℕ) → 1 ≤ n → f < 65536 → c < 256 → eqb c faults.late ≡ false → Own t p n (event_at t f c (pid_of p) ∷ [])
  own_one n f c some hf hc e = record { each = (record { stamp = refl; fault = hf; cause = hc; not_late = e; id = refl }, tt); few = λ z. omega arith }

  each_append : (xs ys : List Event) → Each (Given t p) xs → Each (Given t p) ys → Each (Given t p) (xs ++ ys)
  each_append [] ys a b = b
  each_append (x ∷ xs) ys a b = (a.0, each_append xs ys a.1 b)

  own_append : (i n k : ℕ) (xs ys : List Event) → n + k ≤ i → Own t p n xs → Own t p k ys → Own t p i (xs ++ ys)
  own_append i n k xs ys l a b =
      record { each = each_append xs ys a.each b.each; few = λ z. omega (arith, length-append xs ys, a.few z, b.few z) }

  -- A FINISHED SECTION gives at most one
  absorbed_own : (r : ℕ) (f : Finished) (h : Held) → Own t p 1 (absorbed (arrival t r (pid_of p)) f h).events
  unfolding whole_outcome
  absorbed_own r bad_length h = own_one 1 faults.crc_error faults.bad (omega arith) (omega arith) (omega arith) refl
  absorbed_own r (whole s) h =
      cond_either By (crc_wrong s) _ _ (own_one 1 faults.crc_error faults.no_cause (omega arith) (omega arith) (omega arith) refl)
      (cond_either By (eqb r pat_room && not (eqb (table_id s) (right_id r))) _ _ (own_one 1 faults.pat_error faults.wrong_table (omega arith) (omega arith) (omega arith) refl)
      (cond_either By (is_pmt_room r && not (eqb (table_id s) (right_id r))) _ _ (own_one 1 faults.pmt_error faults.wrong_table (omega arith) (omega arith) (omega arith) refl)
      (cond_either By (is_good r s) (Good (extension_of s)) Silent
      (cond_either (Own t p 1) (eqb r pat_room && (new_list t s h.core).bad) _ [] (own_one 1 faults.pat_error faults.bad (omega arith) (omega arith) (omega arith) refl) (own_none 1))
      (own_none 1))))
    where
      By : Outcome → Type 0
      By o = Own t p 1 (absorbed_by o (arrival t r (pid_of p)) s h).events

  all_own : (r : ℕ) (fs : List Finished) (h : Held) → Own t p (length fs) (absorbed_all (arrival t r (pid_of p)) fs h).events
  unfolding absorbed_all
  all_own r [] h = own_none 0
  all_own r (f ∷ fs) h =
      let a = absorbed (arrival t r (pid_of p)) f h in
      own_append _ 1 (length fs) a.events (absorbed_all (arrival t r (pid_of p)) fs a.held).events (omega arith) (absorbed_own r f h) (all_own r fs a.held)

  -- A PAYLOAD at most 61
  taken_own : (r : ℕ) (h : Held) → Own t p sections_most (sections_taken (arrival t r (pid_of p)) (unit_start p) (payload_of p) h).events
  unfolding sections_taken
  taken_own r h =
      let all = all_own r (job_of r (unit_start p) (payload_of p) h).finished _ in
      record {
        each = all.each;
        few = λ z. omega (arith, all.few z, built_greatest r h.memory (half_at h.core.half r) (unit_start p) (payload_of p) (payload_most p z));
      }

  -- STEPS 5 TO 1
  abbrev Gives : ℕ → AfterStep → Type 0
  Gives n x = Own t p n x.events

  scrambling_own : (c : Core) → Own t p sections_most (scrambling_events t c (pid_of p))
  scrambling_own c = go (eqb (pid_of p) pat_pid) (is_listed (pid_of p) (listed c))
    where
      go : (pat pmt : Bool) → Own t p sections_most (map (λ f. event_at t f faults.scrambled (pid_of p)) (cond pat (faults.pat_error ∷ []) (cond pmt (faults.pmt_error ∷ []) [])))
      go true pmt = own_one sections_most faults.pat_error faults.scrambled (omega arith) (omega arith) (omega arith) refl
      go false true = own_one sections_most faults.pmt_error faults.scrambled (omega arith) (omega arith) (omega arith) refl
      go false false = own_none sections_most

  step5_own : (take : Bool) (cs : List ℕ) (h : Held) → Gives sections_most (step5 t p take cs h)
  step5_own take cs h =
      cond_either (Gives sections_most) (scrambled_bits p) _ _ (scrambling_own h.core)
      (cond_either (Gives sections_most) take _ _
      (cond_either (λ (a : Absorbed). Own t p sections_most a.events) (ltb (room_for h.core (pid_of p)) room_count) _ (record { held = h; events = [] }) (taken_own (room_for h.core (pid_of p)) h) (own_none sections_most))
      (own_none sections_most))

  step4_own : (cs : List ℕ) (h : Held) → Gives own_most (step4 t p cs h)
  step4_own cs h =
      let j = counted p cs in
      let g = cond j.keep h (dropped_room (room_for h.core (pid_of p)) h) in
      own_append own_most 1 sections_most (packet_events t p (cond j.event (faults.continuity_error ∷ []) [])) (step5 t p j.take (set cs (pid_of p) j.byte) g).events (omega arith)
      (cond_either (λ fs. Own t p 1 (packet_events t p fs)) j.event (faults.continuity_error ∷ []) []
      (own_one 1 faults.continuity_error faults.no_cause (omega arith) (omega arith) (omega arith) refl) (own_none 1))
      (step5_own j.take (set cs (pid_of p) j.byte) g)

  step2_own : (cs : List ℕ) (h : Held) → Gives own_most (step2 t p cs h)
  step2_own cs h =
      cond_either (Gives own_most) (error_bit p) _ _ (own_one own_most faults.transport_error faults.no_cause (omega arith) (omega arith) (omega arith) refl)
      (cond_either (Gives own_most) (eqb (pid_of p) null_pid || eqb (control_of p) 0) _ _ (own_none own_most) (step4_own cs h))

  -- a packet that is judged further has no fault of sync
  abbrev SyncGives : Synced → Type 0
  SyncGives y = Own t p (cond y.further 0 own_most) (packet_events t p y.faults)

  sync_own : (right : Bool) (c : Core) → SyncGives (synced_of right c)
  sync_own right c = cond_either SyncGives c.lost (while_lost right c) (in_sync right c) (lost right) (in_sync_lem right)
    where
      lost : (right : Bool) → SyncGives (while_lost right c)
      lost true = cond_either SyncGives (eqb c.run 4) _ _ (own_none 0) (own_none own_most)
      lost false = own_none own_most

      byte : Own t p sections_most (packet_events t p (faults.sync_byte_error ∷ []))
      byte = own_one sections_most faults.sync_byte_error faults.no_cause (omega arith) (omega arith) (omega arith) refl

      in_sync_lem : (right : Bool) → SyncGives (in_sync right c)
      in_sync_lem true = own_none 0
      in_sync_lem false =
          cond_either SyncGives (eqb c.run 1) _ _
          (own_append own_most sections_most 1 (packet_events t p (faults.sync_byte_error ∷ [])) (packet_events t p (faults.sync_loss ∷ [])) (omega arith) byte
          (own_one 1 faults.sync_loss faults.no_cause (omega arith) (omega arith) (omega arith) refl))
          (own_one own_most faults.sync_byte_error faults.no_cause (omega arith) (omega arith) (omega arith) refl)

  pub packet_own : (cs : List ℕ) (h : Held) → Gives own_most (step1 t p cs h)
  unfolding step1
  packet_own cs h =
      let y = synced_of (right_sync p) h.core in
      let g : Held = record { core = y.core; memory = h.memory } in
      go y.faults y.further (sync_own (right_sync p) h.core) (step2 t p cs g) (step2_own cs g) g
    where
      go : (fs : List ℕ) (further : Bool) → Own t p (cond further 0 own_most) (packet_events t p fs) → (x : AfterStep) → Gives own_most x → (g : Held)
          → Own t p own_most (packet_events t p fs ++ (cond further x (record { held = g; counters = cs; events = [] })).events)
      go fs true f x m g = own_append own_most 0 own_most (packet_events t p fs) x.events (omega arith) f m
      go fs false f x m g = own_append own_most own_most 0 (packet_events t p fs) [] (omega arith) f (own_none 0)
