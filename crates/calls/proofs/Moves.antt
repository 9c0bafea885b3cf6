-- A packet walked once: what each of its moves keeps of what is held and of the counter table, steps 1 to 5 keep. Assumes nothing.
--
--   From p g r f     == the section f was finished when the packet's payload was built in its room r of what was held, g
--   Moves t p P      == each move of a packet at t keeps P: step 1, the table byte, a dropped room, a payload built, and a good section's three
--   packet_moves     == then steps 1 to 5 keep P
--   sync_moves       == step 1 keeps what a new sync run keeps, and the loss of sync
use mathlib.Core.Path.{◌≡◌, refl, ap}
use mathlib.Core.Bool.{Bool, true, false, cond, ◌||◌}
use mathlib.Core.List.{List, [], ◌∷◌}
use Prim.Native.Nat.{ℕ, ◌+◌, ◌≤◌, ◌<◌}
use native.Mathlib.Omega.{arith}
use lib.Dec.{ltb, eqb}
use lib.ListN.{length, set}
use lib.Seq.{set_out}
use borrow.Author.Tests.{eqb-true, eqb-false, ltb-true}
use Rattle.lists.proofs.Tests.{cond_either}
use Rattle.header.specs.Header.{right_sync, error_bit, unit_start, pid_of, scrambled_bits, control_of, payload_of}
use Rattle.sections.specs.declared.Outcome.{Outcome}
use Rattle.sections.specs.declared.Outcome.TheVariants.{Unfinished, Good, Fault, Silent}
use Rattle.sections.specs.Rooms.{room_count, pat_room}
use Rattle.sections.specs.Building.{Finished}
use Rattle.sections.specs.Outcomes.{is_pmt_room, outcome_of}
use Rattle.programmes.specs.Listing.{null_pid}
use Rattle.calls.specs.declared.Core.{Core}
use Rattle.calls.specs.Cores.{Held, with_half, room_for, dropped_room, with_sync}
use Rattle.calls.specs.Sync.{Synced, lost_now, in_sync, while_lost, synced_of}
use Rattle.calls.specs.Steps.{arrival, AfterStep, arrived_table, arrived_programme, relisted, arrived_in, bytes_of, absorbed_by, absorbed, absorbed_all, built_in, job_of, sections_taken, payload_taken, counted, step5, step4, step3, step2, step1}

-- WHERE NOTHING IS BUILT, nothing is dropped
pub dropped_nowhere : (r : ℕ) (h : Held) → length h.core.half ≤ r → dropped_room r h ≡ h
dropped_nowhere r h l = ap (λ (ns : List ℕ). record { core = with_half ns h.core; memory = h.memory }) (set_out h.core.half r 0 l)

-- A SECTION of a payload
pub data Among (f : Finished) : List Finished → Type 0 where
  here : {fs : List Finished} → Among f (f ∷ fs)
  there : {g : Finished} {fs : List Finished} → Among f fs → Among f (g ∷ fs)

pub record From (p : List ℕ) (g : Held) (r : ℕ) (f : Finished) : Type 0 where
  pub room : room_for g.core (pid_of p) ≡ r
  pub inside : r < room_count
  pub among : Among f (job_of r (unit_start p) (payload_of p) g).finished

-- THE MOVES
abbrev pub synced_held : List ℕ → Held → Held
synced_held p h = record { core = (synced_of (right_sync p) h.core).core; memory = h.memory }

abbrev pub table_arrived : ℕ → ℕ → Held → Held
table_arrived t r h = record { core = arrived_table t r h.core; memory = h.memory }

abbrev pub programme_arrived : ℕ → ℕ → ℕ → Held → Held
programme_arrived n q t h = record { core = arrived_programme n q t h.core; memory = h.memory }

abbrev pub payload_built : List ℕ → ℕ → Held → Held
payload_built p r h = built_in r (job_of r (unit_start p) (payload_of p) h) h

-- a good section f, of a payload that g was given, acts on h: P held of g, and holds of h
pub record Moves (t : ℕ) (p : List ℕ) (P : Held → List ℕ → Type 0) : Type 0 where
  pub synced : (h : Held) (cs : List ℕ) → P h cs → P (synced_held p h) cs
  pub byte : (h : Held) (cs : List ℕ) → P h cs → P h (set cs (pid_of p) (counted p cs).byte)
  pub dropped : (h : Held) (cs : List ℕ) → P h cs → P (dropped_room (room_for h.core (pid_of p)) h) cs
  pub built : (h : Held) (cs : List ℕ) → room_for h.core (pid_of p) < room_count → P h cs → P (payload_built p (room_for h.core (pid_of p)) h) cs
  pub table : (g h : Held) (cs : List ℕ) (r : ℕ) (f : Finished) → From p g r f → P g cs → P h cs → P (table_arrived t r h) cs
  pub page : (g h : Held) (cs : List ℕ) (r : ℕ) (f : Finished) → From p g r f → P g cs → P h cs → (n : ℕ) → P (programme_arrived n (pid_of p) t h) cs
  pub list : (g h : Held) (cs : List ℕ) (f : Finished) → From p g pat_room f → P g cs → P h cs → P (relisted t (bytes_of f) h) cs

-- THE WALK
module _ (t : ℕ) (p : List ℕ) (P : Held → List ℕ → Type 0) (m : Moves t p P) where
  -- sections of a payload that was built in the room r of g
  module _ (g : Held) (cs : List ℕ) (r : ℕ) (before : P g cs) where
    arrived_moves : (n : ℕ) (f : Finished) (h : Held) → From p g r f → P h cs → P (arrived_in (arrival t r (pid_of p)) n (bytes_of f) h) cs
    arrived_moves n f h from k = go (eqb r pat_room) refl
      where
        go : (b : Bool) → eqb r pat_room ≡ b
            → P (cond b (relisted t (bytes_of f) h)
            (record { core = cond (is_pmt_room r) (arrived_programme n (pid_of p) t h.core) (arrived_table t r h.core); memory = h.memory })) cs
        go true e = m.list g h cs f (rw (eqb-true r pat_room e) at from) before k
        go false e =
            cond_either (λ (c : Core). P (record { core = c; memory = h.memory }) cs) (is_pmt_room r) (arrived_programme n (pid_of p) t h.core) (arrived_table t r h.core)
            (m.page g h cs r f from before k n) (m.table g h cs r f from before k)

    absorbed_moves : (o : Outcome) (f : Finished) (h : Held) → From p g r f → P h cs → P (absorbed_by o (arrival t r (pid_of p)) (bytes_of f) h).held cs
    absorbed_moves Unfinished f h from k = k
    absorbed_moves (Good n) f h from k = arrived_moves n f h from k
    absorbed_moves (Fault x c i) f h from k = k
    absorbed_moves Silent f h from k = k

    all_moves : (fs : List Finished) (h : Held) → ((f : Finished) → Among f fs → From p g r f) → P h cs → P (absorbed_all (arrival t r (pid_of p)) fs h).held cs
    unfolding absorbed_all
    all_moves [] h from k = k
    all_moves (f ∷ fs) h from k =
        all_moves fs (absorbed (arrival t r (pid_of p)) f h).held (λ x a. from x (there a)) (absorbed_moves (outcome_of r (pid_of p) f) f h (from f here) k)

  payload_moves : (h : Held) (cs : List ℕ) → P h cs → P (payload_taken (arrival t (room_for h.core (pid_of p)) (pid_of p)) p h).held cs
  unfolding sections_taken
  payload_moves h cs k = go (ltb r room_count) refl
    where
      r : ℕ
      r = room_for h.core (pid_of p)

      go : (b : Bool) → ltb r room_count ≡ b → P (cond b (sections_taken (arrival t r (pid_of p)) (unit_start p) (payload_of p) h) (record { held = h; events = [] })).held cs
      go true e =
          let inside = ltb-true r room_count e in
          all_moves h cs r k (job_of r (unit_start p) (payload_of p) h).finished (payload_built p r h)
          (λ f a. record { room = refl; inside = inside; among = a }) (m.built h cs inside k)
      go false e = k

  abbrev After : AfterStep → Type 0
  After x = P x.held x.counters

  step5_moves : (take : Bool) (cs : List ℕ) (h : Held) → P h cs → After (step5 t p take cs h)
  step5_moves take cs h k =
      cond_either After (scrambled_bits p) _ _ (m.dropped h cs k) (cond_either After take _ _ (payload_moves h cs k) k)

  step4_moves : (cs : List ℕ) (h : Held) → P h cs → After (step4 t p cs h)
  step4_moves cs h k =
      let j = counted p cs in
      let d = dropped_room (room_for h.core (pid_of p)) h in
      let ds = set cs (pid_of p) j.byte in
      step5_moves j.take ds (cond j.keep h d) (cond_either (λ (x : Held). P x ds) j.keep h d (m.byte h cs k) (m.byte d cs (m.dropped h cs k)))

  pub packet_moves : (cs : List ℕ) (h : Held) → P h cs → After (step1 t p cs h)
  unfolding step1
  packet_moves cs h k =
      let g = synced_held p h in
      let s = m.synced h cs k in
      cond_either After (synced_of (right_sync p) h.core).further (step2 t p cs g) (record { held = g; counters = cs; events = [] })
      (cond_either After (error_bit p) _ (step3 t p cs g) s
      (cond_either After (eqb (pid_of p) null_pid || eqb (control_of p) 0) _ (step4 t p cs g) s (step4_moves cs g s))) s

-- STEP 1: a new sync run that is sound where the old one was, or the loss of sync
pub sync_moves : (Q : Core → Type 0) (c : Core)
    → ((lost : Bool) (run : ℕ) → (c.run ≤ cond c.lost 4 1 → run ≤ cond lost 4 1) → Q (with_sync lost run c)) → Q (lost_now c)
    → (right : Bool) → Q (synced_of right c).core
sync_moves Q c run lost right = go c.lost refl right
  where
    After : Synced → Type 0
    After y = Q y.core

    go : (b : Bool) → c.lost ≡ b → (right : Bool) → Q (cond b (while_lost right c) (in_sync right c)).core
    go true e true = four (eqb c.run 4) refl
      where
        four : (b : Bool) → eqb c.run 4 ≡ b
            → After (cond b (record { core = with_sync false 0 c; faults = []; further = true }) (record { core = with_sync true (c.run + 1) c; faults = []; further = false }))
        four true z = run false 0 (λ h. omega arith)
        four false z =
            let other = eqb-false c.run 4 z in
            run true (c.run + 1) (λ h. let now : c.run ≤ 4 = rw e at h in omega arith)
    go true e false = run true 0 (λ h. omega arith)
    go false e true = run false 0 (λ h. omega arith)
    go false e false = cond_either After (eqb c.run 1) _ _ lost (run false 1 (λ h. omega arith))
