-- Steps done, one after the other, and each step by its tests. Assumes nothing.
use mathlib.Core.Path.{◌≡◌, refl, sym, ap, subst, ◌∙◌}
use mathlib.Core.Bool.{Bool, true, false, cond, ◌&&◌, ◌||◌}
use mathlib.Core.List.{List, [], ◌∷◌, ◌++◌, append-nil}
use Prim.Native.Nat.{ℕ, ◌+◌, ◌≤◌}
use native.Mathlib.Omega.{arith}
use lib.Dec.{eqb, ltb}
use lib.ListN.{length, set}
use lib.Seq.{set-set}
use Rattle.lists.specs.Laying.{laid}
use Rattle.lists.proofs.Tests.{cond_either}
use Rattle.lists.proofs.Laying.{laid_none, laid_turn}
use Rattle.events.specs.declared.Event.{Event}
use Rattle.events.specs.Events.{numbers_of, events_laid}
use Rattle.events.specs.Faults.{transport_error, continuity_error}
use Rattle.events.specs.Capacity.{record_width}
use Rattle.header.specs.declared.Header.{Header}
use Rattle.header.specs.Header.{right_sync, error_bit, unit_start, pid_of, scrambled_bits, control_of, counter_of, payload_at, payload_of, header_of}
use Rattle.continuity.specs.declared.Counted.{Counted}
use Rattle.sections.specs.Rooms.{room_count}
use Rattle.programmes.specs.Listing.{null_pid}
use Rattle.calls.specs.declared.Core.{Core}
use Rattle.calls.specs.Cores.{Held, room_for, with_half, dropped_room}
use Rattle.calls.specs.Sync.{Synced, in_sync, while_lost, synced_of}
use Rattle.calls.specs.Steps.{arrival, AfterStep, Absorbed, packet_events, also, sections_taken, scrambling_events, counted, step1, step2, step4, step5}
use Rattle.payloads.specs.inner.Taking.{held}
use Rattle.steps.proofs.Rooms.{room_kept}
use Rattle.steps.specs.inner.Judging.{Done, fault_events, CaughtAs, coursed}

-- A STEP done is done by any name
pub done_as : {x y : AfterStep} {most : ℕ} {c : Core} {cs m before : List ℕ} {n : ℕ} {after : List ℕ} {r : ℕ} → x ≡ y
    → Done x most c cs m before n after r → Done y most c cs m before n after r
done_as {most = most} {c = c} {cs = cs} {m = m} {before = before} {n = n} {after = after} {r = r} e d =
    subst (λ x. Done x most c cs m before n after r) e d

-- a step that changes nothing but a room, with no event
abbrev pub quiet : Held → List ℕ → AfterStep
quiet h cs = record { held = h; counters = cs; events = [] }

pub done_quiet : (h : Held) (cs : List ℕ) (most : ℕ) (list : List ℕ) (n : ℕ) → Done (quiet h cs) most h.core cs h.memory list n list n
unfolding laid
done_quiet h cs most list n =
    record { core = refl; counters = refl; memory = refl; next = omega arith; laid = refl; few = omega arith }

-- what it holds, by another name
pub done_from : {g h : Held} {cs : List ℕ} {most : ℕ} {list : List ℕ} {n : ℕ} → g ≡ h
    → Done (quiet g cs) most g.core cs g.memory list n list n → Done (quiet h cs) most g.core cs g.memory list n list n
done_from {g = g} {cs = cs} {most = most} {list = list} {n = n} e d = subst (λ h. Done (quiet h cs) most g.core cs g.memory list n list n) e d

-- events, then a step
pub done_also : (x : AfterStep) (es : List Event) (k most : ℕ) (c : Core) (cs m before : List ℕ) (n : ℕ) (mid : List ℕ) (i : ℕ) (after : List ℕ) (r : ℕ)
    → i ≡ n + length es → mid ≡ events_laid before n es → i ≤ n + k → Done x most c cs m mid i after r
    → Done (also es x) (k + most) c cs m before n after r
done_also x es k most c cs m before n mid i after r ei el few d =
    let w = laid_turn numbers_of record_width (λ e. refl) n i r before mid after es x.events ei el d.next d.laid in
    record { core = d.core; counters = d.counters; memory = d.memory; next = w.0; laid = w.1; few = omega (arith, d.few) }

-- THE HEADER, field by field
pub record Fields (h : Header) (p : List ℕ) : Type 0 where
  pub error : h.error ≡ error_bit p
  pub start : h.start ≡ unit_start p
  pub pid : h.pid ≡ pid_of p
  pub scrambled : h.scrambled ≡ scrambled_bits p
  pub control : h.control ≡ control_of p
  pub counter : h.counter ≡ counter_of p
  pub payload : h.payload ≡ payload_at p

pub fields : (h : Header) (p : List ℕ) → h ≡ header_of p → Fields h p
unfolding header_of
fields h p e =
    record {
      error = ap (λ x. x.error) e;
      start = ap (λ x. x.start) e;
      pid = ap (λ x. x.pid) e;
      scrambled = ap (λ x. x.scrambled) e;
      control = ap (λ x. x.control) e;
      counter = ap (λ x. x.counter) e;
      payload = ap (λ x. x.payload) e;
    }

-- EACH STEP by its tests
module _ (t : ℕ) (p cs : List ℕ) (h : Held) where
  pub error_ends : error_bit p ≡ true → also (packet_events t p (transport_error ∷ [])) (quiet h cs) ≡ step2 t p cs h
  error_ends e = rw e

  pub null_ends : error_bit p ≡ false → (eqb (pid_of p) null_pid || eqb (control_of p) 0) ≡ true → also [] (quiet h cs) ≡ step2 t p cs h
  null_ends e n = rw (e, n)

  pub header_passed : error_bit p ≡ false → (eqb (pid_of p) null_pid || eqb (control_of p) 0) ≡ false → step4 t p cs h ≡ step2 t p cs h
  header_passed e n = rw (e, n)

-- STEP 5, after step 4 has kept what is half-built in the room, or has not
module _ (t : ℕ) (p table : List ℕ) (c : Core) (m : List ℕ) (taking : Bool) where
  abbrev room : ℕ
  room = room_for c (pid_of p)

  abbrev kept : Bool → Held
  kept b = cond b (held c m) (dropped_room room (held c m))

  pub scrambled_ends : (b : Bool) → scrambled_bits p ≡ true
      → step5 t p taking table (kept b) ≡ record { held = dropped_room room (held c m); counters = table; events = scrambling_events t c (pid_of p) }
  scrambled_ends true e = rw e
  scrambled_ends false e =
      rw (e, room_kept (set c.half room 0) c (pid_of p))
      (ap (λ (ns : List ℕ). record { held = held (with_half ns c) m; counters = table; events = scrambling_events t c (pid_of p) }) (set-set c.half room 0 0))

  pub clear_ends : (b : Bool) → scrambled_bits p ≡ false
      → step5 t p taking table (kept b) ≡ coursed t p room b (taking && ltb room room_count) table (held c m)
  clear_ends b e = rw (e, same b) (go taking (ltb room room_count))
    where
      same : (b : Bool) → room_for (kept b).core (pid_of p) ≡ room
      same true = refl
      same false = room_kept (set c.half room 0) c (pid_of p)

      a : Absorbed
      a = sections_taken (arrival t room (pid_of p)) (unit_start p) (payload_of p) (kept b)

      after : Held → List Event → AfterStep
      after h es = record { held = h; counters = table; events = es }

      go : (x y : Bool)
          → cond x (after (cond y a (record { held = kept b; events = [] })).held (cond y a (record { held = kept b; events = [] })).events) (after (kept b) [])
          ≡ cond (x && y) (after a.held a.events) (after (kept b) [])
      go true true = refl
      go true false = refl
      go false y = refl

-- WHAT IS LEFT TO BE DONE, by whether the payload is taken
module _ (t : ℕ) (p : List ℕ) (r : ℕ) (keep : Bool) (cs : List ℕ) (h : Held) where
  abbrev left : Held
  left = cond keep h (dropped_room r h)

  pub left_out : (take : Bool) → take ≡ false → quiet left cs ≡ coursed t p r keep take cs h
  left_out take e = rw e

  pub taken_in : (take : Bool) → take ≡ true
      → (let a = sections_taken (arrival t r (pid_of p)) (unit_start p) (payload_of p) left in record { held = a.held; counters = cs; events = a.events }) ≡ coursed t p r keep take cs h
  taken_in take e = rw e

-- the core after step 4
pub kept_held : (b : Bool) (c : Core) (m : List ℕ) (r : ℕ)
    → held (cond b c (with_half (set c.half r 0) c)) m ≡ cond b (held c m) (dropped_room r (held c m))
kept_held true c m r = refl
kept_held false c m r = refl

pub kept_as : (b : Bool) (c d : Core) (m : List ℕ) (r : ℕ) → d ≡ cond b c (with_half (set c.half r 0) c) → held d m ≡ cond b (held c m) (dropped_room r (held c m))
kept_as b c d m r e = ap (λ k. held k m) e ∙ kept_held b c m r

-- where the payload is not taken, that is all
pub course_left : (t : ℕ) (p : List ℕ) (r : ℕ) (keep take : Bool) (cs : List ℕ) (c d : Core) (m list : List ℕ) (n : ℕ)
    → d ≡ cond keep c (with_half (set c.half r 0) c) → take ≡ false → Done (coursed t p r keep take cs (held c m)) 62 d cs m list n list n
course_left t p r keep take cs c d m list n kept e =
    done_as (left_out t p r keep cs (held c m) take e) (done_from (kept_as keep c d m r kept) (done_quiet (held d m) cs 62 list n))

-- STEP 4, where its verdict is j
abbrev pub continuity_events : ℕ → ℕ → Bool → List Event
continuity_events t pid event = fault_events t pid (cond event (continuity_error ∷ []) [])

module _ (t : ℕ) (p cs : List ℕ) (c : Core) (j : Counted) (verdict : j ≡ counted p cs) (m : List ℕ) where
  abbrev counter_room : ℕ
  counter_room = room_for c (pid_of p)

  abbrev counter_table : List ℕ
  counter_table = set cs (pid_of p) j.byte

  abbrev from : Counted → AfterStep
  from j = also (continuity_events t (pid_of p) j.event) (step5 t p j.take (set cs (pid_of p) j.byte) (cond j.keep (held c m) (dropped_room counter_room (held c m))))

  pub counter_scrambled : scrambled_bits p ≡ true
      → also (continuity_events t (pid_of p) j.event ++ scrambling_events t c (pid_of p)) (quiet (dropped_room counter_room (held c m)) counter_table) ≡ step4 t p cs (held c m)
  counter_scrambled e =
      ap (λ es. record { held = dropped_room counter_room (held c m); counters = counter_table; events = es }) (append-nil (continuity_events t (pid_of p) j.event ++ scrambling_events t c (pid_of p)))
      ∙ ap (also (continuity_events t (pid_of p) j.event)) (sym (scrambled_ends t p counter_table c m j.take j.keep e))
      ∙ ap from verdict

  pub counter_clear : scrambled_bits p ≡ false
      → also (continuity_events t (pid_of p) j.event) (coursed t p counter_room j.keep (j.take && ltb counter_room room_count) counter_table (held c m)) ≡ step4 t p cs (held c m)
  counter_clear e = ap (also (continuity_events t (pid_of p) j.event)) (sym (clear_ends t p counter_table c m j.take j.keep e)) ∙ ap from verdict

-- STEP 1
pub lost_is : (right : Bool) (c : Core) → c.lost ≡ true → synced_of right c ≡ while_lost right c
lost_is right c e = ap (λ b. cond b (while_lost right c) (in_sync right c)) e

pub in_sync_is : (right : Bool) (c : Core) → c.lost ≡ false → synced_of right c ≡ in_sync right c
in_sync_is right c e = ap (λ b. cond b (while_lost right c) (in_sync right c)) e

pub caught_as : {y z : Synced} {t pid : ℕ} {c : Core} {on : Bool} {before : List ℕ} {n : ℕ} {after : List ℕ} {r : ℕ} → y ≡ z
    → CaughtAs y t pid c on before n after r → CaughtAs z t pid c on before n after r
caught_as {t = t} {pid = pid} {c = c} {on = on} {before = before} {n = n} {after = after} {r = r} e d =
    subst (λ y. CaughtAs y t pid c on before n after r) e d

-- while sync is lost there are no events
pub lost_silent : (right : Bool) (c : Core) → (while_lost right c).faults ≡ []
lost_silent true c = cond_either (λ (y : Synced). y.faults ≡ []) (eqb c.run 4) _ _ refl refl
lost_silent false c = refl

pub lost_caught : (right : Bool) (c d : Core) (on : Bool) (t pid : ℕ) (list : List ℕ) (n : ℕ) → c.lost ≡ true → d ≡ (while_lost right c).core → on ≡ (while_lost right c).further
    → CaughtAs (synced_of right c) t pid d on list n list n
lost_caught right c d on t pid list n lost core further =
    let silent = lost_silent right c in
    caught_as (sym (lost_is right c lost))
    (record { core = core; further = further; next = rw silent (omega arith); laid = rw silent (sym (laid_none _ _ _ _)); few = omega arith })

module _ (t : ℕ) (p cs : List ℕ) (c : Core) (m : List ℕ) (d : Core) (on : Bool) (before : List ℕ) (n : ℕ) (mid : List ℕ) (i : ℕ)
    (caught : CaughtAs (synced_of (right_sync p) c) t (pid_of p) d on before n mid i) where
  abbrev synced : Synced
  synced = synced_of (right_sync p) c

  abbrev faulted : List Event
  faulted = fault_events t (pid_of p) synced.faults

  pub further_done : (b : Core) (table left after : List ℕ) (r : ℕ) → on ≡ true → Done (step2 t p cs (held d m)) 63 b table left mid i after r
      → Done (step1 t p cs (held c m)) 65 b table left before n after r
  unfolding step1
  further_done b table left after r e done =
      done_as same (done_also (step2 t p cs (held d m)) faulted 2 63 b table left before n mid i after r caught.next caught.laid caught.few done)
    where
      same : also faulted (step2 t p cs (held d m)) ≡ step1 t p cs (held c m)
      same =
          ap (λ k. also faulted (step2 t p cs (held k m))) caught.core
          ∙ ap (λ b. also faulted (cond b (step2 t p cs (held synced.core m)) (quiet (held synced.core m) cs))) (sym e ∙ caught.further)

  pub stopped_done : on ≡ false → Done (step1 t p cs (held c m)) 65 d cs m before n mid i
  unfolding step1
  stopped_done e =
      done_as same (done_also (quiet (held d m) cs) faulted 2 63 d cs m before n mid i mid i caught.next caught.laid caught.few (done_quiet (held d m) cs 63 mid i))
    where
      same : also faulted (quiet (held d m) cs) ≡ step1 t p cs (held c m)
      same =
          ap (λ k. also faulted (quiet (held k m) cs)) caught.core
          ∙ ap (λ b. also faulted (cond b (step2 t p cs (held synced.core m)) (quiet (held synced.core m) cs))) (sym e ∙ caught.further)
