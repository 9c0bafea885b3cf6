-- The listener goes with the engine: the engine's core without its gap starts is the listener, step by step, and each watch moves by what the
-- listener hears. Assumes nothing.
use mathlib.Core.Path.{◌≡◌, refl, sym, ap, ap₂, ◌∙◌, subst}
use mathlib.Core.Bool.{Bool, true, false, cond, ◌||◌}
use mathlib.Core.List.{List, [], ◌∷◌, ◌++◌, map, append-nil}
use Prim.Native.Nat.{ℕ, ◌<◌}
use native.Mathlib.Omega.{arith}
use lib.Dec.{eqb, ltb}
use lib.ListN.{length, get_or, set, length-set}
use Rattle.lateness.specs.Gaps.{Watch, on, acted}
use Rattle.watches.specs.declared.Entry.{Entry}
use Rattle.header.specs.Header.{right_sync, error_bit, unit_start, pid_of, scrambled_bits, control_of, payload_of}
use Rattle.continuity.specs.declared.Counted.{Counted}
use Rattle.sections.specs.declared.Outcome.{Outcome}
use Rattle.sections.specs.declared.Outcome.TheVariants.{Unfinished, Good, Fault, Silent}
use Rattle.sections.specs.Rooms.{room_count, pat_room}
use Rattle.sections.specs.Building.{Finished, Job}
use Rattle.sections.specs.Outcomes.{is_pmt_room, outcome_of}
use Rattle.programmes.specs.Listing.{null_pid}
use Rattle.calls.specs.declared.Core.{Core}
use Rattle.calls.specs.Cores.{listed, Held, room_for, dropped_room}
use Rattle.calls.specs.Sync.{Synced, synced_of, while_lost, in_sync}
use Rattle.calls.specs.Steps.{arrival, AfterStep, Absorbed, arrived_table, arrived_programme, new_list, listed_by, relisted, arrived_in, bytes_of, absorbed_by, absorbed, absorbed_all, built_in, job_of, sections_taken, payload_taken, counted, step1, step2, step3, step4, step5, touched}
use Rattle.demands.specs.Listening.{Pair, Listener, table, page, Listening, paired, quiet, pair_of, listener_listed, index_heard, page_heard, heard_in, heard_by, heard_one, heard_all, payload_heard, listener_dropped, listen5, listener_counted, listen4, listen3, listen2, sync_of, listener_synced, listen1, listener_of}
use Rattle.demands.specs.Judgements.{Watched, fixed, programme, acts_of, acts_of_all}
use Rattle.demands.specs.Pages.{found}
use Rattle.demands.proofs.Lists.{room_on_listed, moved_halves_plain, moved_bytes_plain, take_front, pairs_in_read}
use Rattle.demands.proofs.Watches.{watch_by, watch_in, get_or_arrived, found_page, found_index, acted_append, acts_of_all_append}

-- a fixed table has a gap start
abbrev pub Has : Watched → List ℕ → Type 0
Has (fixed k) ss = k < length ss
Has (programme n q) ss = Unit

-- from the core c to what is held now, the watch moves by what is heard, and the listener is the engine without gap starts
pub record Follows (w : Watched) (t : ℕ) (c : Core) (h : Held) (counters : List ℕ) (x : Listening) : Type 0 where
  pub same : x.listener ≡ listener_of h counters
  pub moves : watch_in w h.core ≡ acted t (watch_in w c) (acts_of_all w x.heard)
  pub keeps : length h.core.since ≡ length c.since

pub has_kept : (w : Watched) (ss rs : List ℕ) → length rs ≡ length ss → Has w ss → Has w rs
has_kept (fixed k) ss rs e h = omega arith
has_kept (programme n q) ss rs e h = tt

-- an arrival leaves numbers and PIDs as they are
pairs_touched : (n q t : ℕ) (es : List Entry) → map pair_of (map (touched n q t) es) ≡ map pair_of es
pairs_touched n q t [] = refl
pairs_touched n q t (e ∷ es) = ap (λ z. pair_of e ∷ z) (pairs_touched n q t es)

abbrev with_pairs : Listener → List Pair → Listener
with_pairs l ps = record { lost = l.lost; run = l.run; list = ps; half = l.half; memory = l.memory; counters = l.counters }

-- what holds of both branches of two choices by one test
cond_both : {A B : Type 0} (P : A → B → Type 0) (b : Bool) (x y : A) (u v : B) → P x u → P y v → P (cond b x y) (cond b u v)
cond_both P true x y u v p q = p
cond_both P false x y u v p q = q

-- sync moves no watch
pub record Heeds (h : Held) (counters : List ℕ) (y z : Synced) : Type 0 where
  pub further : y.further ≡ z.further
  pub same : listener_synced z.core (listener_of h counters) ≡ listener_of (record { core = y.core; memory = h.memory }) counters
  pub since : y.core.since ≡ h.core.since
  pub list : listed y.core ≡ listed h.core

pub heeds_sync : (right : Bool) (h : Held) (counters : List ℕ) → Heeds h counters (synced_of right h.core) (synced_of right (sync_of (listener_of h counters)))
heeds_sync right h counters =
    cond_both (Heeds h counters) h.core.lost _ _ _ _ (lost right) (inside right)
  where
    lost : (b : Bool) → Heeds h counters (while_lost b h.core) (while_lost b (sync_of (listener_of h counters)))
    lost true =
        cond_both (Heeds h counters) (eqb h.core.run 4) _ _ _ _
        (record { further = refl; same = refl; since = refl; list = refl }) (record { further = refl; same = refl; since = refl; list = refl })
    lost false = record { further = refl; same = refl; since = refl; list = refl }

    inside : (b : Bool) → Heeds h counters (in_sync b h.core) (in_sync b (sync_of (listener_of h counters)))
    inside true = record { further = refl; same = refl; since = refl; list = refl }
    inside false =
        cond_both (Heeds h counters) (eqb h.core.run 1) _ _ _ _
        (record { further = refl; same = refl; since = refl; list = refl }) (record { further = refl; same = refl; since = refl; list = refl })

module _ (w : Watched) (t : ℕ) where
  -- nothing is heard and no watch moves
  follows_quiet : (h : Held) (counters : List ℕ) → Follows w t h.core h counters (quiet (listener_of h counters))
  follows_quiet h counters = record { same = refl; moves = refl; keeps = refl }

  -- another core with the same watch to begin with
  follows_from : (c d : Core) (h : Held) (counters : List ℕ) (x : Listening) → watch_in w d ≡ watch_in w c → length d.since ≡ length c.since
      → Follows w t d h counters x → Follows w t c h counters x
  follows_from c d h counters x e l f =
      record { same = f.same; moves = f.moves ∙ ap (λ v. acted t v (acts_of_all w x.heard)) e; keeps = f.keeps ∙ l }

  -- A GOOD SECTION
  follows_table : (r : ℕ) (h : Held) (counters : List ℕ) → Has w h.core.since
      → Follows w t h.core (record { core = arrived_table t r h.core; memory = h.memory }) counters
      (record { listener = listener_of h counters; heard = table r ∷ [] })
  follows_table r h counters has = record { same = refl; moves = go w has; keeps = length-set h.core.since r t }
    where
      go : (v : Watched) → Has v h.core.since → watch_in v (arrived_table t r h.core) ≡ acted t (watch_in v h.core) (acts_of_all v (table r ∷ []))
      go (fixed k) g = rw append-nil (get_or_arrived k r t h.core.since g)
      go (programme n q) g = refl

  follows_page : (n pid : ℕ) (h : Held) (counters : List ℕ)
      → Follows w t h.core (record { core = arrived_programme n pid t h.core; memory = h.memory }) counters
      (record { listener = listener_of h counters; heard = page_heard n pid (map pair_of (listed h.core)) })
  follows_page n pid h counters =
      let e = take_front (touched n pid t) h.core.count h.core.entries in
      record {
        same = ap (with_pairs (listener_of h counters)) (sym (ap (map pair_of) e ∙ pairs_touched n pid t (listed h.core)));
        moves = go w e;
        keeps = refl;
      }
    where
      none : (k : ℕ) (b : Bool) (v : Watch) → v ≡ acted t v (acts_of_all (fixed k) (cond b (page n pid ∷ []) []))
      none k true v = refl
      none k false v = refl

      go : (v : Watched) → listed (arrived_programme n pid t h.core) ≡ map (touched n pid t) (listed h.core)
          → watch_in v (arrived_programme n pid t h.core) ≡ acted t (watch_in v h.core) (acts_of_all v (page_heard n pid (map pair_of (listed h.core))))
      go (fixed k) e = none k (paired n pid (map pair_of (listed h.core))) (on (get_or h.core.since k 0))
      go (programme m q) e = ap (found m q) e ∙ found_page m q n pid t (listed h.core)

  follows_index : (s : List ℕ) (h : Held) (counters : List ℕ) → Has w h.core.since
      → Follows w t h.core (relisted t s h) counters (index_heard s (listener_of h counters))
  follows_index s h counters has =
      record {
        same =
            ap (λ ps. listener_listed ps (listener_of h counters)) (pairs_in_read t (listed h.core) s)
            ∙ ap₂ moved (moved_halves_plain (listed h.core) (listed_by (new_list t s h.core)) h.core.half)
            (moved_bytes_plain (listed h.core) (listed_by (new_list t s h.core)) h.core.half h.memory);
        moves = go w has;
        keeps = length-set h.core.since pat_room t;
      }
    where
      moved : List ℕ → List ℕ → Listener
      moved ns m =
          record {
            lost = h.core.lost;
            run = h.core.run;
            list = map pair_of (listed_by (new_list t s h.core));
            half = ns;
            memory = m;
            counters = counters;
          }

      go : (v : Watched) → Has v h.core.since
          → watch_in v (relisted t s h).core ≡ acted t (watch_in v h.core) (acts_of_all v (index_heard s (listener_of h counters)).heard)
      go (fixed k) g = rw (append-nil (acts_of (fixed k) (table pat_room))) (get_or_arrived k pat_room t h.core.since g)
      go (programme n q) g = rw append-nil (found_index n q t (listed h.core) s)

  follows_arrived : (r pid n : ℕ) (s : List ℕ) (h : Held) (counters : List ℕ) → Has w h.core.since
      → Follows w t h.core (arrived_in (arrival t r pid) n s h) counters (heard_in r pid n s (listener_of h counters))
  follows_arrived r pid n s h counters has =
      cond_both (λ g x. Follows w t h.core g counters x) (eqb r pat_room) _ _ _ _ (follows_index s h counters has)
      (cond_both (λ c x. Follows w t h.core (record { core = c; memory = h.memory }) counters x) (is_pmt_room r) _ _ _ _
      (follows_page n pid h counters) (follows_table r h counters has))

  -- FINISHED SECTIONS
  follows_by : (o : Outcome) (r pid : ℕ) (s : List ℕ) (h : Held) (counters : List ℕ) → Has w h.core.since
      → Follows w t h.core (absorbed_by o (arrival t r pid) s h).held counters (heard_by o r pid s (listener_of h counters))
  follows_by Unfinished r pid s h counters has = follows_quiet h counters
  follows_by (Good n) r pid s h counters has = follows_arrived r pid n s h counters has
  follows_by (Fault f c i) r pid s h counters has = follows_quiet h counters
  follows_by Silent r pid s h counters has = follows_quiet h counters

  -- one thing after another
  follows_on : (c : Core) (h g : Held) (counters rest : List ℕ) (x y : Listening) → Follows w t c h counters x → Follows w t h.core g rest y
      → Follows w t c g rest (record { listener = y.listener; heard = x.heard ++ y.heard })
  follows_on c h g counters rest x y a b =
      record {
        same = b.same;
        moves =
            b.moves
            ∙ ap (λ v. acted t v (acts_of_all w y.heard)) a.moves
            ∙ sym (acted_append t (acts_of_all w x.heard) (acts_of_all w y.heard) (watch_in w c))
            ∙ ap (acted t (watch_in w c)) (sym (acts_of_all_append w x.heard y.heard));
        keeps = b.keeps ∙ a.keeps;
      }

  follows_all : (r pid : ℕ) (fs : List Finished) (h : Held) (counters : List ℕ) → Has w h.core.since
      → Follows w t h.core (absorbed_all (arrival t r pid) fs h).held counters (heard_all r pid fs (listener_of h counters))
  unfolding absorbed_all heard_all
  follows_all r pid [] h counters has = follows_quiet h counters
  follows_all r pid (f ∷ fs) h counters has =
      let a = follows_by (outcome_of r pid f) r pid (bytes_of f) h counters has in
      let g = (absorbed (arrival t r pid) f h).held in
      rw a.same
      (follows_on h.core g (absorbed_all (arrival t r pid) fs g).held counters counters (heard_one r pid f (listener_of h counters))
      (heard_all r pid fs (listener_of g counters)) a (follows_all r pid fs g counters (has_kept w h.core.since g.core.since a.keeps has)))

  -- THE PAYLOAD
  follows_payload : (r : ℕ) (p : List ℕ) (h : Held) (counters : List ℕ) → Has w h.core.since
      → Follows w t h.core (payload_taken (arrival t r (pid_of p)) p h).held counters (payload_heard r p (listener_of h counters))
  unfolding sections_taken
  follows_payload r p h counters has =
      cond_both (λ (a : Absorbed) x. Follows w t h.core a.held counters x) (ltb r room_count) _ _ _ _
      (follows_from h.core (built_in r j h).core (absorbed_all (arrival t r (pid_of p)) j.finished (built_in r j h)).held counters
      (heard_all r (pid_of p) j.finished (listener_of (built_in r j h) counters)) refl refl
      (follows_all r (pid_of p) j.finished (built_in r j h) counters has))
      (follows_quiet h counters)
    where
      j : Job
      j = job_of r (unit_start p) (payload_of p) h

  -- THE STEPS
  abbrev After : Core → AfterStep → Listening → Type 0
  After c s x = Follows w t c s.held s.counters x

  follows_5 : (p : List ℕ) (take : Bool) (h : Held) (counters : List ℕ) (r : ℕ) → room_for h.core (pid_of p) ≡ r → Has w h.core.since
      → After h.core (step5 t p take counters h) (listen5 r p take (listener_of h counters))
  follows_5 p take h counters r e has =
      subst (λ (k : ℕ). After h.core (step5 t p take counters h) (listen5 k p take (listener_of h counters))) e
      (cond_both (After h.core) (scrambled_bits p) _ _ _ _ (record { same = refl; moves = refl; keeps = refl })
      (cond_both (After h.core) take _ _ _ _ (follows_payload (room_for h.core (pid_of p)) p h counters has) (follows_quiet h counters)))

  -- a half-built section that is listener_dropped is in the same room as before
  room_for_dropped : (r q : ℕ) (h : Held) → room_for (dropped_room r h).core q ≡ room_for h.core q
  unfolding room_for
  room_for_dropped r q h = refl

  follows_4 : (p : List ℕ) (counters : List ℕ) (h : Held) → Has w h.core.since → After h.core (step4 t p counters h) (listen4 p (listener_of h counters))
  follows_4 p counters h has =
      subst (λ (k : ℕ). After h.core (step4 t p counters h) (listen_in k j.keep)) (sym (room_on_listed h.core (pid_of p))) (go j.keep)
    where
      j : Counted
      j = counted p counters

      r : ℕ
      r = room_for h.core (pid_of p)

      rest : List ℕ
      rest = set counters (pid_of p) j.byte

      listen_in : ℕ → Bool → Listening
      listen_in k keep = listen5 k p j.take (listener_counted p j.byte (cond keep (listener_of h counters) (listener_dropped k (listener_of h counters))))

      go : (keep : Bool) → After h.core (step5 t p j.take rest (cond keep h (dropped_room r h))) (listen_in r keep)
      go true = follows_5 p j.take h rest r refl has
      go false =
          let d = dropped_room r h in
          follows_from h.core d.core (step5 t p j.take rest d).held (step5 t p j.take rest d).counters
          (listen5 r p j.take (listener_of d rest)) refl refl (follows_5 p j.take d rest r (room_for_dropped r (pid_of p) h) has)

  follows_3 : (p : List ℕ) (counters : List ℕ) (h : Held) → Has w h.core.since → After h.core (step3 t p counters h) (listen3 p (listener_of h counters))
  follows_3 p counters h has =
      cond_both (After h.core) (eqb (pid_of p) null_pid || eqb (control_of p) 0) _ _ _ _ (follows_quiet h counters) (follows_4 p counters h has)

  follows_2 : (p : List ℕ) (counters : List ℕ) (h : Held) → Has w h.core.since → After h.core (step2 t p counters h) (listen2 p (listener_of h counters))
  follows_2 p counters h has = cond_both (After h.core) (error_bit p) _ _ _ _ (follows_quiet h counters) (follows_3 p counters h has)

  abbrev quiet_step : Held → List ℕ → AfterStep
  quiet_step g counters = record { held = g; counters = counters; events = [] }

  follows_synced : (p : List ℕ) (counters : List ℕ) (h : Held) (y z : Synced) → Has w h.core.since → Heeds h counters y z
      → After h.core
      (cond y.further (step2 t p counters (record { core = y.core; memory = h.memory })) (quiet_step (record { core = y.core; memory = h.memory }) counters))
      (cond z.further (listen2 p (listener_synced z.core (listener_of h counters))) (quiet (listener_synced z.core (listener_of h counters))))
  follows_synced p counters h y z has e = go y.further z.further e.further (listener_synced z.core (listener_of h counters)) e.same
    where
      g : Held
      g = record { core = y.core; memory = h.memory }

      since : length g.core.since ≡ length h.core.since
      since = ap length e.since

      from : (d : Held) (rest : List ℕ) (x : Listening) → Follows w t g.core d rest x → Follows w t h.core d rest x
      from d rest x = follows_from h.core g.core d rest x (ap₂ (watch_by w) e.since e.list) since

      at : (b : Bool) → After h.core (cond b (step2 t p counters g) (quiet_step g counters)) (cond b (listen2 p (listener_of g counters)) (quiet (listener_of g counters)))
      at true =
          from (step2 t p counters g).held (step2 t p counters g).counters (listen2 p (listener_of g counters))
          (follows_2 p counters g (has_kept w h.core.since g.core.since since has))
      at false = from g counters (quiet (listener_of g counters)) (follows_quiet g counters)

      go : (b d : Bool) → b ≡ d → (l : Listener) → l ≡ listener_of g counters
          → After h.core (cond b (step2 t p counters g) (quiet_step g counters)) (cond d (listen2 p l) (quiet l))
      go b d bd l le =
          subst (λ (x : Bool). After h.core (cond b (step2 t p counters g) (quiet_step g counters)) (cond x (listen2 p l) (quiet l))) bd
          (subst (λ (k : Listener). After h.core (cond b (step2 t p counters g) (quiet_step g counters)) (cond b (listen2 p k) (quiet k))) (sym le) (at b))

  pub follows_1 : (p : List ℕ) (counters : List ℕ) (h : Held) → Has w h.core.since → After h.core (step1 t p counters h) (listen1 p (listener_of h counters))
  unfolding step1 listen1
  follows_1 p counters h has =
      follows_synced p counters h (synced_of (right_sync p) h.core) (synced_of (right_sync p) (sync_of (listener_of h counters))) has
      (heeds_sync (right_sync p) h counters)

-- THE LISTENER IS THE ENGINE WITHOUT GAP STARTS, after every packet
pub listener_follows : (t : ℕ) (p counters : List ℕ) (h : Held)
    → (listen1 p (listener_of h counters)).listener ≡ listener_of (step1 t p counters h).held (step1 t p counters h).counters
listener_follows t p counters h = (follows_1 (programme 0 0) t p counters h tt).same
