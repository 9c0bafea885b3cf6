-- Demand 3: the two judgements of lateness agree, over any accepted calls from an opening with refused calls anywhere between, for every watch.
-- Assumes nothing.
use mathlib.Core.Path.{◌≡◌, refl, sym, ap, ap₂, ◌∙◌, subst}
use mathlib.Core.Bool.{Bool, true, false, cond}
use mathlib.Core.List.{List, [], ◌∷◌, ◌++◌, map, flatten, append-nil, append_assoc}
use Prim.Native.Nat.{ℕ, zero, suc, ◌≤◌, ◌<◌, zero-le}
use native.Mathlib.Omega.{arith}
use lib.Dec.{eqb}
use lib.ListN.{length, get_or-replicate}
use Rattle.lists.proofs.Tests.{cond_either}
use Rattle.lateness.specs.Gaps.{Rising, due_of, arrives, gaps, lived, Seen, act, live, Ordered, watched, lives, judged, Fresh, view_of}
use Rattle.lateness.specs.Logs.{Call, clock, packet, time_of}
use Rattle.lateness.proofs.Agree.{agree}
use Rattle.lateness.proofs.Logs.{live_acts, ordered_acts}
use Rattle.events.specs.declared.Event.{Event}
use Rattle.events.specs.Faults.{late}
use Rattle.events.specs.Events.{event_at}
use Rattle.watches.specs.Tables.{fixed_tables, table_of}
use Rattle.calls.specs.Cores.{listed, late_of, opened}
use Rattle.calls.specs.Steps.{step1}
use Rattle.calls.specs.Calls.{Result, held_of}
use Rattle.demands.specs.Runs.{Given, Asked, lending, call_of, after_call, IsAccepted, along, Each, OwnTable, taken, calls_of, opening, Opened}
use Rattle.demands.specs.Refused.{Refused}
use Rattle.demands.specs.Listening.{Listener, Heard, table, page, index, listen1, opened_listener, listener_of}
use Rattle.demands.specs.Judgements.{Watched, fixed, programme, limits_of, fault_of, id_of, IsWatched, late_for, on_watch, late_by, live_late, acts_of_all, seen_by, watched_from, other_late, is_named, arrived_at, arrivals_of, latest_of}
use Rattle.demands.specs.Pages.{found}
use Rattle.demands.proofs.Watches.{watch_in}
use Rattle.demands.proofs.Follows.{Has, Follows, follows_1}
use Rattle.demands.proofs.Late.{stamps_of, late_for_stamps, late_due, late_unnamed, paired_once, stamps_of_append}
use Rattle.demands.proofs.Packets.{none_stamps, packet_none_late}
use Rattle.demands.proofs.Accepted.{accepted_of, accepted_after, call_accepted, AcceptedOwn, after_accepted, entries_accepted, order_accepted, opened_given, opening_accepted}
use Rattle.demands.proofs.Refusals.{accepted_or_refused, demand_1, each_map, each_taken, along_taken}

-- five fixed tables have gap starts
abbrev pub Five : Given → Type 0
Five g = length g.state.core.since ≡ length fixed_tables

five_has : (w : Watched) (g : Given) → IsWatched w → Five g → Has w g.state.core.since
five_has (fixed k) g h e = omega arith
five_has (programme n q) g h e = tt

five_after : (g : Given) (c : Call (List ℕ)) → Five g → Five (accepted_after g c)
five_after g (clock t) five = five
five_after g (packet t p) five = (follows_1 (programme 0 0) t p g.counters (held_of g.state g.memory) tt).keeps ∙ five

pub five_call : (g : Given) (a : Asked) → Five g → Five (after_call g a)
five_call g a five =
    let k = lending g a.table in
    accepted_or_refused g a
    (λ e. ap (λ (x : Result). length x.state.core.since) (call_accepted a.capacity k a.call e) ∙ five_after k a.call five)
    (λ refused. ap (λ (x : Given). length x.state.core.since) (demand_1 g a refused).given ∙ five)

abbrev pub listener_at : Given → Listener
listener_at g = listener_of (held_of g.state g.memory) g.counters

-- the stamps of what is handed over
abbrev pub stamps_by : Watched → Given → Asked → List ℕ
stamps_by w g a = cond (on_watch w g.state.core) (stamps_of (fault_of w) (id_of w) (call_of g a).events) []

abbrev live_stamps : Watched → Given → List Asked → List ℕ
live_stamps w g log = flatten (along (stamps_by w) g log)

abbrev pub stamped : Watched → List ℕ → List Event
stamped w ss = map (λ x. event_at x (fault_of w) late (id_of w)) ss

stamped_append : (w : Watched) (xs ys : List ℕ) → stamped w (xs ++ ys) ≡ stamped w xs ++ stamped w ys
stamped_append w [] ys = refl
stamped_append w (x ∷ xs) ys = ap (λ z. event_at x (fault_of w) late (id_of w) ∷ z) (stamped_append w xs ys)

late_by_stamps : (w : Watched) (g : Given) (a : Asked) → late_by w g a ≡ stamped w (stamps_by w g a)
late_by_stamps w g a = go (on_watch w g.state.core)
  where
    go : (b : Bool)
        → cond b (late_for (fault_of w) (id_of w) (call_of g a).events) [] ≡ stamped w (cond b (stamps_of (fault_of w) (id_of w) (call_of g a).events) [])
    go true = late_for_stamps (fault_of w) (id_of w) (call_of g a).events
    go false = refl

live_late_stamps : (w : Watched) (log : List Asked) (g : Given) → live_late w g log ≡ stamped w (live_stamps w g log)
unfolding flatten
live_late_stamps w [] g = refl
live_late_stamps w (a ∷ log) g =
    ap₂ (λ x y. x ++ y) (late_by_stamps w g a) (live_late_stamps w log (after_call g a))
    ∙ sym (stamped_append w (stamps_by w g a) (live_stamps w (after_call g a) log))

-- a refused call hands over nothing
pub late_by_refused : (w : Watched) (g : Given) (a : Asked) → Refused g a → late_by w g a ≡ []
unfolding late_for
late_by_refused w g a refused =
    ap (λ es. cond (on_watch w g.state.core) (late_for (fault_of w) (id_of w) es) []) (demand_1 g a refused).silent
    ∙ cond_either (λ (x : List Event). x ≡ []) (on_watch w g.state.core) [] [] refl refl

-- a packet's own events are no late events
accepted_stamps : (f i : ℕ) (g : Given) (c : Call (List ℕ))
    → stamps_of f i (accepted_of g c).events ≡ stamps_of f i (late_of g.state.latest (time_of c) g.state.core)
accepted_stamps f i g (clock t) = refl
accepted_stamps f i g (packet t p) =
    let x = step1 t p g.counters (held_of g.state g.memory) in
    stamps_of_append f i (late_of g.state.latest t g.state.core) x.events
    ∙ ap (λ z. stamps_of f i (late_of g.state.latest t g.state.core) ++ z)
    (none_stamps f i x.events (packet_none_late t p g.counters (held_of g.state g.memory)))
    ∙ append-nil (stamps_of f i (late_of g.state.latest t g.state.core))

module _ (w : Watched) (is : IsWatched w) where
  -- ONE CALL: its late events with the watch's name are what falls due
  pub call_stamps : (g : Given) (a : Asked) → Five g → IsAccepted g a
      → stamps_by w g a ≡ due_of (limits_of w) (watch_in w g.state.core) g.state.latest (time_of a.call)
  call_stamps g a five e =
      let k = lending g a.table in
      ap (λ (x : Result). cond (on_watch w g.state.core) (stamps_of (fault_of w) (id_of w) x.events) []) (call_accepted a.capacity k a.call e)
      ∙ ap (λ z. cond (on_watch w g.state.core) z []) (accepted_stamps (fault_of w) (id_of w) k a.call)
      ∙ late_due w g.state.latest (time_of a.call) g.state.core is five (entries_accepted g a e)

  pub call_late : (g : Given) (a : Asked) → Five g → IsAccepted g a
      → late_by w g a ≡ stamped w (due_of (limits_of w) (watch_in w g.state.core) g.state.latest (time_of a.call))
  call_late g a five e = late_by_stamps w g a ∙ ap (stamped w) (call_stamps g a five e)

  follows : (g : Given) (t : ℕ) (p : List ℕ) → Five g
      → Follows w t g.state.core (step1 t p g.counters (held_of g.state g.memory)).held
      (step1 t p g.counters (held_of g.state g.memory)).counters (listen1 p (listener_at g))
  follows g t p five = follows_1 w t p g.counters (held_of g.state g.memory) (five_has w g is five)

  -- A LOG: what it hands over of the watch is the live judgement of what the listener hears
  live_log : (log : List Asked) (g : Given) → Five g → Each AcceptedOwn g log
      → live_stamps w g log ≡ live (limits_of w) g.state.latest (watch_in w g.state.core) (seen_by w (listener_at g) (calls_of log))
  unfolding flatten
  live_log [] g five h = refl
  live_log (a ∷ log) g five h =
      let next = after_accepted g a h.0 in
      ap₂ (λ x y. x ++ y) (call_stamps g a five h.0.0)
      (ap (λ x. live_stamps w x log) next
      ∙ live_log log (accepted_after g a.call) (five_after g a.call five) (subst (λ x. Each AcceptedOwn x log) next h.1))
      ∙ heard a.call
    where
      heard : (d : Call (List ℕ))
          → due_of (limits_of w) (watch_in w g.state.core) g.state.latest (time_of d)
          ++ live (limits_of w) (accepted_after g d).state.latest (watch_in w (accepted_after g d).state.core) (seen_by w (listener_at (accepted_after g d)) (calls_of log))
          ≡ live (limits_of w) g.state.latest (watch_in w g.state.core) (seen_by w (listener_at g) (d ∷ calls_of log))
      heard (clock t) = refl
      heard (packet t p) =
          let f = follows g t p five in
          let x = listen1 p (listener_at g) in
          ap (λ z. due_of (limits_of w) (watch_in w g.state.core) g.state.latest t ++ z)
          (ap₂ (λ v l. live (limits_of w) t v (seen_by w l (calls_of log))) f.moves (sym f.same)
          ∙ sym (live_acts (limits_of w) t (acts_of_all w x.heard) (watch_in w g.state.core) (seen_by w x.listener (calls_of log))))

  -- times never fall
  log_ordered : (log : List Asked) (g : Given) (l : Listener) → Each AcceptedOwn g log → Ordered g.state.latest (seen_by w l (calls_of log))
  log_ordered [] g l h = tt
  log_ordered (a ∷ log) g l h =
      go a.call (order_accepted g a h.0.0)
      (λ k. log_ordered log (accepted_after g a.call) k (subst (λ x. Each AcceptedOwn x log) (after_accepted g a h.0) h.1))
    where
      go : (c : Call (List ℕ)) → g.state.latest ≤ time_of c
          → ((k : Listener) → Ordered (accepted_after g c).state.latest (seen_by w k (calls_of log))) → Ordered g.state.latest (seen_by w l (c ∷ calls_of log))
      go (clock t) e ih = (e, ih l)
      go (packet t p) e ih = (
        e,
        ordered_acts t (acts_of_all w (listen1 p l).heard) (seen_by w (listen1 p l).listener (calls_of log)) (ih (listen1 p l).listener),
      )

-- each watch has one limit
table_limit : (k : ℕ) → (l : ℕ) × ((table_of k).limits ≡ l ∷ [])
table_limit zero = (_, refl)
table_limit (suc zero) = (_, refl)
table_limit (suc (suc zero)) = (_, refl)
table_limit (suc (suc (suc zero))) = (_, refl)
table_limit (suc (suc (suc (suc zero)))) = (_, refl)
table_limit (suc (suc (suc (suc (suc k))))) = (_, refl)

pub one_limit_lem : (w : Watched) → (l : ℕ) × (limits_of w ≡ l ∷ [])
one_limit_lem (fixed k) = table_limit k
one_limit_lem (programme n q) = (_, refl)

rising : (w : Watched) → Rising (limits_of w)
rising w = subst Rising (sym (one_limit_lem w).1) (zero-le, tt)

opened_watch : (w : Watched) (t : ℕ) → IsWatched w → (Fresh t (watch_in w (opened t))) × (view_of (watch_in w (opened t)) ≡ watched_from w t)
unfolding found
opened_watch (fixed k) t h = (get_or-replicate 5 k t 0 h, ap (λ s. watched s []) (get_or-replicate 5 k t 0 h))
opened_watch (programme n q) t h = (tt, refl)

-- the accepted calls of a log alone: each is accepted, and takes the log's own counter table
pub own_taken : (log : List Asked) (g : Given) → OwnTable g log → Each AcceptedOwn g (taken g log)
own_taken log g owned = each_taken AcceptedOwn log g (each_map (λ k a h e. (e, h e)) log g owned)

-- DEMAND 3
pub demand_3 : (w : Watched) → IsWatched w → (t : ℕ) (counters m : List ℕ) (log : List Asked) → Opened t counters m
    → OwnTable (opening t counters m) log → live_late w (opening t counters m) log ≡ other_late w t m (calls_of (taken (opening t counters m) log))
demand_3 w is t counters m log o owned =
    let g = opening t counters m in
    let calls = calls_of (taken g log) in
    let begun : g ≡ opened_given t m = opening_accepted t counters m o.accepted in
    let each : Each AcceptedOwn (opened_given t m) (taken g log) = subst (λ x. Each AcceptedOwn x (taken g log)) begun (own_taken log g owned) in
    let fresh = opened_watch w t is in
    along_taken (late_by w) (late_by_refused w) log g
    ∙ ap (λ x. live_late w x (taken g log)) begun
    ∙ live_late_stamps w (taken g log) (opened_given t m)
    ∙ ap (stamped w)
    (live_log w is (taken g log) (opened_given t m) refl each
    ∙ agree (limits_of w) (rising w) (seen_by w (opened_listener m) calls) t (watch_in w (opened t)) fresh.0 (log_ordered w is (taken g log) (opened_given t m) (opened_listener m) each)
    ∙ ap (λ v. judged (limits_of w) (lives t v (seen_by w (opened_listener m) calls))) fresh.1)

-- NO OTHER LATE EVENT: one of a name that no watch has is handed over by no call
pub no_other_late : (f i : ℕ) (g : Given) (a : Asked) → IsAccepted g a → is_named f i g.state.core ≡ false
    → late_for f i (call_of g a).events ≡ []
no_other_late f i g a e h =
    let k = lending g a.table in
    ap (λ (x : Result). late_for f i x.events) (call_accepted a.capacity k a.call e)
    ∙ late_for_stamps f i (accepted_of k a.call).events
    ∙ ap (map (λ x. event_at x f late i)) (accepted_stamps f i k a.call ∙ late_unnamed f i g.state.latest (time_of a.call) g.state.core h)

-- ONE WATCH TO A NAME: where a call is accepted, a listed number has one PID
pub one_watch : (n q r : ℕ) (g : Given) (a : Asked) → IsAccepted g a
    → on_watch (programme n q) g.state.core ≡ true → on_watch (programme n r) g.state.core ≡ true → q ≡ r
one_watch n q r g a e = paired_once n q r (listed g.state.core) (entries_accepted g a e)

-- A FIXED TABLE has one life: from the opening, with the arrivals of its good sections, to the latest accepted time
arrived_life : (k t b : ℕ) (hs : List Heard) (ar : List ℕ) (os : List Seen)
    → lives t (watched b ar) (map act (acts_of_all (fixed k) hs) ++ os) ≡ lives t (watched b (ar ++ arrived_at k t hs)) os
arrived_life k t b [] ar os = ap (λ z. lives t (watched b z) os) (sym (append-nil ar))
arrived_life k t b (table j ∷ hs) ar os = go (eqb k j) (λ br. arrived_life k t b hs br os)
  where
    go : (d : Bool)
        → ((br : List ℕ) → lives t (watched b br) (map act (acts_of_all (fixed k) hs) ++ os) ≡ lives t (watched b (br ++ arrived_at k t hs)) os)
        → lives t (watched b ar) (map act (cond d (arrives ∷ []) [] ++ acts_of_all (fixed k) hs) ++ os)
        ≡ lives t (watched b (ar ++ (cond d (t ∷ []) [] ++ arrived_at k t hs))) os
    go true ih = ih (ar ++ (t ∷ [])) ∙ ap (λ z. lives t (watched b z) os) (append_assoc ar (t ∷ []) (arrived_at k t hs))
    go false ih = ih ar
arrived_life k t b (page n q ∷ hs) ar os = arrived_life k t b hs ar os
arrived_life k t b (index old new ∷ hs) ar os = arrived_life k t b hs ar os

fixed_life : (k b : ℕ) (cs : List (Call (List ℕ))) (t : ℕ) (l : Listener) (ar : List ℕ)
    → lives t (watched b ar) (seen_by (fixed k) l cs) ≡ lived b (ar ++ arrivals_of k l cs) (latest_of t cs) ∷ []
fixed_life k b [] t l ar = ap (λ z. lived b z t ∷ []) (sym (append-nil ar))
fixed_life k b (clock t ∷ cs) s l ar = fixed_life k b cs t l ar
fixed_life k b (packet t p ∷ cs) s l ar =
    arrived_life k t b (listen1 p l).heard ar (seen_by (fixed k) (listen1 p l).listener cs)
    ∙ fixed_life k b cs t (listen1 p l).listener (ar ++ arrived_at k t (listen1 p l).heard)
    ∙ ap (λ z. lived b z (latest_of t cs) ∷ []) (append_assoc ar (arrived_at k t (listen1 p l).heard) (arrivals_of k (listen1 p l).listener cs))

pub demand_3_fixed : (k : ℕ) → k < length fixed_tables → (t : ℕ) (counters m : List ℕ) (log : List Asked) → Opened t counters m
    → OwnTable (opening t counters m) log
    → live_late (fixed k) (opening t counters m) log
    ≡ map (λ x. event_at x (table_of k).fault late (table_of k).pid)
    (gaps (table_of k).limits t (arrivals_of k (opened_listener m) (calls_of (taken (opening t counters m) log)))
    (latest_of t (calls_of (taken (opening t counters m) log))))
demand_3_fixed k h t counters m log o owned =
    let calls = calls_of (taken (opening t counters m) log) in
    demand_3 (fixed k) h t counters m log o owned
    ∙ ap (stamped (fixed k))
    (ap (judged (table_of k).limits) (fixed_life k t calls t (opened_listener m) [])
    ∙ append-nil (gaps (table_of k).limits t (arrivals_of k (opened_listener m) calls) (latest_of t calls)))
