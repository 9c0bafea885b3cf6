-- The consequence of document 01, "Watches and lateness": from an opening, with no wrong sync byte in the log, replacing every packet of other PIDs
-- by a clock call at the same time leaves a watch's late events the same, call by call; and the replaced calls are accepted. Refused calls stand
-- anywhere in both logs. Once over the set of kept PIDs. Assumes nothing.
use mathlib.Core.Path.{◌≡◌, refl, sym, ap, ap₂, ◌∙◌, subst}
use mathlib.Core.Bool.{Bool, true, false, cond, ◌&&◌, ◌||◌}
use mathlib.Core.List.{List, [], ◌∷◌, flatten}
use Prim.Native.Nat.{ℕ, ◌≤◌, ◌<◌}
use native.Mathlib.Omega.{arith}
use lib.Dec.{eqb, ltb}
use lib.ListN.{length, get_or, replicate, length-replicate, get_or-eq_default, get_or-replicate}
use borrow.Author.Tests.{eqb-true, eq-eqb, ltb-true}
use Rattle.lists.specs.Places.{part}
use Rattle.lists.proofs.Tests.{Order, below, from, order}
use Rattle.lists.proofs.Table.{passes_at}
use Rattle.lateness.specs.Gaps.{Watch, on, due_of}
use Rattle.lateness.specs.Logs.{Call, clock, packet, time_of, or_clock}
use Rattle.watches.specs.declared.Entry.{Entry}
use Rattle.watches.specs.Tables.{fixed_tables, table_of, pat_pid, latest_time, no_entry}
use Rattle.header.specs.Header.{pid_of}
use Rattle.continuity.specs.Continuity.{known_byte}
use Rattle.sections.specs.Rooms.{memory_size, room_count, greatest_length, half_built}
use Rattle.sections.specs.Section.{stage_of, is_more}
use Rattle.sections.proofs.Stages.{stage_few}
use Rattle.programmes.specs.Listing.{is_pair, most_listed}
use Rattle.calls.specs.Cores.{fixed_room}
use Rattle.calls.specs.Calls.{Result, held_of, table_size}
use Rattle.calls.proofs.Accepted.{open_accepted}
use Rattle.demands.specs.Runs.{Given, call_given, Lent, own, other, Asked, after_call, TakesOwn, Each, AllAccepted, OwnTable, taken, calls_of, opening, Opened}
use Rattle.demands.specs.Judgements.{Watched, fixed, programme, limits_of, IsWatched, late_by, late_each, live_late, other_late}
use Rattle.demands.specs.Others.{replaced_call, replaced_in, replaced, RightSync, NoWrongSync, KeptFor, only_pid, pid_and_index, Quieter, Alone}
use Rattle.demands.specs.Pages.{found}
use Rattle.demands.proofs.Watches.{watch_in}
use Rattle.demands.proofs.Accepted.{accepted_after, AcceptedOwn, call_own, after_accepted, opened_given, opening_accepted}
use Rattle.demands.proofs.Refusals.{each_map, each_both, each_taken, taken_all, along_taken}
use Rattle.demands.proofs.Agreement.{stamped, call_late, late_by_refused, own_taken, demand_3}
use Rattle.demands.proofs.OthersLists.{Alikes, none, next}
use Rattle.demands.proofs.OthersPids.{Shaped, IsFixed}
use Rattle.demands.proofs.OthersAlike.{alike_itself}
use Rattle.calls.proofs.Known.{KnownBytes}
use Rattle.demands.proofs.OthersBeside.{followed, followed_fixed, followed_listed, Beside, accepted_beside, after_beside}

-- AN OPENING is beside itself
opened_shaped : (t : ℕ) (m : List ℕ) → t ≤ latest_time → length m ≡ memory_size → Shaped (held_of (opened_given t m).state m)
unfolding part
opened_shaped t m early size =
    record {
      in_sync = refl;
      run = omega arith;
      memory = size;
      half = length-replicate {A = ℕ} room_count 0;
      since = length-replicate (length fixed_tables) t;
      entries = length-replicate most_listed no_entry;
      count = omega arith;
      more =
          λ r l. ap (λ n. is_more (stage_of (greatest_length r) (half_built m r n))) (get_or-replicate {A = ℕ} room_count r 0 0 l)
          ∙ ap is_more (stage_few (greatest_length r) [] (omega arith));
      times = λ k. go k (order k 5);
      starts = tt;
    }
  where
    go : (k : ℕ) → Order k 5 → get_or (replicate 5 t) k 0 ≤ latest_time
    go k (below l) = rw (get_or-replicate 5 k t 0 l) early
    go k (from l) = rw (get_or-eq_default (replicate 5 t) 0 {n = k} (omega (arith, length-replicate 5 t))) (omega arith)

opened_known : KnownBytes (replicate table_size 0)
opened_known q = ap known_byte (go (order q table_size))
  where
    go : Order q table_size → ◌≡◌ {A = ℕ} (get_or (replicate table_size 0) q 0) 0
    go (below l) = get_or-replicate table_size q 0 0 l
    go (from l) = get_or-eq_default (replicate table_size 0) 0 {n = q} (omega (arith, length-replicate {A = ℕ} table_size 0))

opened_beside : (keep : ℕ → Bool) (t : ℕ) (m : List ℕ) → t ≤ latest_time → length m ≡ memory_size → Beside keep (opened_given t m) (opened_given t m)
opened_beside keep t m early size =
    record {
      latest = refl;
      alike =
          record {
            held = alike_itself (followed keep) (held_of (opened_given t m).state m) (opened_shaped t m early size);
            table = refl;
            byte = λ q z. refl;
          };
      unlisted = λ z. (refl, opened_known);
    }

-- THE WATCH is the same where what it goes by is kept
fixed_pids : (k : ℕ) → k < length fixed_tables → IsFixed (table_of k).pid
unfolding fixed_room
fixed_pids k h =
    ltb-true (fixed_room (table_of k).pid fixed_tables) (length fixed_tables)
    (passes_at (λ i. ltb (fixed_room (table_of i).pid fixed_tables) (length fixed_tables)) (length fixed_tables) refl k h)

found_alike : (mine : ℕ → Bool) (n q : ℕ) → mine q ≡ true → {es ds : List Entry} → Alikes mine es ds → found n q es ≡ found n q ds
unfolding found
found_alike mine n q kept none = refl
found_alike mine n q kept (next {e} {d} {es} {ds} a z) =
    ap₂ (λ (x y : ℕ). cond (eqb x n && eqb y q) (on e.since) (found n q es)) a.number a.pid
    ∙ ap (λ (v : Watch). cond (is_pair n q d) (on e.since) v) (found_alike mine n q kept z)
    ∙ go (eqb d.number n) (eqb d.pid q) refl
  where
    go : (x y : Bool) → eqb d.pid q ≡ y → cond (x && y) (on e.since) (found n q ds) ≡ cond (x && y) (on d.since) (found n q ds)
    go true true h = ap on (a.since (ap mine (a.pid ∙ eqb-true d.pid q h) ∙ kept))
    go true false h = refl
    go false y h = refl

module _ (keep : ℕ → Bool) where
  watch_beside : (w : Watched) → IsWatched w → KeptFor w keep → (g k : Given) → Beside keep g k → watch_in w g.state.core ≡ watch_in w k.state.core
  watch_beside (fixed i) h kept g k b = ap on (b.alike.held.since i h (followed_fixed keep (table_of i).pid kept (fixed_pids i h)))
  watch_beside (programme n q) h kept g k b =
      found_alike (followed keep) n q (followed_listed keep q kept.0 kept.1) (b.alike.held.lists (followed_listed keep pat_pid kept.1 kept.1))

  -- THE REPLACED LOG, call by call
  own_replaced : (c : Call (List ℕ)) (l : Lent) → TakesOwn c l → TakesOwn (replaced_call keep c) l
  own_replaced (clock t) l h = tt
  own_replaced (packet t p) own h = go (keep (pid_of p))
    where
      go : (x : Bool) → TakesOwn (or_clock x t p) own
      go true = tt
      go false = tt
  own_replaced (packet t p) (other foreign) h = absurd h

  accepted_own : (g k : Given) (a : Asked) → Beside keep g k → AcceptedOwn g a → AcceptedOwn k (replaced_in keep a)
  accepted_own g k a b h =
      let mine = own_replaced a.call a.table h.1 in
      let number : (call_given a.capacity g a.call).refusal ≡ 0 = ap (λ (x : Result). x.refusal) (sym (call_own g a h.1)) ∙ h.0 in
      (ap (λ (x : Result). x.refusal) (call_own k (replaced_in keep a) mine) ∙ accepted_beside keep g k b a.capacity a.call number, mine)

  -- the two logs go on side by side
  abbrev Rightly : Given → Asked → Type 0
  Rightly g a = AcceptedOwn g a × RightSync a.call

  next_beside : (g k : Given) (a : Asked) → Beside keep g k → Rightly g a → Beside keep (after_call g a) (after_call k (replaced_in keep a))
  next_beside g k a b h =
      subst (λ (x : Given). Beside keep x (after_call k (replaced_in keep a))) (sym (after_accepted g a h.0))
      (subst (λ (x : Given). Beside keep (accepted_after g a.call) x) (sym (after_accepted k (replaced_in keep a) (accepted_own g k a b h.0)))
      (after_beside keep g k b a.capacity a.call (ap (λ (x : Result). x.refusal) (sym (call_own g a h.0.1)) ∙ h.0.0) h.1))

  each_own : (log : List Asked) (g k : Given) → Beside keep g k → Each Rightly g log → Each AcceptedOwn k (replaced keep log)
  each_own [] g k b h = tt
  each_own (a ∷ log) g k b h = (
    accepted_own g k a b h.0.0,
    each_own log (after_call g a) (after_call k (replaced_in keep a)) (next_beside g k a b h.0) h.1,
  )

  module _ (w : Watched) (is : IsWatched w) (kept : KeptFor w keep) where
    time_replaced : (c : Call (List ℕ)) → time_of (replaced_call keep c) ≡ time_of c
    time_replaced (clock t) = refl
    time_replaced (packet t p) = go (keep (pid_of p))
      where
        go : (x : Bool) → time_of (or_clock x t p) ≡ t
        go true = refl
        go false = refl

    late_beside : (g k : Given) (a : Asked) → Beside keep g k → AcceptedOwn g a → late_by w g a ≡ late_by w k (replaced_in keep a)
    late_beside g k a b h =
        call_late w is g a b.alike.held.left.since h.0
        ∙ ap (λ v. stamped w (due_of (limits_of w) v g.state.latest (time_of a.call))) (watch_beside w is kept g k b)
        ∙ ap₂ (λ p t. stamped w (due_of (limits_of w) (watch_in w k.state.core) p t)) b.latest (sym (time_replaced a.call))
        ∙ sym (call_late w is k (replaced_in keep a) b.alike.held.right.since (accepted_own g k a b h).0)

    each_beside : (log : List Asked) (g k : Given) → Beside keep g k → Each Rightly g log → late_each w g log ≡ late_each w k (replaced keep log)
    each_beside [] g k b h = refl
    each_beside (a ∷ log) g k b h =
        ap₂ (λ x y. x ∷ y) (late_beside g k a b h.0.0)
        (each_beside log (after_call g a) (after_call k (replaced_in keep a)) (next_beside g k a b h.0) h.1)

-- THE CONSEQUENCE, for any set of kept PIDs
module _ (t : ℕ) (counters m : List ℕ) (log : List Asked) (o : Opened t counters m) (owned : OwnTable (opening t counters m) log)
    (right : NoWrongSync (opening t counters m) log) where
  abbrev begun : Given
  begun = opening t counters m

  module _ (keep : ℕ → Bool) where
    beside : Beside keep begun begun
    beside =
        subst (λ (x : Given). Beside keep x x) (sym (opening_accepted t counters m o.accepted))
        (opened_beside keep t m (open_accepted t counters o.accepted).time o.whole)

    rightly : Each (Rightly keep) begun (taken begun log)
    rightly =
        each_both AcceptedOwn (λ g a. RightSync a.call) (taken begun log) begun (own_taken log begun owned)
        (each_taken (λ g a. RightSync a.call) log begun right)

    owned_replaced : Each AcceptedOwn begun (replaced keep (taken begun log))
    owned_replaced = each_own keep (taken begun log) begun begun beside rightly

    -- the replaced calls are accepted, whatever PIDs are kept
    pub accepted_replaced : AllAccepted begun (replaced keep (taken begun log))
    accepted_replaced = each_map (λ g a h. h.0) (replaced keep (taken begun log)) begun owned_replaced

    -- each hands over the same late events of a watch whose own PIDs are kept
    pub late_each_replaced : (w : Watched) → IsWatched w → KeptFor w keep
        → late_each w begun (taken begun log) ≡ late_each w begun (replaced keep (taken begun log))
    late_each_replaced w is kept = each_beside keep w is kept (taken begun log) begun begun beside rightly

    -- and so does every log whose accepted calls they are: by demand 3 the late events go by the accepted calls alone
    pub live_late_replaced : (w : Watched) → IsWatched w → KeptFor w keep → (quieter : List Asked) → Quieter keep begun log quieter
        → live_late w begun log ≡ live_late w begun quieter
    live_late_replaced w is kept quieter q =
        let calls = replaced keep (taken begun log) in
        along_taken (late_by w) (late_by_refused w) log begun
        ∙ ap flatten (late_each_replaced w is kept)
        ∙ demand_3 w is t counters m calls o (each_map (λ g a h e. h.1) calls begun owned_replaced)
        ∙ ap (λ x. other_late w t m (calls_of x)) (taken_all calls begun accepted_replaced)
        ∙ ap (other_late w t m) (sym q.calls)
        ∙ sym (demand_3 w is t counters m quieter o q.table)

    pub watch_alone : (w : Watched) → IsWatched w → KeptFor w keep → Alone w keep begun log
    watch_alone w is kept = record { accepted = accepted_replaced; each = late_each_replaced w is kept; same = live_late_replaced w is kept }

  -- and in the paper's words, for a fixed watch and for a programme's
  pub fixed_watch_alone : (k : ℕ) → k < length fixed_tables → Alone (fixed k) (only_pid (table_of k).pid) begun log
  fixed_watch_alone k h = watch_alone (only_pid (table_of k).pid) (fixed k) h (eq-eqb (table_of k).pid (table_of k).pid refl)

  pub programme_watch_alone : (n q : ℕ) → Alone (programme n q) (pid_and_index q) begun log
  programme_watch_alone n q =
      let keep = pid_and_index q in
      let mine : keep q ≡ true = rw (eq-eqb q q refl) in
      let index : keep pat_pid ≡ true = last (eqb pat_pid q) in
      watch_alone keep (programme n q) tt (mine, index)
    where
      last : (b : Bool) → (b || true) ≡ true
      last true = refl
      last false = refl
