-- Demand 3, the whole sentence: the two judgements agree on every watch, and no call of a log hands over a late event that is not of a watch
-- before it. Assumes nothing.
use mathlib.Core.Path.{◌≡◌, refl, sym, ap, ap₂, ◌∙◌}
use mathlib.Core.Bool.{Bool, true, false, cond, not, ◌&&◌, ◌||◌}
use mathlib.Core.List.{List, [], ◌∷◌, ◌++◌, map, flat_map, append-nil, append_assoc}
use Prim.Native.Nat.{ℕ, zero, suc}
use native.Mathlib.Omega.{arith}
use lib.Dec.{eqb}
use lib.ListN.{length, get_or}
use borrow.Author.Tests.{eqb-true, eqb-false, eq-eqb, not-true}
use Rattle.lists.proofs.Tests.{and_left, and_right}
use Rattle.lists.proofs.Table.{passes, passes_at}
use Rattle.lateness.specs.Gaps.{Watch, on, due, due_of}
use Rattle.lateness.specs.Logs.{Call, clock, packet, time_of}
use Rattle.events.specs.declared.Event.{Event}
use Rattle.events.specs.Faults.{late}
use Rattle.events.specs.Events.{event_at}
use Rattle.watches.specs.declared.Entry.{Entry}
use Rattle.watches.specs.Tables.{fixed_tables, table_of, pmt_table}
use Rattle.watches.specs.Late.{Row, row_late, rows_late, table_rows, entry_rows}
use Rattle.calls.specs.declared.Core.{Core}
use Rattle.calls.specs.Cores.{listed, board_of, late_of}
use Rattle.calls.specs.Steps.{step1}
use Rattle.calls.specs.Sound.{number_among, entry_sound, entries_sound}
use Rattle.calls.specs.Calls.{Result, held_of}
use Rattle.demands.specs.Runs.{Given, Asked, lending, after_call, IsAccepted, Each, OwnTable, opening, Opened}
use Rattle.demands.specs.Refused.{Refused}
use Rattle.demands.specs.Judgements.{Watched, fixed, programme, limits_of, IsWatched, on_watch, late_by}
use Rattle.demands.specs.Pages.{found}
use Rattle.demands.specs.Whole.{late_in, fixed_watches, watches_of, NoOther, OneName, JudgedAlike}
use Rattle.demands.proofs.Watches.{watch_in}
use Rattle.demands.proofs.Late.{eqb_comm, cond_none, cond_rest, fault_other, paired_once}
use Rattle.demands.proofs.Packets.{NoneLate, packet_none_late}
use Rattle.demands.proofs.Accepted.{accepted_of, call_accepted, entries_accepted, opening_accepted}
use Rattle.demands.proofs.Refusals.{accepted_or_refused, demand_1, each_map}
use Rattle.demands.proofs.Agreement.{Five, stamped, call_late, late_by_refused, one_limit_lem, five_call, demand_3}

-- LATE EVENTS among others
late_in_append : (xs ys : List Event) → late_in (xs ++ ys) ≡ late_in xs ++ late_in ys
unfolding late_in
late_in_append [] ys = refl
late_in_append (e ∷ xs) ys = go (eqb e.cause late) (late_in_append xs ys)
  where
    go : (b : Bool) → late_in (xs ++ ys) ≡ late_in xs ++ late_in ys
        → cond b (e ∷ late_in (xs ++ ys)) (late_in (xs ++ ys)) ≡ cond b (e ∷ late_in xs) (late_in xs) ++ late_in ys
    go true ih = ap (λ z. e ∷ z) ih
    go false ih = ih

late_in_none : (es : List Event) → NoneLate es → late_in es ≡ []
unfolding late_in
late_in_none [] h = refl
late_in_none (e ∷ es) h = rw h.0 (late_in_none es h.1)

late_in_stamped : (f i : ℕ) (ss : List ℕ) → late_in (map (λ x. event_at x f late i) ss) ≡ map (λ x. event_at x f late i) ss
unfolding late_in
late_in_stamped f i [] = refl
late_in_stamped f i (s ∷ ss) = ap (λ z. event_at s f late i ∷ z) (late_in_stamped f i ss)

late_in_rows : (p t : ℕ) (ws : List Row) → late_in (rows_late p t ws) ≡ rows_late p t ws
unfolding late_in rows_late
late_in_rows p t [] = refl
late_in_rows p t (w ∷ ws) =
    late_in_append (row_late p t w) (rows_late p t ws)
    ∙ ap₂ (λ x y. x ++ y) (late_in_stamped w.fault w.id (due w.limits w.since p t)) (late_in_rows p t ws)

-- those of an accepted call are those of the board
late_in_accepted : (g : Given) (c : Call (List ℕ)) → late_in (accepted_of g c).events ≡ rows_late g.state.latest (time_of c) (board_of g.state.core)
unfolding late_of
late_in_accepted g (clock t) = late_in_rows g.state.latest t (board_of g.state.core)
late_in_accepted g (packet t p) =
    let h = held_of g.state g.memory in
    let es = rows_late g.state.latest t (board_of g.state.core) in
    late_in_append es (step1 t p g.counters h).events
    ∙ ap₂ (λ x y. x ++ y) (late_in_rows g.state.latest t (board_of g.state.core)) (late_in_none (step1 t p g.counters h).events (packet_none_late t p g.counters h))
    ∙ append-nil es

-- THE BOARD, watch by watch
rows_append : (p t : ℕ) (ws vs : List Row) → rows_late p t (ws ++ vs) ≡ rows_late p t ws ++ rows_late p t vs
unfolding rows_late
rows_append p t [] vs = refl
rows_append p t (w ∷ ws) vs = ap (λ z. row_late p t w ++ z) (rows_append p t ws vs) ∙ sym (append_assoc (row_late p t w) (rows_late p t ws) (rows_late p t vs))

flat_map_append : {A B : Type 0} (f : A → List B) (xs ys : List A) → flat_map f (xs ++ ys) ≡ flat_map f xs ++ flat_map f ys
unfolding flat_map
flat_map_append f [] ys = refl
flat_map_append f (x ∷ xs) ys = ap (λ z. f x ++ z) (flat_map_append f xs ys) ∙ sym (append_assoc (f x) (flat_map f xs) (flat_map f ys))

-- a list of n numbers, place by place
abbrev placed : ℕ → (ℕ → ℕ) → List ℕ
placed zero f = []
placed (suc n) f = f 0 ∷ placed n (λ k. f (suc k))

placed_all : (ss : List ℕ) → ss ≡ placed (length ss) (λ k. get_or ss k 0)
placed_all [] = refl
placed_all (s ∷ ss) = ap (λ z. s ∷ z) (placed_all ss)

module _ (p t : ℕ) (c : Core) where
  -- what falls due of a watch
  abbrev due_by : Watched → List Event
  due_by w = stamped w (due_of (limits_of w) (watch_in w c) p t)

  fixed_board : length c.since ≡ length fixed_tables → rows_late p t (table_rows fixed_tables c.since) ≡ flat_map due_by fixed_watches
  unfolding rows_late table_rows flat_map
  fixed_board five =
      ap (λ ss. rows_late p t (table_rows fixed_tables ss)) (placed_all c.since ∙ ap (λ n. placed n (λ k. get_or c.since k 0)) five)

  -- each listed pair is found with its own gap
  abbrev AllFound : List Entry → List Entry → Type 0
  AllFound es [] = Unit
  AllFound es (d ∷ ds) = (found d.number d.pid es ≡ on d.since) × AllFound es ds

  found_behind : (x : Entry) (es ds : List Entry) → number_among x.number ds ≡ false → AllFound es ds → AllFound (x ∷ es) ds
  unfolding found number_among
  found_behind x es [] e h = tt
  found_behind x es (d ∷ ds) e h =
      let apart : eqb x.number d.number ≡ false =
      eqb_comm x.number d.number ∙ cond_none (eqb d.number x.number) (number_among x.number ds) e in
      (rw apart h.0, found_behind x es ds (cond_rest (eqb d.number x.number) (number_among x.number ds) e) h.1)

  all_found : (es : List Entry) → entries_sound es ≡ true → AllFound es es
  unfolding found entries_sound
  all_found [] e = tt
  all_found (x ∷ es) e =
      let both = and_left (entry_sound x && not (number_among x.number es)) (entries_sound es) e in
      let alone = not-true (number_among x.number es) (and_right (entry_sound x) (not (number_among x.number es)) both) in
      let sound = and_right (entry_sound x && not (number_among x.number es)) (entries_sound es) e in
      (rw (eq-eqb x.number x.number refl, eq-eqb x.pid x.pid refl), found_behind x es es alone (all_found es sound))

  pairs_board : (ds : List Entry) → AllFound (listed c) ds
      → rows_late p t (entry_rows ds) ≡ flat_map due_by (map (λ (e : Entry). programme e.number e.pid) ds)
  unfolding rows_late flat_map
  pairs_board [] h = refl
  pairs_board (d ∷ ds) h =
      ap₂ (λ (v : Watch) z. stamped (programme d.number d.pid) (due_of pmt_table.limits v p t) ++ z) (sym h.0) (pairs_board ds h.1)

  board_watches : length c.since ≡ length fixed_tables → entries_sound (listed c) ≡ true → rows_late p t (board_of c) ≡ flat_map due_by (watches_of c)
  board_watches five sound =
      rows_append p t (table_rows fixed_tables c.since) (entry_rows (listed c))
      ∙ ap₂ (λ x y. x ++ y) (fixed_board five) (pairs_board (listed c) (all_found (listed c) sound))
      ∙ sym (flat_map_append due_by fixed_watches (map (λ (e : Entry). programme e.number e.pid) (listed c)))

-- NO OTHER LATE EVENT
module _ (g : Given) (a : Asked) where
  abbrev AllWatched : List Watched → Type 0
  AllWatched [] = Unit
  AllWatched (w ∷ ws) = IsWatched w × AllWatched ws

  pairs_watched : (es : List Entry) → AllWatched (map (λ (e : Entry). programme e.number e.pid) es)
  pairs_watched [] = tt
  pairs_watched (e ∷ es) = (tt, pairs_watched es)

  due_late : Five g → IsAccepted g a → (ws : List Watched) → AllWatched ws
      → flat_map (due_by g.state.latest (time_of a.call) g.state.core) ws ≡ flat_map (λ w. late_by w g a) ws
  unfolding flat_map
  due_late five e [] h = refl
  due_late five e (w ∷ ws) h = ap₂ (λ x y. x ++ y) (sym (call_late w h.0 g a five e)) (due_late five e ws h.1)

  none_late : Refused g a → (ws : List Watched) → [] ≡ flat_map (λ w. late_by w g a) ws
  unfolding flat_map
  none_late refused [] = refl
  none_late refused (w ∷ ws) = ap₂ (λ x y. x ++ y) (sym (late_by_refused w g a refused)) (none_late refused ws)

  no_other_lem : Five g → NoOther g a
  unfolding late_in
  no_other_lem five =
      let k = lending g a.table in
      accepted_or_refused g a
      (λ e. ap (λ (x : Result). late_in x.events) (call_accepted a.capacity k a.call e)
      ∙ late_in_accepted k a.call
      ∙ board_watches g.state.latest (time_of a.call) g.state.core five (entries_accepted g a e)
      ∙ due_late five e (watches_of g.state.core)
      (omega arith, (omega arith, (omega arith, (omega arith, (omega arith, pairs_watched (listed g.state.core)))))))
      (λ refused. ap late_in (demand_1 g a refused).silent ∙ none_late refused (watches_of g.state.core))

-- ONE NAME: no two fixed tables have one fault, and none has that of the PMT
fixed_faults : (k j : ℕ) → IsWatched (fixed k) → IsWatched (fixed j) → (table_of k).fault ≡ (table_of j).fault → k ≡ j
fixed_faults k j h i e = go (eqb k j) refl
  where
    rule : (eqb k j || not (eqb (table_of k).fault (table_of j).fault)) ≡ true
    rule =
        passes_at (λ y. eqb k y || not (eqb (table_of k).fault (table_of y).fault)) 5
        (passes_at (λ x. passes (λ y. eqb x y || not (eqb (table_of x).fault (table_of y).fault)) 5) 5 refl k h) j i

    go : (b : Bool) → eqb k j ≡ b → k ≡ j
    go true z = eqb-true k j z
    go false z =
        absurd (eqb-false (table_of k).fault (table_of j).fault
        (not-true (eqb (table_of k).fault (table_of j).fault) (ap (λ b. b || not (eqb (table_of k).fault (table_of j).fault)) (sym z) ∙ rule)) e)

one_name_lem : (c : Core) → entries_sound (listed c) ≡ true → OneName c
one_name_lem c sound (fixed k) (fixed j) a b f i = ap fixed (fixed_faults k j a.0 b.0 f)
one_name_lem c sound (fixed k) (programme n q) a b f i = absurd (eqb-false pmt_table.fault (table_of k).fault (fault_other k a.0) (sym f))
one_name_lem c sound (programme n q) (fixed k) a b f i = absurd (eqb-false pmt_table.fault (table_of k).fault (fault_other k b.0) f)
one_name_lem c sound (programme n q) (programme m r) a b f i =
    let there : on_watch (programme n r) c ≡ true = ap (λ x. on_watch (programme x r) c) i ∙ b.1 in
    ap₂ programme i (paired_once n q r (listed c) sound a.1 there)

-- DEMAND 3
each_five : (log : List Asked) (g : Given) → Five g → Each (λ k a. Five k) g log
each_five [] g five = tt
each_five (a ∷ log) g five = (five, each_five log (after_call g a) (five_call g a five))

pub demand_3_whole : (t : ℕ) (counters m : List ℕ) (log : List Asked) → Opened t counters m → OwnTable (opening t counters m) log
    → JudgedAlike t m (opening t counters m) log
demand_3_whole t counters m log o owned =
    let g = opening t counters m in
    let five : Five g = ap (λ (x : Given). length x.state.core.since) (opening_accepted t counters m o.accepted) in
    record {
      both = λ w is. demand_3 w is t counters m log o owned;
      one_limit = one_limit_lem;
      no_other = each_map no_other_lem log g (each_five log g five);
      one_name = each_map (λ k a x e. one_name_lem k.state.core (entries_accepted k a e)) log g (each_five log g five);
    }
