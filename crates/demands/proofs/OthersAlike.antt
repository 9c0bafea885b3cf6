-- Two states that are alike in what goes by the PIDs `mine`: the list where PID 0 is among them, the gap starts of their fixed tables and pairs,
-- and their half-built sections. A room that changes, a good section and a list that is read keep two states alike: in both where they are of a
-- PID that is mine, in one where they are not. Assumes nothing.
use mathlib.Core.Path.{◌≡◌, refl, sym, ap, ap₂, ◌∙◌, subst}
use mathlib.Core.Logic.{◌≢◌}
use mathlib.Core.Bool.{Bool, true, false, cond, true≢false}
use mathlib.Core.List.{List, [], ◌∷◌, map}
use Prim.Native.Nat.{ℕ, suc, ◌≤◌, ◌<◌}
use native.Mathlib.Omega.{arith}
use lib.Dec.{ltb, eqb}
use lib.ListN.{length, get_or, set, length-set}
use lib.Seq.{get_or-set_same, get_or-set_other, set_out}
use borrow.Author.Tests.{eqb-true, eqb-false}
use Rattle.lists.specs.Places.{part}
use Rattle.lists.proofs.Tests.{Order, below, from, order}
use Rattle.lists.proofs.Places.{front_length}
use Rattle.watches.specs.declared.Entry.{Entry}
use Rattle.watches.specs.Tables.{fixed_tables, table_of, pat_pid, latest_time}
use Rattle.sections.specs.Rooms.{memory_size, room_count, no_room, room_of_place, half_built}
use Rattle.programmes.specs.declared.Listed.{Listed}
use Rattle.programmes.specs.Places.{place_of}
use Rattle.calls.specs.declared.Core.{Core}
use Rattle.calls.specs.Cores.{listed, Held, fixed_room, room_for, dropped_room}
use Rattle.calls.specs.Steps.{touched, arrived_programme, list_on}
use Rattle.calls.proofs.Moves.{dropped_nowhere, table_arrived, programme_arrived}
use Rattle.demands.proofs.OthersRooms.{GoesOn, empty_goes_on}
use Rattle.demands.proofs.OthersLists.{Timely, timely_touched, Alikes, alikes_itself, alikes_sym, alikes_trans, alikes_length, alikes_place, alikes_listed, alikes_touched, touched_other, AlikeListed, alike_by, Filled}
use Rattle.demands.proofs.Lists.{take_front}
use Rattle.demands.proofs.OthersPids.{Shaped, bytes_in, bytes_for, IsFixed, room_fixed, rooms_apart, changed, OthersKept, changed_shaped, changed_own, changed_other}
use Rattle.demands.proofs.OthersMoves.{listed_shaped, listed_fixed, listed_bytes}

-- rooms go by the list alone
pub rooms_by : (c d : Core) (q : ℕ) → place_of q (listed c) ≡ place_of q (listed d) → length (listed c) ≡ length (listed d) → room_for c q ≡ room_for d q
unfolding room_for
rooms_by c d q e l =
    ap₂ (λ (i n : ℕ). cond (ltb (fixed_room q fixed_tables) (length fixed_tables)) (fixed_room q fixed_tables) (cond (ltb i n) (room_of_place i) no_room)) e l

pub rooms_same : (c d : Core) → listed c ≡ listed d → (q : ℕ) → room_for c q ≡ room_for d q
rooms_same c d e q = rooms_by c d q (ap (place_of q) e) (ap length e)

-- A GOOD SECTION: of a fixed table, of a programme
pub table_shaped : (t r : ℕ) (h : Held) → t ≤ latest_time → Shaped h → Shaped (table_arrived t r h)
table_shaped t r h early s =
    record {
      in_sync = s.in_sync;
      run = s.run;
      memory = s.memory;
      half = s.half;
      since = length-set h.core.since r t ∙ s.since;
      entries = s.entries;
      count = s.count;
      more = s.more;
      times = λ k. go k (eqb k r) refl (order r (length h.core.since));
      starts = s.starts;
    }
  where
    go : (k : ℕ) (b : Bool) → eqb k r ≡ b → Order r (length h.core.since) → get_or (set h.core.since r t) k 0 ≤ latest_time
    go k true e (below l) = rw (eqb-true k r e, get_or-set_same h.core.since r t 0 l) early
    go k true e (from l) = rw (set_out h.core.since r t l) (s.times k)
    go k false e l = rw (get_or-set_other h.core.since r k t 0 (eqb-false k r e)) (s.times k)

listed_touched : (n q t : ℕ) (c : Core) → listed (arrived_programme n q t c) ≡ map (touched n q t) (listed c)
listed_touched n q t c = take_front (touched n q t) c.count c.entries

programme_shaped : (n q t : ℕ) (h : Held) → t ≤ latest_time → Shaped h → Shaped (programme_arrived n q t h)
programme_shaped n q t h early s =
    record {
      in_sync = s.in_sync;
      run = s.run;
      memory = s.memory;
      half = s.half;
      since = s.since;
      entries = front_length (touched n q t) h.core.count h.core.entries ∙ s.entries;
      count = s.count;
      more = s.more;
      times = s.times;
      starts = subst Timely (sym (listed_touched n q t h.core)) (timely_touched t early n q (listed h.core) s.starts);
    }

-- it leaves every PID its room
place_touched : (n q t p : ℕ) (es : List Entry) → place_of p (map (touched n q t) es) ≡ place_of p es
unfolding place_of
place_touched n q t p [] = refl
place_touched n q t p (e ∷ es) = ap (λ (i : ℕ). cond (eqb e.pid p) 0 (suc i)) (place_touched n q t p es)

length_touched : (n q t : ℕ) (es : List Entry) → length (map (touched n q t) es) ≡ length es
length_touched n q t [] = refl
length_touched n q t (e ∷ es) = ap suc (length_touched n q t es)

rooms_touched : (n q t : ℕ) (c : Core) (p : ℕ) → room_for (arrived_programme n q t c) p ≡ room_for c p
rooms_touched n q t c p =
    rooms_by (arrived_programme n q t c) c p (ap (place_of p) (listed_touched n q t c) ∙ place_touched n q t p (listed c))
    (ap length (listed_touched n q t c) ∙ length_touched n q t (listed c))

module _ (mine : ℕ → Bool) where
  pub record Alike (h k : Held) : Type 0 where
    pub left : Shaped h
    pub right : Shaped k
    pub lists : mine pat_pid ≡ true → Alikes mine (listed h.core) (listed k.core)
    pub since : (r : ℕ) → r < length fixed_tables → mine (table_of r).pid ≡ true → get_or h.core.since r 0 ≡ get_or k.core.since r 0
    pub bytes : (q : ℕ) → mine q ≡ true → bytes_for h q ≡ bytes_for k q

  pub alike_itself : (h : Held) → Shaped h → Alike h h
  alike_itself h s = record { left = s; right = s; lists = λ z. alikes_itself mine (listed h.core); since = λ r l z. refl; bytes = λ q z. refl }

  pub alike_sym : (h k : Held) → Alike h k → Alike k h
  alike_sym h k a =
      record {
        left = a.right;
        right = a.left;
        lists = λ z. alikes_sym mine (a.lists z);
        since = λ r l z. sym (a.since r l z);
        bytes = λ q z. sym (a.bytes q z);
      }

  pub alike_trans : (h k i : Held) → Alike h k → Alike k i → Alike h i
  alike_trans h k i a b =
      record {
        left = a.left;
        right = b.right;
        lists = λ z. alikes_trans mine (a.lists z) (b.lists z);
        since = λ r l z. a.since r l z ∙ b.since r l z;
        bytes = λ q z. a.bytes q z ∙ b.bytes q z;
      }

  -- a PID that is mine is no other
  apart_from : (q p : ℕ) → mine q ≡ false → mine p ≡ true → q ≢ p
  apart_from q p other own e = true≢false (sym own ∙ ap mine (sym e) ∙ other)

  -- OF A PID THAT IS NOT MINE, in one state
  module _ (h : Held) (s : Shaped h) (q : ℕ) (other : mine q ≡ false) where
    pub other_changed : (n : ℕ) (m : List ℕ) → (l : room_for h.core q < room_count) → GoesOn (room_for h.core q) l m n → length m ≡ memory_size
        → OthersKept (room_for h.core q) m h → Alike (changed (room_for h.core q) n m h) h
    other_changed n m l goes size o =
        let r = room_for h.core q in
        record {
          left = changed_shaped r n m h s goes size o;
          right = s;
          lists = λ z. alikes_itself mine (listed h.core);
          since = λ i g z. refl;
          bytes =
              λ p own. ap (bytes_in (changed r n m h)) (rooms_same (changed r n m h).core h.core refl p)
              ∙ changed_other r n m h s o (room_for h.core p) (rooms_apart h.core q p (apart_from q p other own) l);
        }

    pub other_dropped : Alike (dropped_room (room_for h.core q) h) h
    other_dropped = go (order (room_for h.core q) room_count)
      where
        go : Order (room_for h.core q) room_count → Alike (dropped_room (room_for h.core q) h) h
        go (below l) = other_changed 0 h.memory l (empty_goes_on (room_for h.core q) l h.memory) s.memory (λ p n g apart fits. refl)
        go (from l) = subst (λ (z : Held). Alike z h) (sym (dropped_nowhere (room_for h.core q) h (omega (arith, s.half)))) (alike_itself h s)

    pub other_table : (t r : ℕ) → t ≤ latest_time → (r < length fixed_tables → (table_of r).pid ≡ q) → Alike (table_arrived t r h) h
    other_table t r early own =
        record {
          left = table_shaped t r h early s;
          right = s;
          lists = λ z. alikes_itself mine (listed h.core);
          since = λ i l z. get_or-set_other h.core.since r i t 0 (λ e. true≢false (sym z ∙ ap (λ j. mine (table_of j).pid) e ∙ ap mine (own (omega (arith, e, l))) ∙ other));
          bytes = λ p z. ap (bytes_in h) (rooms_same (table_arrived t r h).core h.core refl p);
        }

    pub other_programme : (n t : ℕ) → t ≤ latest_time → Alike (programme_arrived n q t h) h
    other_programme n t early =
        record {
          left = programme_shaped n q t h early s;
          right = s;
          lists = λ z. subst (λ (es : List Entry). Alikes mine es (listed h.core)) (sym (listed_touched n q t h.core)) (touched_other mine n q t other (listed h.core));
          since = λ i l z. refl;
          bytes = λ p z. ap (bytes_in h) (rooms_touched n q t h.core p);
        }

    -- where PID 0 is not mine, a list that is read leaves the fixed PIDs
    pub other_list : (l : Listed) → Filled l → mine pat_pid ≡ false → ((p : ℕ) → mine p ≡ true → IsFixed p) → Alike (list_on l h) h
    other_list l f z fixed =
        record {
          left = listed_shaped l h s f;
          right = s;
          lists = λ y. absurd (true≢false (sym y ∙ z));
          since = λ i g y. refl;
          bytes = λ p own. listed_fixed l h s f p (fixed p own);
        }

  -- either PID 0 is mine, or only fixed PIDs are
  abbrev pub Closed : Type 0
  Closed = mine pat_pid ≡ false → (q : ℕ) → mine q ≡ true → IsFixed q

  pub alike_room : Closed → (h k : Held) → Alike h k → (q : ℕ) → mine q ≡ true → room_for h.core q ≡ room_for k.core q
  alike_room closed h k a q own = go (mine pat_pid) refl
    where
      go : (b : Bool) → mine pat_pid ≡ b → room_for h.core q ≡ room_for k.core q
      go true e = rooms_by h.core k.core q (alikes_place mine (a.lists e) q) (alikes_length mine (a.lists e))
      go false e = room_fixed h.core q (closed e q own) ∙ sym (room_fixed k.core q (closed e q own))

  -- OF A PID THAT IS MINE, in both
  module _ (closed : Closed) (h k : Held) (a : Alike h k) where
    pub own_changed : (q n i : ℕ) (m l : List ℕ) → mine q ≡ true → (r : ℕ) → r ≡ room_for h.core q → (room : r < room_count) → GoesOn r room m n
        → GoesOn r room l i → length m ≡ memory_size → length l ≡ memory_size → OthersKept r m h → OthersKept r l k
        → half_built m r n ≡ half_built l r i → Alike (changed r n m h) (changed r i l k)
    own_changed q n i m l own r er room goes₁ goes₂ size₁ size₂ o₁ o₂ e =
        record {
          left = changed_shaped r n m h a.left goes₁ size₁ o₁;
          right = changed_shaped r i l k a.right goes₂ size₂ o₂;
          lists = a.lists;
          since = a.since;
          bytes =
              λ p z. ap (bytes_in (changed r n m h)) (rooms_same (changed r n m h).core h.core refl p)
              ∙ go p z (eqb q p) refl
              ∙ ap (bytes_in (changed r i l k)) (alike_room closed h k a p z ∙ rooms_same k.core (changed r i l k).core refl p);
        }
      where
        go : (p : ℕ) → mine p ≡ true → (b : Bool) → eqb q p ≡ b → bytes_in (changed r n m h) (room_for h.core p) ≡ bytes_in (changed r i l k) (room_for h.core p)
        go p z true x =
            let here : room_for h.core p ≡ r = ap (room_for h.core) (sym (eqb-true q p x)) ∙ sym er in
            ap (bytes_in (changed r n m h)) here
            ∙ changed_own r n m h a.left room
            ∙ e
            ∙ sym (changed_own r i l k a.right room)
            ∙ ap (bytes_in (changed r i l k)) (sym here)
        go p z false x =
            let apart : r ≢ room_for h.core p = λ y. rooms_apart h.core q p (eqb-false q p x) (omega (arith, er, room)) (sym er ∙ y) in
            changed_other r n m h a.left o₁ (room_for h.core p) apart
            ∙ a.bytes p z
            ∙ ap (bytes_in k) (sym (alike_room closed h k a p z))
            ∙ sym (changed_other r i l k a.right o₂ (room_for h.core p) apart)

    pub own_dropped : (q : ℕ) → mine q ≡ true → Alike (dropped_room (room_for h.core q) h) (dropped_room (room_for k.core q) k)
    unfolding part
    own_dropped q own =
        subst (λ (r : ℕ). Alike (dropped_room (room_for h.core q) h) (dropped_room r k)) (alike_room closed h k a q own) (go (order (room_for h.core q) room_count))
      where
        go : Order (room_for h.core q) room_count → Alike (dropped_room (room_for h.core q) h) (dropped_room (room_for h.core q) k)
        go (below l) =
            own_changed q 0 0 h.memory k.memory own (room_for h.core q) refl l (empty_goes_on (room_for h.core q) l h.memory) (empty_goes_on (room_for h.core q) l k.memory) a.left.memory a.right.memory
            (λ p n g apart fits. refl) (λ p n g apart fits. refl) refl
        go (from l) =
            subst (λ (z : Held). Alike z (dropped_room (room_for h.core q) k)) (sym (dropped_nowhere (room_for h.core q) h (omega (arith, a.left.half))))
            (subst (λ (z : Held). Alike h z) (sym (dropped_nowhere (room_for h.core q) k (omega (arith, a.right.half)))) a)

    pub own_table : (t r : ℕ) → t ≤ latest_time → Alike (table_arrived t r h) (table_arrived t r k)
    own_table t r early =
        record {
          left = table_shaped t r h early a.left;
          right = table_shaped t r k early a.right;
          lists = a.lists;
          since = λ i l z. go i l z (eqb i r) refl;
          bytes =
              λ p z. ap (bytes_in h) (rooms_same (table_arrived t r h).core h.core refl p)
              ∙ a.bytes p z
              ∙ ap (bytes_in k) (rooms_same k.core (table_arrived t r k).core refl p);
        }
      where
        go : (i : ℕ) → i < length fixed_tables → mine (table_of i).pid ≡ true → (b : Bool) → eqb i r ≡ b
            → get_or (set h.core.since r t) i 0 ≡ get_or (set k.core.since r t) i 0
        go i l z true x =
            let e : i ≡ r = eqb-true i r x in
            ap (λ j. get_or (set h.core.since r t) j 0) e
            ∙ get_or-set_same h.core.since r t 0 (omega (arith, e, l, a.left.since))
            ∙ sym (get_or-set_same k.core.since r t 0 (omega (arith, e, l, a.right.since)))
            ∙ ap (λ j. get_or (set k.core.since r t) j 0) (sym e)
        go i l z false x =
            get_or-set_other h.core.since r i t 0 (eqb-false i r x) ∙ a.since i l z ∙ sym (get_or-set_other k.core.since r i t 0 (eqb-false i r x))

    pub own_programme : (n q t : ℕ) → t ≤ latest_time → Alike (programme_arrived n q t h) (programme_arrived n q t k)
    own_programme n q t early =
        record {
          left = programme_shaped n q t h early a.left;
          right = programme_shaped n q t k early a.right;
          lists =
              λ z. subst (λ (es : List Entry). Alikes mine (listed (arrived_programme n q t h.core)) es) (sym (listed_touched n q t k.core))
              (subst (λ (es : List Entry). Alikes mine es (map (touched n q t) (listed k.core))) (sym (listed_touched n q t h.core))
              (alikes_touched mine n q t (a.lists z)));
          since = a.since;
          bytes =
              λ p z. ap (bytes_in h) (rooms_touched n q t h.core p)
              ∙ a.bytes p z
              ∙ ap (bytes_in k) (sym (rooms_touched n q t k.core p));
        }

    pub own_list : (l i : Listed) → Filled l → Filled i → AlikeListed mine l i → Alike (list_on l h) (list_on i k)
    own_list l i f g e =
        record {
          left = listed_shaped l h a.left f;
          right = listed_shaped i k a.right g;
          lists = λ z. alike_by mine l i e;
          since = a.since;
          bytes = λ p z. go p z (order (fixed_room p fixed_tables) 5);
        }
      where
        go : (p : ℕ) → mine p ≡ true → Order (fixed_room p fixed_tables) 5 → bytes_for (list_on l h) p ≡ bytes_for (list_on i k) p
        go p z (below b) = listed_fixed l h a.left f p b ∙ a.bytes p z ∙ sym (listed_fixed i k a.right g p b)
        go p z (from b) =
            let other : IsFixed p → ⊥ = λ y. omega (arith, y, b) in
            listed_bytes l h a.left f p other
            ∙ ap₂ (λ (x : Bool) (w : List ℕ). cond x w []) (alikes_listed mine (alike_by mine l i e) p) (a.bytes p z)
            ∙ sym (listed_bytes i k a.right g p other)
