-- A packet with the right first byte keeps two states in sync alike, with their counter tables: in both where its PID is mine, in one where it is
-- not. Assumes nothing.
use mathlib.Core.Path.{◌≡◌, refl, sym, ap, ◌∙◌, subst}
use mathlib.Core.Bool.{Bool, true, false, cond, ◌||◌, true≢false}
use mathlib.Core.List.{List, [], ◌∷◌}
use Prim.Native.Nat.{ℕ, ◌≤◌, ◌<◌}
use native.Mathlib.Omega.{arith}
use lib.Dec.{ltb, eqb}
use lib.ListN.{length, get_or, set, length-set}
use lib.Seq.{get_or-set_same, get_or-set_other, set_out}
use borrow.Author.Tests.{eqb-true, eqb-false, ltb-true}
use Rattle.events.specs.Faults.{continuity_error}
use Rattle.lists.proofs.Tests.{Order, below, from, order}
use Rattle.watches.specs.Tables.{fixed_tables, table_of, latest_time}
use Rattle.header.specs.Header.{right_sync, error_bit, unit_start, pid_of, scrambled_bits, control_of, payload_of, header_of}
use Rattle.continuity.specs.declared.Counted.{Counted}
use Rattle.continuity.specs.Continuity.{counted_of}
use Rattle.sections.specs.Rooms.{room_count, pat_room}
use Rattle.sections.specs.Building.{Finished}
use Rattle.programmes.specs.Listing.{null_pid}
use Rattle.calls.specs.Cores.{Held, room_for, dropped_room, with_sync}
use Rattle.calls.specs.Sync.{Synced, in_sync, synced_of}
use Rattle.calls.specs.Steps.{arrival, AfterStep, bytes_of, relisted, packet_events, also, Absorbed, payload_taken, sections_taken, step5, step4, step3, step2, step1, counted}
use Rattle.calls.proofs.Moves.{From, synced_held, table_arrived, programme_arrived, payload_built, Moves, packet_moves}
use Rattle.demands.proofs.OthersPids.{Shaped, table_pid, bytes_in}
use Rattle.demands.proofs.OthersAlike.{rooms_same, Alike, alike_itself, alike_sym, alike_trans, Closed, alike_room, other_dropped, other_table, other_programme, own_dropped}
use Rattle.demands.proofs.OthersSections.{other_built, other_relisted, own_taken}

module _ (mine : ℕ → Bool) where
  -- two states that are alike, with the same table bytes
  pub record AlikeWith (h : Held) (cs : List ℕ) (k : Held) (ds : List ℕ) : Type 0 where
    pub held : Alike mine h k
    pub table : length cs ≡ length ds
    pub byte : (q : ℕ) → mine q ≡ true → get_or cs q 0 ≡ get_or ds q 0

  with_held : (cs : List ℕ) (h k : Held) → Alike mine h k → AlikeWith h cs k cs
  with_held cs h k a = record { held = a; table = refl; byte = λ q z. refl }

  pub with_trans : (h k i : Held) (cs ds es : List ℕ) → AlikeWith h cs k ds → AlikeWith k ds i es → AlikeWith h cs i es
  with_trans h k i cs ds es a b =
      record {
        held = alike_trans mine h k i a.held b.held;
        table = a.table ∙ b.table;
        byte = λ q z. a.byte q z ∙ b.byte q z;
      }

  pub with_sym : (h k : Held) (cs ds : List ℕ) → AlikeWith h cs k ds → AlikeWith k ds h cs
  with_sym h k cs ds a = record { held = alike_sym mine h k a.held; table = sym a.table; byte = λ q z. sym (a.byte q z) }

  abbrev AlikeStep : AfterStep → AfterStep → Type 0
  AlikeStep a b = AlikeWith a.held a.counters b.held b.counters

  -- step 1 in sync
  abbrev synced : Held → Held
  synced h = record { core = with_sync false 0 h.core; memory = h.memory }

  abbrev after_sync : ℕ → List ℕ → List ℕ → Held → Synced → AfterStep
  after_sync t p cs h y =
      let g : Held = record { core = y.core; memory = h.memory } in
      let s = step2 t p cs g in
      also (packet_events t p y.faults) (cond y.further s (record { held = g; counters = cs; events = [] }))

  in_sync_lem : (p : List ℕ) (h : Held) → right_sync p ≡ true → Shaped h → synced_of (right_sync p) h.core ≡ in_sync true h.core
  in_sync_lem p h right s = rw (right, s.in_sync)

  synced_shaped : (h : Held) → Shaped h → Shaped (synced h)
  synced_shaped h s =
      record {
        in_sync = refl;
        run = omega arith;
        memory = s.memory;
        half = s.half;
        since = s.since;
        entries = s.entries;
        count = s.count;
        more = s.more;
        times = s.times;
        starts = s.starts;
      }

  synced_alike : (h : Held) → Shaped h → Alike mine (synced h) h
  synced_alike h s =
      record {
        left = synced_shaped h s;
        right = s;
        lists = (alike_itself mine h s).lists;
        since = λ r l z. refl;
        bytes = λ q z. ap (bytes_in h) (rooms_same (synced h).core h.core refl q);
      }

  module _ (closed : Closed mine) (t : ℕ) (early : t ≤ latest_time) (p : List ℕ) where
    -- OF A PID THAT IS NOT MINE: each move leaves what is held alike to h, which was held before, and the table to cs
    module _ (other : mine (pid_of p) ≡ false) (right : right_sync p ≡ true) (h : Held) (cs : List ℕ) where
      abbrev Leaves : Held → List ℕ → Type 0
      Leaves g ds = AlikeWith g ds h cs

      moved : (g i : Held) (ds : List ℕ) → (Shaped g → Alike mine i g) → Leaves g ds → Leaves i ds
      moved g i ds move k = record { held = alike_trans mine i g h (move k.held.left) k.held; table = k.table; byte = k.byte }

      -- a section of a fixed table's room has the table's PID
      own_pid : (o : Held) (r : ℕ) (f : Finished) → From p o r f → r < length fixed_tables → (table_of r).pid ≡ pid_of p
      own_pid o r f source = subst (λ (i : ℕ). i < length fixed_tables → (table_of i).pid ≡ pid_of p) source.room (table_pid o.core (pid_of p))

      leaves_moves : Moves t p Leaves
      leaves_moves =
          record {
            synced = λ g ds k. moved g (synced_held p g) ds (λ s. subst (λ (y : Synced). Alike mine (record { core = y.core; memory = g.memory }) g) (sym (in_sync_lem p g right s)) (synced_alike g s)) k;
            byte = λ g ds k. record {
              held = k.held;
              table = length-set ds (pid_of p) (counted p ds).byte ∙ k.table;
              byte = λ q z. get_or-set_other ds (pid_of p) q (counted p ds).byte 0 (λ e. true≢false (sym z ∙ ap mine e ∙ other)) ∙ k.byte q z;
            };
            dropped = λ g ds k. moved g (dropped_room (room_for g.core (pid_of p)) g) ds (λ s. other_dropped mine g s (pid_of p) other) k;
            built = λ g ds inside k. moved g (payload_built p (room_for g.core (pid_of p)) g) ds (λ s. other_built mine closed t early p other g s inside) k;
            table = λ o g ds r f source before k. moved g (table_arrived t r g) ds (λ s. other_table mine g s (pid_of p) other t r early (own_pid o r f source)) k;
            page = λ o g ds r f source before k n. moved g (programme_arrived n (pid_of p) t g) ds (λ s. other_programme mine g s (pid_of p) other n t early) k;
            list = λ o g ds f source before k. moved g (relisted t (bytes_of f) g) ds (λ s. other_relisted mine closed t early p other g s (bytes_of f) (own_pid o pat_room f source (omega arith))) k;
          }

      pub other_1 : Shaped h → Leaves (step1 t p cs h).held (step1 t p cs h).counters
      other_1 s = packet_moves t p Leaves leaves_moves cs h (with_held cs h h (alike_itself mine h s))

    -- OF A PID THAT IS MINE
    module _ (own : mine (pid_of p) ≡ true) where
      own_payload : (h k : Held) → Alike mine h k → Alike mine (payload_taken (arrival t (room_for h.core (pid_of p)) (pid_of p)) p h).held (payload_taken (arrival t (room_for k.core (pid_of p)) (pid_of p)) p k).held
      own_payload h k a =
          subst (λ (r : ℕ). Alike mine (payload_taken (arrival t (room_for h.core (pid_of p)) (pid_of p)) p h).held (payload_taken (arrival t r (pid_of p)) p k).held) (alike_room mine closed h k a (pid_of p) own)
          (go (room_for h.core (pid_of p)) refl (ltb (room_for h.core (pid_of p)) room_count) refl)
        where
          taken : ℕ → Held → Absorbed
          taken r g = sections_taken (arrival t r (pid_of p)) (unit_start p) (payload_of p) g

          go : (r : ℕ) → r ≡ room_for h.core (pid_of p) → (b : Bool) → ltb r room_count ≡ b
              → Alike mine (cond b (taken r h) (record { held = h; events = [] })).held (cond b (taken r k) (record { held = k; events = [] })).held
          go r er true e = own_taken mine closed t early (pid_of p) (unit_start p) (payload_of p) h k a own r er (ltb-true r room_count e)
          go r er false e = a

      cond_alike : (b : Bool) (x y v w : AfterStep) → AlikeStep x v → AlikeStep y w → AlikeStep (cond b x y) (cond b v w)
      cond_alike true x y v w a c = a
      cond_alike false x y v w a c = c

      -- the same table bytes on
      with_tables : (h k g i : Held) (cs ds : List ℕ) → AlikeWith h cs k ds → Alike mine g i → AlikeWith g cs i ds
      with_tables h k g i cs ds a b = record { held = b; table = a.table; byte = a.byte }

      own_5 : (take : Bool) (cs ds : List ℕ) (h k : Held) → AlikeWith h cs k ds → AlikeStep (step5 t p take cs h) (step5 t p take ds k)
      own_5 take cs ds h k a =
          cond_alike (scrambled_bits p) _ _ _ _
          (with_tables h k (dropped_room (room_for h.core (pid_of p)) h) (dropped_room (room_for k.core (pid_of p)) k) cs ds a (own_dropped mine closed h k a.held (pid_of p) own))
          (cond_alike take _ _ _ _
          (with_tables h k (payload_taken (arrival t (room_for h.core (pid_of p)) (pid_of p)) p h).held (payload_taken (arrival t (room_for k.core (pid_of p)) (pid_of p)) p k).held cs ds a (own_payload h k a.held))
          a)

      -- the same byte laid into both tables
      set_byte : (q b i : ℕ) (cs ds : List ℕ) → length cs ≡ length ds → get_or cs i 0 ≡ get_or ds i 0 → get_or (set cs q b) i 0 ≡ get_or (set ds q b) i 0
      set_byte q b i cs ds l e = go (eqb i q) refl (order q (length cs))
        where
          go : (x : Bool) → eqb i q ≡ x → Order q (length cs) → get_or (set cs q b) i 0 ≡ get_or (set ds q b) i 0
          go true z (below g) =
              let here : i ≡ q = eqb-true i q z in
              rw (here, get_or-set_same cs q b 0 g, get_or-set_same ds q b 0 (omega (arith, l, g)))
          go true z (from g) = rw (set_out cs q b g, set_out ds q b (omega (arith, l, g))) e
          go false z g = get_or-set_other cs q i b 0 (eqb-false i q z) ∙ e ∙ sym (get_or-set_other ds q i b 0 (eqb-false i q z))

      -- step 4 by its judgement j
      abbrev step4_by : Counted → List ℕ → Held → AfterStep
      step4_by j cs h =
          also (packet_events t p (cond j.event (continuity_error ∷ []) []))
          (step5 t p j.take (set cs (pid_of p) j.byte) (cond j.keep h (dropped_room (room_for h.core (pid_of p)) h)))

      own_counted : (j : Counted) (cs ds : List ℕ) (h k : Held) → AlikeWith h cs k ds → AlikeStep (step4_by j cs h) (step4_by j ds k)
      own_counted j cs ds h k a = own_5 j.take (set cs (pid_of p) j.byte) (set ds (pid_of p) j.byte) (kept j.keep h) (kept j.keep k) next
        where
          kept : Bool → Held → Held
          kept b g = cond b g (dropped_room (room_for g.core (pid_of p)) g)

          kept_alike : (b : Bool) → Alike mine (kept b h) (kept b k)
          kept_alike true = a.held
          kept_alike false = own_dropped mine closed h k a.held (pid_of p) own

          next : AlikeWith (kept j.keep h) (set cs (pid_of p) j.byte) (kept j.keep k) (set ds (pid_of p) j.byte)
          next =
              record {
                held = kept_alike j.keep;
                table = length-set cs (pid_of p) j.byte ∙ a.table ∙ sym (length-set ds (pid_of p) j.byte);
                byte = λ q z. set_byte (pid_of p) j.byte q cs ds a.table (a.byte q z);
              }

      own_4 : (cs ds : List ℕ) (h k : Held) → AlikeWith h cs k ds → AlikeStep (step4 t p cs h) (step4 t p ds k)
      own_4 cs ds h k a =
          subst (λ (b : ℕ). AlikeStep (step4 t p cs h) (step4_by (counted_of b (header_of p)) ds k)) (a.byte (pid_of p) own) (own_counted (counted p cs) cs ds h k a)

      own_3 : (cs ds : List ℕ) (h k : Held) → AlikeWith h cs k ds → AlikeStep (step3 t p cs h) (step3 t p ds k)
      own_3 cs ds h k a =
          cond_alike (eqb (pid_of p) null_pid || eqb (control_of p) 0) (record { held = h; counters = cs; events = [] }) (step4 t p cs h)
          (record { held = k; counters = ds; events = [] }) (step4 t p ds k) a (own_4 cs ds h k a)

      own_2 : (cs ds : List ℕ) (h k : Held) → AlikeWith h cs k ds → AlikeStep (step2 t p cs h) (step2 t p ds k)
      own_2 cs ds h k a = cond_alike (error_bit p) _ (step3 t p cs h) _ (step3 t p ds k) a (own_3 cs ds h k a)

      pub own_1 : right_sync p ≡ true → (cs ds : List ℕ) (h k : Held) → AlikeWith h cs k ds → AlikeStep (step1 t p cs h) (step1 t p ds k)
      unfolding step1
      own_1 right cs ds h k a =
          subst (λ (y : Synced). AlikeStep (after_sync t p cs h y) (step1 t p ds k)) (sym (in_sync_lem p h right a.held.left))
          (subst (λ (y : Synced). AlikeStep (step2 t p cs (synced h)) (after_sync t p ds k y)) (sym (in_sync_lem p k right a.held.right))
          (own_2 cs ds (synced h) (synced k)
          (with_tables h k (synced h) (synced k) cs ds a
          (alike_trans mine (synced h) h (synced k) (synced_alike h a.held.left)
          (alike_trans mine h k (synced k) a.held (alike_sym mine (synced k) k (synced_alike k a.held.right)))))))
