-- Each PID has a room of its own, and what is half-built in it is found again after a room changes or a list is read. Assumes nothing.
use mathlib.Core.Path.{◌≡◌, refl, sym, ap, ◌∙◌, subst}
use mathlib.Core.Logic.{◌≢◌}
use mathlib.Core.Bool.{Bool, true, false, cond}
use mathlib.Core.List.{List, [], ◌∷◌}
use Prim.Native.Nat.{ℕ, suc, ◌+◌, ◌-◌, ◌≤◌, ◌<◌}
use native.Mathlib.Nat.{le_of_suc-le-suc, not-suc-le-zero}
use native.Mathlib.Omega.{arith}
use lib.Dec.{ltb, eqb}
use lib.ListN.{length, get_or, set, length-set, get_or-eq_default}
use lib.Seq.{length-take-le, get_or-set_same, get_or-set_other}
use borrow.Author.Tests.{lt-ltb, le-ltb, ltb-true, eqb-true, eqb-false}
use Rattle.lists.specs.Places.{part}
use Rattle.lists.proofs.Tests.{Order, below, from, order}
use Rattle.watches.specs.declared.Entry.{Entry}
use Rattle.watches.specs.declared.Table.{Table}
use Rattle.watches.specs.Tables.{fixed_tables, table_of, pmt_table, latest_time}
use Rattle.sections.specs.Rooms.{memory_size, room_count, no_room, room_of_place, greatest_length, half_built}
use Rattle.sections.specs.Section.{stage_of, is_more}
use Rattle.programmes.specs.Listing.{most_listed}
use Rattle.programmes.specs.Places.{place_of, is_listed, pid_at, half_at}
use Rattle.calls.specs.declared.Core.{Core}
use Rattle.calls.specs.Cores.{listed, Held, fixed_room, room_for, with_half}
use Rattle.demands.proofs.OthersRooms.{goes_on_short}
use Rattle.demands.proofs.OthersLists.{Timely}

-- what is half-built in a room, and of a PID
abbrev pub bytes_in : Held → ℕ → List ℕ
bytes_in h r = half_built h.memory r (half_at h.core.half r)

abbrev pub bytes_for : Held → ℕ → List ℕ
bytes_for h q = bytes_in h (room_for h.core q)

-- A STATE in sync with all its places, whose half-built sections go on, and no gap start of which is above 2^62
pub record Shaped (h : Held) : Type 0 where
  pub in_sync : h.core.lost ≡ false
  pub run : h.core.run ≤ 1
  pub memory : length h.memory ≡ memory_size
  pub half : length h.core.half ≡ room_count
  pub since : length h.core.since ≡ length fixed_tables
  pub entries : length h.core.entries ≡ most_listed
  pub count : h.core.count ≤ most_listed
  pub more : (r : ℕ) → r < room_count → is_more (stage_of (greatest_length r) (bytes_in h r)) ≡ true
  pub times : (k : ℕ) → get_or h.core.since k 0 ≤ latest_time
  pub starts : Timely (listed h.core)

pub shaped_fits : (h : Held) → Shaped h → (r : ℕ) → r < room_count → half_at h.core.half r < greatest_length r + 3
shaped_fits h s r l = goes_on_short r l h.memory (half_at h.core.half r) s.memory (s.more r l)

pub listed_length : (h : Held) → Shaped h → length (listed h.core) ≤ most_listed
listed_length h s = omega (arith, length-take-le h.core.count h.core.entries (omega (arith, s.count, s.entries)), s.count)

abbrev pub IsFixed : ℕ → Type 0
IsFixed q = fixed_room q fixed_tables < length fixed_tables

-- THE ROOM OF A PID
fixed_pid : (q : ℕ) (ts : List Table) (d : Table) → fixed_room q ts < length ts → (get_or ts (fixed_room q ts) d).pid ≡ q
unfolding fixed_room
fixed_pid q [] d h = absurd (not-suc-le-zero h)
fixed_pid q (r ∷ ts) d h = go (eqb r.pid q) refl h (fixed_pid q ts d)
  where
    go : (b : Bool) → eqb r.pid q ≡ b → cond b 0 (suc (fixed_room q ts)) < suc (length ts) → (fixed_room q ts < length ts → (get_or ts (fixed_room q ts) d).pid ≡ q)
        → (get_or (r ∷ ts) (cond b 0 (suc (fixed_room q ts))) d).pid ≡ q
    go true e l rest = eqb-true r.pid q e
    go false e l rest = rest (le_of_suc-le-suc l)

pub place_pid : (q : ℕ) (es : List Entry) → place_of q es < length es → pid_at es (place_of q es) ≡ q
unfolding place_of
place_pid q [] h = absurd (not-suc-le-zero h)
place_pid q (e ∷ es) h = go (eqb e.pid q) refl h (place_pid q es)
  where
    go : (b : Bool) → eqb e.pid q ≡ b → cond b 0 (suc (place_of q es)) < suc (length es) → (place_of q es < length es → pid_at es (place_of q es) ≡ q)
        → pid_at (e ∷ es) (cond b 0 (suc (place_of q es))) ≡ q
    go true x l rest = eqb-true e.pid q x
    go false x l rest = rest (le_of_suc-le-suc l)

pub room_fixed : (c : Core) (q : ℕ) → IsFixed q → room_for c q ≡ fixed_room q fixed_tables
unfolding room_for
room_fixed c q h = rw (lt-ltb (fixed_room q fixed_tables) 5 h)

pub data Housed (c : Core) (q : ℕ) : Type 0 where
  at_table : IsFixed q → room_for c q ≡ fixed_room q fixed_tables → Housed c q
  at_place : (IsFixed q → ⊥) → place_of q (listed c) < length (listed c) → room_for c q ≡ room_of_place (place_of q (listed c)) → Housed c q
  nowhere : (IsFixed q → ⊥) → is_listed q (listed c) ≡ false → room_for c q ≡ no_room → Housed c q

pub housed : (c : Core) (q : ℕ) → Housed c q
unfolding room_for
housed c q = go (order (fixed_room q fixed_tables) 5) (is_listed q (listed c)) refl
  where
    go : Order (fixed_room q fixed_tables) 5 → (b : Bool) → is_listed q (listed c) ≡ b → Housed c q
    go (below l) b e = at_table l (rw (lt-ltb (fixed_room q fixed_tables) 5 l))
    go (from l) true e =
        at_place (λ z. omega (arith, z, l)) (ltb-true (place_of q (listed c)) (length (listed c)) e) (rw (le-ltb (fixed_room q fixed_tables) 5 l, e))
    go (from l) false e = nowhere (λ z. omega (arith, z, l)) e (rw (le-ltb (fixed_room q fixed_tables) 5 l, e))

-- and the PID of a room
abbrev pid_of_room : List Entry → ℕ → ℕ
pid_of_room es r = cond (ltb r (length fixed_tables)) (table_of r).pid (pid_at es (r - length fixed_tables))

room_pid : (c : Core) (q : ℕ) → Housed c q → room_for c q < room_count → pid_of_room (listed c) (room_for c q) ≡ q
room_pid c q (at_table f e) h = ap (pid_of_room (listed c)) e ∙ rw (lt-ltb (fixed_room q fixed_tables) 5 f) (fixed_pid q fixed_tables pmt_table f)
room_pid c q (at_place f l e) h =
    ap (pid_of_room (listed c)) e
    ∙ rw (le-ltb (room_of_place (place_of q (listed c))) 5 (omega arith)) (ap (pid_at (listed c)) (omega arith) ∙ place_pid q (listed c) l)
room_pid c q (nowhere f l e) h = absurd (omega (arith, e, h))

pub rooms_apart : (c : Core) (q p : ℕ) → q ≢ p → room_for c q < room_count → room_for c q ≢ room_for c p
rooms_apart c q p apart h e =
    apart (sym (room_pid c q (housed c q) h) ∙ ap (pid_of_room (listed c)) e ∙ room_pid c p (housed c p) (omega (arith, e, h)))

-- a section of a fixed table comes on its PID
pub table_pid : (c : Core) (q : ℕ) → room_for c q < length fixed_tables → (table_of (room_for c q)).pid ≡ q
table_pid c q h = ap (λ b. cond b (table_of (room_for c q)).pid (pid_at (listed c) (room_for c q - 5))) (sym (lt-ltb (room_for c q) 5 h)) ∙ room_pid c q (housed c q) (omega (arith, h))

-- A ROOM CHANGES: its half-built length becomes n, section memory m
abbrev pub changed : ℕ → ℕ → List ℕ → Held → Held
changed r n m h = record { core = with_half (set h.core.half r n) h.core; memory = m }

abbrev pub OthersKept : ℕ → List ℕ → Held → Type 0
OthersKept r m h = (q n : ℕ) → q < room_count → r ≢ q → n ≤ greatest_length q + 3 → half_built m q n ≡ half_built h.memory q n

module _ (r n : ℕ) (m : List ℕ) (h : Held) (s : Shaped h) where
  pub changed_own : r < room_count → bytes_in (changed r n m h) r ≡ half_built m r n
  changed_own l = ap (half_built m r) (get_or-set_same h.core.half r n 0 (omega (arith, s.half)))

  pub changed_other : OthersKept r m h → (q : ℕ) → r ≢ q → bytes_in (changed r n m h) q ≡ bytes_in h q
  unfolding part
  changed_other o q apart = ap (half_built m q) (get_or-set_other h.core.half r q n 0 (λ e. apart (sym e))) ∙ go (order q room_count)
    where
      go : Order q room_count → half_built m q (half_at h.core.half q) ≡ half_built h.memory q (half_at h.core.half q)
      go (below l) = o q (half_at h.core.half q) l apart (omega (arith, shaped_fits h s q l))
      go (from l) =
          let none : half_at h.core.half q ≡ 0 = get_or-eq_default h.core.half 0 {n = q} (omega (arith, s.half, l)) in
          ap (half_built m q) none ∙ ap (half_built h.memory q) (sym none)

  pub changed_shaped : is_more (stage_of (greatest_length r) (half_built m r n)) ≡ true → length m ≡ memory_size → OthersKept r m h → Shaped (changed r n m h)
  changed_shaped goes size o =
      record {
        in_sync = s.in_sync;
        run = s.run;
        memory = size;
        half = length-set h.core.half r n ∙ s.half;
        since = s.since;
        entries = s.entries;
        count = s.count;
        more = λ q l. go q l (eqb r q) refl;
        times = s.times;
        starts = s.starts;
      }
    where
      go : (q : ℕ) → q < room_count → (b : Bool) → eqb r q ≡ b → is_more (stage_of (greatest_length q) (bytes_in (changed r n m h) q)) ≡ true
      go q l true e =
          let same : r ≡ q = eqb-true r q e in
          subst (λ (i : ℕ). is_more (stage_of (greatest_length i) (bytes_in (changed r n m h) i)) ≡ true) same
          (ap (λ z. is_more (stage_of (greatest_length r) z)) (changed_own (omega (arith, same, l))) ∙ goes)
      go q l false e = ap (λ z. is_more (stage_of (greatest_length q) z)) (changed_other o q (eqb-false r q e)) ∙ s.more q l

-- a PID without a room has nothing half-built
pub bytes_nowhere : (h : Held) → Shaped h → (r : ℕ) → room_count ≤ r → bytes_in h r ≡ []
unfolding part
bytes_nowhere h s r l = ap (half_built h.memory r) (get_or-eq_default h.core.half 0 {n = r} (omega (arith, s.half, l)))
