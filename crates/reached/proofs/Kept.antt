-- What every step of a packet keeps: a sound core over section memory of bytes, and a counter table of known bytes. Assumes nothing.
use mathlib.Core.Path.{◌≡◌, refl, sym, ap, ◌∙◌}
use mathlib.Core.Bool.{Bool, true, false, cond}
use mathlib.Core.List.{List, []}
use Prim.Native.Nat.{ℕ, ◌≤◌, ◌<◌}
use native.Mathlib.Omega.{arith}
use lib.Dec.{eqb}
use lib.ListN.{length, get_or, set, replicate, length-set, length-replicate, get_or-replicate, length-take, get_or-eq_default}
use lib.Seq.{get_or-set_same, get_or-set_other}
use borrow.Author.Tests.{eqb-true, eqb-false}
use Rattle.watches.specs.Tables.{fixed_tables, latest_time}
use Rattle.header.specs.Header.{right_sync, unit_start, pid_of, payload_at, payload_of}
use Rattle.sections.specs.Rooms.{memory_size, room_count, pat_room, room_base, greatest_length, half_built}
use Rattle.sections.specs.Section.{stage_of, is_more}
use Rattle.sections.specs.Building.{Finished, bad_length, whole, Job}
use Rattle.sections.proofs.Stages.{half_short, room_fits}
use Rattle.sections.proofs.Jobs.{empty_more, Within, built_within}
use Rattle.programmes.specs.Listing.{most_listed}
use Rattle.programmes.specs.Places.{half_at}
use Rattle.programmes.proofs.Moves.{halves_length}
use Rattle.programmes.proofs.Moved.{moved_length}
use Rattle.calls.specs.declared.Core.{Core}
use Rattle.calls.specs.Cores.{Held, listed, room_for, dropped_room, opened, with_sync}
use Rattle.calls.specs.Sync.{lost_now}
use Rattle.calls.specs.Steps.{arrived_table, arrived_programme, new_list, listed_by, relisted, bytes_of, built_in, job_of, counted, step1}
use Rattle.calls.specs.Calls.{table_size}
use Rattle.calls.proofs.Moves.{Among, here, there, Moves, packet_moves, sync_moves}
use Rattle.calls.proofs.Known.{KnownBytes, known_counted}
use Rattle.calls.specs.Sound.{entries_sound, room_sound}
use Rattle.reached.specs.Reached.{Bytes}
use Rattle.reached.proofs.Places.{all_set, all_replicate, all_drop}
use Rattle.reached.proofs.Built.{AllSections, some, OfBytes, built_bytes}
use Rattle.reached.proofs.Listing.{list_sound, front_sound}
use Rattle.reached.proofs.Moving.{moved_bytes_lem, moved_sound}

pub record Kept (h : Held) : Type 0 where
  pub size : length h.memory ≡ memory_size
  pub bytes : Bytes h.memory
  pub halves : length h.core.half ≡ room_count
  pub since : (k : ℕ) → get_or h.core.since k 0 ≤ latest_time
  pub count : h.core.count ≤ most_listed
  pub entries : entries_sound (listed h.core) ≡ true
  pub run : h.core.run ≤ cond h.core.lost 4 1
  pub rooms : (r : ℕ) → r < room_count → room_sound h.core.half h.memory r ≡ true

-- THE COUNTER TABLE
pub record Known (counters : List ℕ) : Type 0 where
  pub size : length counters ≡ table_size
  pub bytes : KnownBytes counters

known_kept : (p counters : List ℕ) → Known counters → Known (set counters (pid_of p) (counted p counters).byte)
known_kept p counters c = record { size = length-set counters (pid_of p) (counted p counters).byte ∙ c.size; bytes = known_counted p counters c.bytes }

-- ROOMS, where one room's length becomes n
room_other : (ns m m₀ : List ℕ) (r q n : ℕ) → (q ≡ r → ⊥) → half_built m q (half_at ns q) ≡ half_built m₀ q (half_at ns q) → room_sound ns m₀ q ≡ true
    → room_sound (set ns r n) m q ≡ true
room_other ns m m₀ r q n other same e =
    ap (λ i. is_more (stage_of (greatest_length q) (half_built m q i))) (get_or-set_other ns r q n 0 other)
    ∙ ap (λ s. is_more (stage_of (greatest_length q) s)) same
    ∙ e

room_here : (ns m : List ℕ) (r q n : ℕ) → q ≡ r → r < length ns → is_more (stage_of (greatest_length r) (half_built m r n)) ≡ true → room_sound (set ns r n) m q ≡ true
room_here ns m r q n e h more =
    ap (room_sound (set ns r n) m) e ∙ ap (λ i. is_more (stage_of (greatest_length r) (half_built m r i))) (get_or-set_same ns r n 0 h) ∙ more

-- no room has anything
rooms_empty : (m : List ℕ) (r : ℕ) → r < room_count → room_sound (replicate room_count 0) m r ≡ true
rooms_empty m r h = ap (λ n. is_more (stage_of (greatest_length r) (half_built m r n))) (get_or-replicate room_count r 0 0 h) ∙ empty_more m r

-- OPENING
pub opened_kept : (t : ℕ) (m : List ℕ) → t ≤ latest_time → length m ≡ memory_size → Bytes m → Kept (record { core = opened t; memory = m })
unfolding entries_sound
opened_kept t m h l b =
    record {
      size = l;
      bytes = b;
      halves = length-replicate {A = ℕ} room_count 0;
      since = all_replicate (λ x. x ≤ latest_time) (length fixed_tables) t h (omega arith);
      count = omega arith;
      entries = refl;
      run = omega arith;
      rooms = rooms_empty m;
    }

-- STEP 1: sync
module _ (c : Core) (m : List ℕ) (k : Kept (record { core = c; memory = m })) where
  with_sync_lem : (lost : Bool) (run : ℕ) → run ≤ cond lost 4 1 → Kept (record { core = with_sync lost run c; memory = m })
  with_sync_lem lost run h =
      record { size = k.size; bytes = k.bytes; halves = k.halves; since = k.since; count = k.count; entries = k.entries; run = h; rooms = k.rooms }

  lost_now_lem : Kept (record { core = lost_now c; memory = m })
  lost_now_lem =
      record {
        size = k.size;
        bytes = k.bytes;
        halves = length-replicate {A = ℕ} room_count 0;
        since = k.since;
        count = k.count;
        entries = k.entries;
        run = omega arith;
        rooms = rooms_empty m;
      }

-- A ROOM'S LENGTH becomes that of a job there, or 0
pub built_in_kept : (r : ℕ) (j : Job) (h : Held) → r < room_count → Kept h → Within r h.memory j → OfBytes j → Kept (built_in r j h)
built_in_kept r j h room k w b =
    record {
      size = w.size;
      bytes = b.memory;
      halves = length-set h.core.half r j.half ∙ k.halves;
      since = k.since;
      count = k.count;
      entries = k.entries;
      run = k.run;
      rooms = λ q g. go q g (eqb q r) refl;
    }
  where
    go : (q : ℕ) → q < room_count → (t : Bool) → eqb q r ≡ t → room_sound (set h.core.half r j.half) j.memory q ≡ true
    go q g true e = room_here h.core.half j.memory r q j.half (eqb-true q r e) (omega (arith, k.halves)) w.more
    go q g false e =
        let short = half_short h.memory (room_base q) (greatest_length q) (half_at h.core.half q) (omega (arith, room_fits q g, k.size)) (k.rooms q g) in
        room_other h.core.half j.memory h.memory r q j.half (eqb-false q r e)
        (w.others q (half_at h.core.half q) g (λ z. eqb-false q r e (sym z)) (omega arith)) (k.rooms q g)

pub dropped_kept : (r : ℕ) (h : Held) → Kept h → Kept (dropped_room r h)
dropped_kept r h k =
    record {
      size = k.size;
      bytes = k.bytes;
      halves = length-set h.core.half r 0 ∙ k.halves;
      since = k.since;
      count = k.count;
      entries = k.entries;
      run = k.run;
      rooms = λ q g. go q g (eqb q r) refl;
    }
  where
    go : (q : ℕ) → q < room_count → (t : Bool) → eqb q r ≡ t → room_sound (set h.core.half r 0) h.memory q ≡ true
    go q g true e = room_here h.core.half h.memory r q 0 (eqb-true q r e) (omega (arith, k.halves, eqb-true q r e)) (empty_more h.memory r)
    go q g false e = room_other h.core.half h.memory h.memory r q 0 (eqb-false q r e) refl (k.rooms q g)

-- A GOOD SECTION at a sound time
module _ (t : ℕ) (time : t ≤ latest_time) where
  table_kept : (r : ℕ) (h : Held) → Kept h → Kept (record { core = arrived_table t r h.core; memory = h.memory })
  table_kept r h k =
      record {
        size = k.size;
        bytes = k.bytes;
        halves = k.halves;
        since = all_set (λ x. x ≤ latest_time) h.core.since r t time k.since;
        count = k.count;
        entries = k.entries;
        run = k.run;
        rooms = k.rooms;
      }

  programme_kept : (n q : ℕ) (h : Held) → Kept h → Kept (record { core = arrived_programme n q t h.core; memory = h.memory })
  programme_kept n q h k =
      record {
        size = k.size;
        bytes = k.bytes;
        halves = k.halves;
        since = k.since;
        count = k.count;
        entries = front_sound n q t time h.core.count h.core.entries k.entries;
        run = k.run;
        rooms = k.rooms;
      }

  relisted_kept : (s : List ℕ) (h : Held) → Bytes s → Kept h → Kept (relisted t s h)
  relisted_kept s h b k =
      let old = listed h.core in
      let new = listed_by (new_list t s h.core) in
      let read = list_sound t old time k.entries s b in
      let most : length old ≤ most_listed = omega (arith, length-take h.core.count h.core.entries, k.count) in
      record {
        size = moved_length old new h.core.half h.memory ∙ k.size;
        bytes = moved_bytes_lem old new h.core.half h.memory k.size k.halves most k.rooms k.bytes;
        halves = halves_length old new h.core.half k.halves;
        since = all_set (λ x. x ≤ latest_time) h.core.since pat_room t time k.since;
        count = read.count;
        entries = read.entries;
        run = k.run;
        rooms = moved_sound old new h.core.half h.memory k.size k.halves most k.rooms;
      }

  -- THE SECTIONS of a payload have bytes
  section_bytes : (f : Finished) (fs : List Finished) → Among f fs → AllSections fs → Bytes (bytes_of f)
  section_bytes bad_length fs here (some x xs b all) k = omega (arith, get_or-eq_default {A = ℕ} [] 0 {n = k} (omega arith))
  section_bytes (whole s) fs here (some x xs b all) k = b k
  section_bytes f fs (there a) (some x xs b all) k = section_bytes f xs a all k

  -- THE WHOLE PACKET, with the table
  abbrev BothKept : Held → List ℕ → Type 0
  BothKept h cs = Kept h × Known cs

  module _ (p : List ℕ) (b : Bytes p) where
    within : (g : Held) (r : ℕ) → r < room_count → Kept g → Within r g.memory (job_of r (unit_start p) (payload_of p) g)
    within g r inside k = built_within r g.memory inside (half_at g.core.half r) (unit_start p) (payload_of p) (k.rooms r inside) k.size

    of_bytes : (g : Held) (r : ℕ) → Kept g → OfBytes (job_of r (unit_start p) (payload_of p) g)
    of_bytes g r k = built_bytes r g.memory (half_at g.core.half r) (unit_start p) (payload_of p) k.bytes (all_drop (λ x. x < 256) (payload_at p) p b)

    moves : Moves t p BothKept
    moves =
        record {
          synced = λ h cs k. (
            sync_moves (λ (c : Core). Kept (record { core = c; memory = h.memory })) h.core
                (λ lost run sound. with_sync_lem h.core h.memory k.0 lost run (sound k.0.run)) (lost_now_lem h.core h.memory k.0) (right_sync p),
            k.1,
          );
          byte = λ h cs k. (k.0, known_kept p cs k.1);
          dropped = λ h cs k. (dropped_kept (room_for h.core (pid_of p)) h k.0, k.1);
          built = λ h cs inside k. (built_in_kept (room_for h.core (pid_of p)) _ h inside k.0 (within h (room_for h.core (pid_of p)) inside k.0) (of_bytes h (room_for h.core (pid_of p)) k.0), k.1);
          table = λ g h cs r f from before k. (table_kept r h k.0, k.1);
          page = λ g h cs r f from before k n. (programme_kept n (pid_of p) h k.0, k.1);
          list = λ g h cs f from k l. (relisted_kept (bytes_of f) h (section_bytes f _ from.among (of_bytes g pat_room k.0).finished) l.0, l.1);
        }

    pub packet_kept : (counters : List ℕ) (h : Held) → Kept h → Known counters → Kept (step1 t p counters h).held × Known (step1 t p counters h).counters
    packet_kept counters h k c = packet_moves t p BothKept moves counters h (k, c)
