-- What an accepted call was given, from the ladder of refusals; the two ends of a call; and what a sound state holds. Assumes nothing.
use mathlib.Core.Path.{◌≡◌, refl, sym, ap, ◌∙◌}
use mathlib.Core.Bool.{Bool, true, false, cond, not, ◌&&◌, true≢false}
use mathlib.Core.List.{List, [], ◌∷◌}
use Prim.Native.Nat.{ℕ, zero, suc, ◌+◌, ◌≤◌, ◌<◌}
use native.Mathlib.Nat.{le_of_suc-le-suc, not-suc-le-zero}
use native.Mathlib.Omega.{arith}
use lib.Dec.{leb, ltb, eqb}
use lib.ListN.{length, get_or, length-take, get_or-eq_default}
use lib.Seq.{get_or-take}
use borrow.Author.Tests.{ltb-false, leb-true, eqb-true, eqb-false, le-ltb, le-leb, eq-eqb, ne_eqb, not-true}
use Rattle.lists.proofs.Tests.{and_left, and_right, and_intro, Order, below, from, order}
use Rattle.events.specs.Capacity.{least_capacity}
use Rattle.watches.specs.declared.Entry.{Entry}
use Rattle.watches.specs.Tables.{no_entry, latest_time}
use Rattle.header.specs.Header.{packet_size}
use Rattle.sections.specs.Section.{stage_of, is_more}
use Rattle.sections.proofs.Jobs.{empty_more}
use Rattle.sections.specs.Rooms.{room_count, greatest_length, half_built}
use Rattle.programmes.specs.Places.{half_at}
use Rattle.programmes.specs.Listing.{most_listed, lowest_pid}
use Rattle.calls.specs.declared.State.{State}
use Rattle.calls.specs.Cores.{listed}
use Rattle.calls.specs.Sound.{greatest_pid, time_sound, times_sound, number_among, entry_sound, entries_sound, run_sound, room_sound, rooms_from, rooms_sound, state_sound, byte_sound}
use Rattle.calls.specs.Calls.{Result, table_size, open_refusal, packet_refusal, clock_refusal, refused_with, accepted_packet, accepted_clock, packet_call, clock_call}

-- A RUNG that is passed on the way to 0
rung_right : (b : Bool) (n next : ℕ) → cond b next (suc n) ≡ 0 → (b ≡ true) × (next ≡ 0)
rung_right true n next e = (refl, e)
rung_right false n next e = absurd (omega arith)

rung_wrong : (b : Bool) (n next : ℕ) → cond b (suc n) next ≡ 0 → (b ≡ false) × (next ≡ 0)
rung_wrong true n next e = absurd (omega arith)
rung_wrong false n next e = (refl, e)

-- OPENING
pub record OpenAccepted (t : ℕ) (counters : List ℕ) : Type 0 where
  pub table : length counters ≡ table_size
  pub time : t ≤ latest_time

pub open_accepted : (t : ℕ) (counters : List ℕ) → open_refusal t counters ≡ 0 → OpenAccepted t counters
unfolding open_refusal
open_accepted t counters e =
    let two = rung_right (eqb (length counters) table_size) 1 (cond (time_sound t) 0 4) e in
    let four = rung_right (time_sound t) 3 0 two.1 in
    record { table = eqb-true (length counters) table_size two.0; time = leb-true t latest_time four.0 }

-- A CLOCK CALL
pub record ClockAccepted (s : State) (t : ℕ) (m : List ℕ) (records : ℕ) : Type 0 where
  pub capacity : least_capacity ≤ records
  pub time : t ≤ latest_time
  pub sound : state_sound s m ≡ true
  pub order : s.latest ≤ t

abbrev last_rungs : State → ℕ → Bool → ℕ
last_rungs s t sound = cond (time_sound t) (cond sound (cond (ltb t s.latest) 6 0) 5) 4

abbrev room_rung : State → ℕ → Bool → ℕ → ℕ
room_rung s t sound capacity = cond (ltb capacity least_capacity) 3 (last_rungs s t sound)

-- what both calls are asked
record Asked (s : State) (t : ℕ) (five : Bool) (records : ℕ) : Type 0 where
  capacity : least_capacity ≤ records
  time : t ≤ latest_time
  sound : five ≡ true
  order : s.latest ≤ t

asked : (s : State) (t : ℕ) (sound : Bool) (capacity : ℕ) → room_rung s t sound capacity ≡ 0 → Asked s t sound capacity
asked s t sound capacity e =
    let three = rung_wrong (ltb capacity least_capacity) 2 (last_rungs s t sound) e in
    let four = rung_right (time_sound t) 3 (cond sound (cond (ltb t s.latest) 6 0) 5) three.1 in
    let five = rung_right sound 4 (cond (ltb t s.latest) 6 0) four.1 in
    let six = rung_wrong (ltb t s.latest) 5 0 five.1 in
    record {
      capacity = ltb-false capacity least_capacity three.0;
      time = leb-true t latest_time four.0;
      sound = five.0;
      order = ltb-false t s.latest six.0;
    }

granted : (s : State) (t : ℕ) (sound : Bool) (capacity : ℕ) → least_capacity ≤ capacity → t ≤ latest_time → sound ≡ true → s.latest ≤ t → room_rung s t sound capacity ≡ 0
granted s t sound capacity r h e o = rw (le-ltb capacity least_capacity r, le-leb t latest_time h, e, le-ltb t s.latest o)

pub clock_accepted : (s : State) (t : ℕ) (m : List ℕ) (capacity : ℕ) → clock_refusal s t m capacity ≡ 0 → ClockAccepted s t m capacity
unfolding clock_refusal
clock_accepted s t m capacity e =
    let a = asked s t (state_sound s m) capacity e in
    record { capacity = a.capacity; time = a.time; sound = a.sound; order = a.order }

pub accepted_clock_lem : (s : State) (t : ℕ) (m : List ℕ) (capacity : ℕ) → ClockAccepted s t m capacity → clock_refusal s t m capacity ≡ 0
unfolding clock_refusal
accepted_clock_lem s t m capacity a = granted s t (state_sound s m) capacity a.capacity a.time a.sound a.order

-- A PACKET CALL
pub record PacketAccepted (s : State) (t : ℕ) (p counters m : List ℕ) (records : ℕ) : Type 0 where
  pub packet : length p ≡ packet_size
  pub table : length counters ≡ table_size
  pub capacity : least_capacity ≤ records
  pub time : t ≤ latest_time
  pub sound : state_sound s m ≡ true
  pub byte : byte_sound counters p ≡ true
  pub order : s.latest ≤ t

module _ (s : State) (t : ℕ) (p counters m : List ℕ) (capacity : ℕ) where
  pub packet_accepted : packet_refusal s t p counters m capacity ≡ 0 → PacketAccepted s t p counters m capacity
  unfolding packet_refusal
  packet_accepted e =
      let five = state_sound s m && byte_sound counters p in
      let one = rung_right (eqb (length p) packet_size) 0 (cond (eqb (length counters) table_size) (room_rung s t five capacity) 2) e in
      let two = rung_right (eqb (length counters) table_size) 1 (room_rung s t five capacity) one.1 in
      let a = asked s t five capacity two.1 in
      record {
        packet = eqb-true (length p) packet_size one.0;
        table = eqb-true (length counters) table_size two.0;
        capacity = a.capacity;
        time = a.time;
        sound = and_left (state_sound s m) (byte_sound counters p) a.sound;
        byte = and_right (state_sound s m) (byte_sound counters p) a.sound;
        order = a.order;
      }

  pub accepted_packet_lem : PacketAccepted s t p counters m capacity → packet_refusal s t p counters m capacity ≡ 0
  unfolding packet_refusal
  accepted_packet_lem a =
      rw (eq-eqb (length p) packet_size a.packet, eq-eqb (length counters) table_size a.table)
      (granted s t (state_sound s m && byte_sound counters p) capacity a.capacity a.time (both a.sound a.byte) a.order)
    where
      both : state_sound s m ≡ true → byte_sound counters p ≡ true → (state_sound s m && byte_sound counters p) ≡ true
      both e h = rw (e, h)

  -- THE TWO ENDS of a call
  pub packet_call_accepted : packet_refusal s t p counters m capacity ≡ 0 → packet_call s t p counters m capacity ≡ accepted_packet s t p counters m
  unfolding packet_call
  packet_call_accepted e = rw (eq-eqb (packet_refusal s t p counters m capacity) 0 e)

  pub packet_call_refused : (packet_refusal s t p counters m capacity ≡ 0 → ⊥)
      → packet_call s t p counters m capacity ≡ refused_with (packet_refusal s t p counters m capacity) s counters m
  unfolding packet_call
  packet_call_refused e = rw (ne_eqb (packet_refusal s t p counters m capacity) 0 e)

module _ (s : State) (t : ℕ) (m : List ℕ) (capacity : ℕ) where
  pub clock_call_accepted : clock_refusal s t m capacity ≡ 0 → clock_call s t m capacity ≡ accepted_clock s t [] m
  unfolding clock_call
  clock_call_accepted e = rw (eq-eqb (clock_refusal s t m capacity) 0 e)

  pub clock_call_refused : (clock_refusal s t m capacity ≡ 0 → ⊥) → clock_call s t m capacity ≡ refused_with (clock_refusal s t m capacity) s [] m
  unfolding clock_call
  clock_call_refused e = rw (ne_eqb (clock_refusal s t m capacity) 0 e)

-- THE NUMBER that a call answers is its refusal
answered : (n : ℕ) (s : State) (counters m : List ℕ) (x : Result) → x.refusal ≡ 0 → (cond (eqb n 0) x (refused_with n s counters m)).refusal ≡ n
answered n s counters m x e = go (eqb n 0) refl
  where
    go : (b : Bool) → eqb n 0 ≡ b → (cond b x (refused_with n s counters m)).refusal ≡ n
    go true h = e ∙ sym (eqb-true n 0 h)
    go false h = refl

pub packet_number : (s : State) (t : ℕ) (p counters m : List ℕ) (capacity : ℕ) → (packet_call s t p counters m capacity).refusal ≡ packet_refusal s t p counters m capacity
unfolding packet_call
packet_number s t p counters m capacity = answered (packet_refusal s t p counters m capacity) s counters m (accepted_packet s t p counters m) refl

pub clock_number : (s : State) (t : ℕ) (m : List ℕ) (capacity : ℕ) → (clock_call s t m capacity).refusal ≡ clock_refusal s t m capacity
unfolding clock_call
clock_number s t m capacity = answered (clock_refusal s t m capacity) s [] m (accepted_clock s t [] m) refl

-- A SOUND STATE, part by part
pub record SoundEntry (e : Entry) : Type 0 where
  pub number : e.number ≡ 0 → ⊥
  pub low : lowest_pid ≤ e.pid
  pub high : e.pid ≤ greatest_pid
  pub since : e.since ≤ latest_time

pub record SoundList (es : List Entry) : Type 0 where
  pub each : (k : ℕ) → k < length es → SoundEntry (get_or es k no_entry)
  pub apart : (i k : ℕ) → i < k → k < length es → (get_or es i no_entry).number ≡ (get_or es k no_entry).number → ⊥

pub record Sound (s : State) (m : List ℕ) : Type 0 where
  pub latest : s.latest ≤ latest_time
  pub since : (k : ℕ) → get_or s.core.since k 0 ≤ latest_time
  pub count : s.core.count ≤ most_listed
  pub entries : SoundList (listed s.core)
  pub run : s.core.run ≤ cond s.core.lost 4 1
  pub rooms : (r : ℕ) → r < room_count → room_sound s.core.half m r ≡ true

-- times
times_at : (ts : List ℕ) → times_sound ts ≡ true → (k : ℕ) → get_or ts k 0 ≤ latest_time
unfolding times_sound
times_at [] e k = omega (arith, get_or-eq_default {A = ℕ} [] 0 {n = k} (omega arith))
times_at (t ∷ ts) e zero = leb-true t latest_time (and_left (time_sound t) (times_sound ts) e)
times_at (t ∷ ts) e (suc k) = times_at ts (and_right (time_sound t) (times_sound ts) e) k

times_whole : (ts : List ℕ) → ((k : ℕ) → get_or ts k 0 ≤ latest_time) → times_sound ts ≡ true
unfolding times_sound
times_whole [] h = refl
times_whole (t ∷ ts) h = and_intro (time_sound t) (times_sound ts) (le-leb t latest_time (h 0)) (times_whole ts (λ k. h (suc k)))

-- entries
pub entry_parts : (e : Entry) → entry_sound e ≡ true → SoundEntry e
entry_parts e h =
    let a = not (eqb e.number 0) in
    let b = leb lowest_pid e.pid in
    let c = leb e.pid greatest_pid in
    let d = time_sound e.since in
    let abc = and_left (a && b && c) d h in
    let ab = and_left (a && b) c abc in
    record {
      number = eqb-false e.number 0 (not-true (eqb e.number 0) (and_left a b ab));
      low = leb-true lowest_pid e.pid (and_right a b ab);
      high = leb-true e.pid greatest_pid (and_right (a && b) c abc);
      since = leb-true e.since latest_time (and_right (a && b && c) d h);
    }

pub entry_whole : (e : Entry) → SoundEntry e → entry_sound e ≡ true
entry_whole e h =
    rw (
      ne_eqb e.number 0 h.number,
      le-leb lowest_pid e.pid h.low,
      le-leb e.pid greatest_pid h.high,
      le-leb e.since latest_time h.since,
    )

abbrev pub NoneIn : ℕ → List Entry → Type 0
NoneIn n es = (k : ℕ) → k < length es → (get_or es k no_entry).number ≡ n → ⊥

pub among_none : (n : ℕ) (es : List Entry) → number_among n es ≡ false → NoneIn n es
unfolding number_among
among_none n [] e k h = absurd (not-suc-le-zero h)
among_none n (x ∷ es) e k h = go (eqb x.number n) refl e (among_none n es) k h
  where
    go : (b : Bool) → eqb x.number n ≡ b → cond b true (number_among n es) ≡ false → (number_among n es ≡ false → NoneIn n es) → NoneIn n (x ∷ es)
    go true q z ih k h = absurd (true≢false z)
    go false q z ih zero h = eqb-false x.number n q
    go false q z ih (suc k) h = ih z k (le_of_suc-le-suc h)

pub none_among : (n : ℕ) (es : List Entry) → NoneIn n es → number_among n es ≡ false
unfolding number_among
none_among n [] h = refl
none_among n (x ∷ es) h = rw (ne_eqb x.number n (h 0 (omega arith))) (none_among n es (λ k l. h (suc k) (omega arith)))

pub entries_parts : (es : List Entry) → entries_sound es ≡ true → SoundList es
unfolding entries_sound
entries_parts [] e = record { each = λ k h. absurd (not-suc-le-zero h); apart = λ i k l h. absurd (not-suc-le-zero h) }
entries_parts (x ∷ es) e = go (entries_parts es (and_right (entry_sound x && not (number_among x.number es)) (entries_sound es) e))
  where
    first : (entry_sound x && not (number_among x.number es)) ≡ true
    first = and_left (entry_sound x && not (number_among x.number es)) (entries_sound es) e

    alone : number_among x.number es ≡ false
    alone = not-true (number_among x.number es) (and_right (entry_sound x) (not (number_among x.number es)) first)

    each : SoundList es → (k : ℕ) → k < length (x ∷ es) → SoundEntry (get_or (x ∷ es) k no_entry)
    each rest zero h = entry_parts x (and_left (entry_sound x) (not (number_among x.number es)) first)
    each rest (suc k) h = rest.each k (le_of_suc-le-suc h)

    apart : SoundList es → (i k : ℕ) → i < k → k < length (x ∷ es) → (get_or (x ∷ es) i no_entry).number ≡ (get_or (x ∷ es) k no_entry).number → ⊥
    apart rest i zero l h q = absurd (not-suc-le-zero l)
    apart rest zero (suc k) l h q = among_none x.number es alone k (le_of_suc-le-suc h) (sym q)
    apart rest (suc i) (suc k) l h q = rest.apart i k (le_of_suc-le-suc l) (le_of_suc-le-suc h) q

    go : SoundList es → SoundList (x ∷ es)
    go rest = record { each = each rest; apart = apart rest }

pub entries_whole : (es : List Entry) → SoundList es → entries_sound es ≡ true
unfolding entries_sound
entries_whole [] h = refl
entries_whole (x ∷ es) h =
    rw (entry_whole x (h.each 0 (omega arith)), none_among x.number es alone)
    (entries_whole es (record { each = λ k l. h.each (suc k) (omega arith); apart = λ i k l g. h.apart (suc i) (suc k) (omega arith) (omega arith) }))
  where
    alone : (k : ℕ) → k < length es → (get_or es k no_entry).number ≡ x.number → ⊥
    alone k l q = h.apart 0 (suc k) (omega arith) (omega arith) (sym q)

-- rooms: one with nothing half-built is to be built on
pub room_empty : (ns m : List ℕ) (r : ℕ) → half_at ns r ≡ 0 → room_sound ns m r ≡ true
room_empty ns m r e = ap (λ (n : ℕ). is_more (stage_of (greatest_length r) (half_built m r n))) e ∙ empty_more m r

pub rooms_at : (ns m : List ℕ) (a left : ℕ) → rooms_from ns m a left ≡ true → (r : ℕ) → a ≤ r → r < a + left → room_sound ns m r ≡ true
unfolding rooms_from
rooms_at ns m a zero e r h g = absurd (omega arith)
rooms_at ns m a (suc left) e r h g = go (rooms_at ns m (a + 1) left (and_right (room_sound ns m a) (rooms_from ns m (a + 1) left) e) r) (order a r)
  where
    go : (a + 1 ≤ r → r < a + 1 + left → room_sound ns m r ≡ true) → Order a r → room_sound ns m r ≡ true
    go rest (below l) = rest (omega arith) (omega arith)
    go rest (from l) =
        let same : r ≡ a = omega arith in
        ap (room_sound ns m) same ∙ and_left (room_sound ns m a) (rooms_from ns m (a + 1) left) e

pub rooms_whole : (ns m : List ℕ) (a left : ℕ) → ((r : ℕ) → a ≤ r → r < a + left → room_sound ns m r ≡ true) → rooms_from ns m a left ≡ true
unfolding rooms_from
rooms_whole ns m a zero h = refl
rooms_whole ns m a (suc left) h =
    and_intro (room_sound ns m a) (rooms_from ns m (a + 1) left) (h a (omega arith) (omega arith))
    (rooms_whole ns m (a + 1) left (λ r l g. h r (omega arith) (omega arith)))

-- all of it
pub sound_parts : (s : State) (m : List ℕ) → state_sound s m ≡ true → Sound s m
unfolding state_sound
sound_parts s m e =
    let a = time_sound s.latest in
    let b = times_sound s.core.since in
    let c = leb s.core.count most_listed in
    let d = entries_sound (listed s.core) in
    let f = run_sound s.core in
    let g = rooms_sound s.core.half m in
    let abcd = and_left (a && b && c && d) (f && g) e in
    let fg = and_right (a && b && c && d) (f && g) e in
    let abc = and_left (a && b && c) d abcd in
    let ab = and_left (a && b) c abc in
    record {
      latest = leb-true s.latest latest_time (and_left a b ab);
      since = times_at s.core.since (and_right a b ab);
      count = leb-true s.core.count most_listed (and_right (a && b) c abc);
      entries = entries_parts (listed s.core) (and_right (a && b && c) d abcd);
      run = leb-true s.core.run (cond s.core.lost 4 1) (and_left f g fg);
      rooms = λ r h. rooms_at s.core.half m 0 room_count (and_right f g fg) r (omega arith) h;
    }

pub sound_whole : (s : State) (m : List ℕ) → Sound s m → state_sound s m ≡ true
unfolding state_sound
sound_whole s m h =
    rw (
      le-leb s.latest latest_time h.latest,
      times_whole s.core.since h.since,
      le-leb s.core.count most_listed h.count,
      entries_whole (listed s.core) h.entries,
      le-leb s.core.run (cond s.core.lost 4 1) h.run,
    )
    (rooms_whole s.core.half m 0 room_count (λ r l g. h.rooms r g))

-- what its parts say in the forms that the calls' functions ask
module _ (s : State) (m : List ℕ) (h : Sound s m) where
  pub entry_since : (k : ℕ) → k < s.core.count → (get_or s.core.entries k no_entry).since ≤ latest_time
  entry_since k l = go (order k (length s.core.entries))
    where
      same : get_or (listed s.core) k no_entry ≡ get_or s.core.entries k no_entry
      same = get_or-take s.core.count s.core.entries k no_entry l

      go : Order k (length s.core.entries) → (get_or s.core.entries k no_entry).since ≤ latest_time
      go (below b) =
          omega (arith, (h.entries.each k (omega (arith, length-take s.core.count s.core.entries))).since, ap (λ e. e.since) same)
      go (from b) = omega (arith, ap (λ e. e.since) (get_or-eq_default s.core.entries no_entry {n = k} b))
