-- The check behind refusal 5, in the words of its row: it fails exactly where one of them holds. Assumes nothing.
use mathlib.Core.Path.{◌≡◌, refl, sym, ap, ◌∙◌}
use mathlib.Core.Bool.{Bool, true, false, cond, not, ◌&&◌, ◌||◌, true≢false}
use mathlib.Core.List.{List, [], ◌∷◌}
use Prim.Native.Nat.{ℕ, zero, suc, ◌+◌, ◌≤◌, ◌<◌}
use native.Mathlib.Omega.{arith}
use lib.Dec.{leb, eqb}
use lib.ListN.{length, get_or}
use borrow.Author.Tests.{leb-true, leb-false, eqb-true, eqb-false, le-leb, not-false}
use Rattle.lists.proofs.Tests.{and_left, and_right, and_intro, or_false_left, or_false_right}
use Rattle.watches.specs.declared.Entry.{Entry}
use Rattle.watches.specs.Tables.{latest_time}
use Rattle.continuity.specs.Continuity.{known_byte}
use Rattle.sections.specs.declared.Stage.{Stage}
use Rattle.sections.specs.declared.Stage.TheVariants.{More, Bad, Whole}
use Rattle.sections.specs.Rooms.{room_count, greatest_length, half_built}
use Rattle.sections.specs.Section.{stage_of, is_more}
use Rattle.programmes.specs.Listing.{most_listed, lowest_pid}
use Rattle.programmes.specs.Places.{half_at}
use Rattle.calls.specs.declared.State.{State}
use Rattle.calls.specs.Cores.{listed}
use Rattle.calls.specs.Sound.{greatest_pid, time_sound, times_sound, number_among, entry_sound, entries_sound, run_sound, room_sound, rooms_from, rooms_sound, state_sound}
use Rattle.calls.proofs.Accepted.{Sound, SoundList, sound_parts}
use Rattle.demands.specs.Conditions.{TimeAbove, entry_at, ListWrong, number_zero, listed_twice, pid_below, pid_above, gap_above, RoomWrong, whole_section, length_broken, StateWrong, latest_above, since_above, many_listed, list_wrong, run_above, room_wrong, ByteWrong}

-- one of two tests fails
and_fails : {P : Type 0} (a b : Bool) → a && b ≡ false → (a ≡ false → P) → (b ≡ false → P) → P
and_fails true b e f g = g e
and_fails false b e f g = f refl

-- times
times_fail : {P : Type 0} (ts : List ℕ) → times_sound ts ≡ false → ((k : ℕ) → TimeAbove (get_or ts k 0) → P) → P
unfolding times_sound
times_fail [] e f = absurd (true≢false e)
times_fail (t ∷ ts) e f = and_fails (time_sound t) (times_sound ts) e (λ h. f 0 (leb-false t latest_time h)) (λ h. times_fail ts h (λ k. f (suc k)))

-- listed programmes
number_among_lem : {P : Type 0} (n : ℕ) (es : List Entry) → number_among n es ≡ true → ((k : ℕ) → k < length es → (entry_at es k).number ≡ n → P) → P
unfolding number_among
number_among_lem n [] e f = absurd (true≢false (sym e))
number_among_lem {P} n (x ∷ es) e f = go (eqb x.number n) refl e (λ h. number_among_lem n es h (λ k l. f (suc k) (omega arith)))
  where
    go : (b : Bool) → eqb x.number n ≡ b → cond b true (number_among n es) ≡ true → (number_among n es ≡ true → P) → P
    go true q z ih = f 0 (omega arith) (eqb-true x.number n q)
    go false q z ih = ih z

later : (x : Entry) (es : List Entry) → ListWrong es → ListWrong (x ∷ es)
later x es (number_zero k l e) = number_zero (suc k) (omega arith) e
later x es (listed_twice i k h l e) = listed_twice (suc i) (suc k) (omega arith) (omega arith) e
later x es (pid_below k l e) = pid_below (suc k) (omega arith) e
later x es (pid_above k l e) = pid_above (suc k) (omega arith) e
later x es (gap_above k l e) = gap_above (suc k) (omega arith) e

first : (x : Entry) (es : List Entry) → entry_sound x ≡ false → ListWrong (x ∷ es)
first x es e =
    let a = not (eqb x.number 0) in
    let b = leb lowest_pid x.pid in
    let c = leb x.pid greatest_pid in
    and_fails (a && b && c) (time_sound x.since) e
    (λ abc. and_fails (a && b) c abc
    (λ ab. and_fails a b ab
    (λ h. number_zero 0 (omega arith) (eqb-true x.number 0 (not-false (eqb x.number 0) h)))
    (λ h. pid_below 0 (omega arith) (leb-false lowest_pid x.pid h)))
    (λ h. pid_above 0 (omega arith) (leb-false x.pid greatest_pid h)))
    (λ h. gap_above 0 (omega arith) (leb-false x.since latest_time h))

entries_fail : (es : List Entry) → entries_sound es ≡ false → ListWrong es
unfolding entries_sound
entries_fail [] e = absurd (true≢false e)
entries_fail (x ∷ es) e =
    and_fails (entry_sound x && not (number_among x.number es)) (entries_sound es) e
    (λ h. and_fails (entry_sound x) (not (number_among x.number es)) h (first x es)
    (λ g. number_among_lem x.number es (not-false (number_among x.number es) g)
    (λ k l q. listed_twice 0 (suc k) (omega arith) (omega arith) (sym q))))
    (λ h. later x es (entries_fail es h))

entries_hold : (es : List Entry) → SoundList es → ListWrong es → ⊥
entries_hold es h (number_zero k l e) = (h.each k l).number e
entries_hold es h (listed_twice i k g l e) = h.apart i k g l e
entries_hold es h (pid_below k l e) = omega (arith, (h.each k l).low)
entries_hold es h (pid_above k l e) = omega (arith, (h.each k l).high)
entries_hold es h (gap_above k l e) = omega (arith, (h.each k l).since)

-- rooms
room_fails : (ns m : List ℕ) (r : ℕ) → room_sound ns m r ≡ false → RoomWrong r ns m
room_fails ns m r e = go (stage_of (greatest_length r) (half_built m r (half_at ns r))) refl e
  where
    go : (g : Stage) → stage_of (greatest_length r) (half_built m r (half_at ns r)) ≡ g → is_more g ≡ false → RoomWrong r ns m
    go More q z = absurd (true≢false z)
    go Bad q z = length_broken q
    go Whole q z = whole_section q

room_holds : (ns m : List ℕ) (r : ℕ) → room_sound ns m r ≡ true → RoomWrong r ns m → ⊥
room_holds ns m r e (whole_section q) = true≢false (sym e ∙ ap is_more q)
room_holds ns m r e (length_broken q) = true≢false (sym e ∙ ap is_more q)

rooms_fail : {P : Type 0} (ns m : List ℕ) (a left : ℕ) → rooms_from ns m a left ≡ false
    → ((r : ℕ) → a ≤ r → r < a + left → room_sound ns m r ≡ false → P) → P
unfolding rooms_from
rooms_fail ns m a zero e f = absurd (true≢false e)
rooms_fail ns m a (suc left) e f =
    and_fails (room_sound ns m a) (rooms_from ns m (a + 1) left) e (λ h. f a (omega arith) (omega arith) h)
    (λ h. rooms_fail ns m (a + 1) left h (λ r g l. f r (omega arith) (omega arith)))

-- THE STATE
pub state_fails : (s : State) (m : List ℕ) → state_sound s m ≡ false → StateWrong s m
unfolding state_sound
state_fails s m e =
    let a = time_sound s.latest in
    let b = times_sound s.core.since in
    let c = leb s.core.count most_listed in
    let d = entries_sound (listed s.core) in
    let f = run_sound s.core in
    let g = rooms_sound s.core.half m in
    and_fails (a && b && c && d) (f && g) e
    (λ abcd. and_fails (a && b && c) d abcd
    (λ abc. and_fails (a && b) c abc
    (λ ab. and_fails a b ab (λ h. latest_above (leb-false s.latest latest_time h)) (λ h. times_fail s.core.since h since_above))
    (λ h. many_listed (leb-false s.core.count most_listed h)))
    (λ h. list_wrong (entries_fail (listed s.core) h)))
    (λ fg. and_fails f g fg (λ h. run_above (leb-false s.core.run (cond s.core.lost 4 1) h))
    (λ h. rooms_fail s.core.half m 0 room_count h (λ r l k z. room_wrong r k (room_fails s.core.half m r z))))

pub state_holds : (s : State) (m : List ℕ) → state_sound s m ≡ true → StateWrong s m → ⊥
state_holds s m e w = go (sound_parts s m e) w
  where
    go : Sound s m → StateWrong s m → ⊥
    go h (latest_above l) = omega (arith, h.latest)
    go h (since_above k l) = omega (arith, h.since k)
    go h (many_listed l) = omega (arith, h.count)
    go h (list_wrong l) = entries_hold (listed s.core) h.entries l
    go h (run_above l) = omega (arith, h.run)
    go h (room_wrong r l z) = room_holds s.core.half m r (h.rooms r l) z

-- THE TABLE BYTE
or_holds : (a b : Bool) → a || b ≡ true → (a ≡ true → ⊥) → (b ≡ true → ⊥) → ⊥
or_holds true b e f g = f refl
or_holds false b e f g = g e

pub byte_fails : (b : ℕ) → known_byte b ≡ false → ByteWrong b
byte_fails b e =
    let once = leb 16 b && leb b 31 in
    let twice = leb 48 b && leb b 63 in
    let low = or_false_left (eqb b 0 || once) twice e in
    record {
      seen = eqb-false b 0 (or_false_left (eqb b 0) once low);
      last = λ h g. true≢false (sym (and_intro (leb 16 b) (leb b 31) (le-leb 16 b h) (le-leb b 31 g)) ∙ or_false_right (eqb b 0) once low);
      repeated = λ h g. true≢false (sym (and_intro (leb 48 b) (leb b 63) (le-leb 48 b h) (le-leb b 63 g)) ∙ or_false_right (eqb b 0 || once) twice e);
    }

pub byte_holds : (b : ℕ) → known_byte b ≡ true → ByteWrong b → ⊥
byte_holds b e w =
    let once = leb 16 b && leb b 31 in
    let twice = leb 48 b && leb b 63 in
    or_holds (eqb b 0 || once) twice e
    (λ low. or_holds (eqb b 0) once low (λ h. w.seen (eqb-true b 0 h))
    (λ h. w.last (leb-true 16 b (and_left (leb 16 b) (leb b 31) h)) (leb-true b 31 (and_right (leb 16 b) (leb b 31) h))))
    (λ h. w.repeated (leb-true 48 b (and_left (leb 48 b) (leb b 63) h)) (leb-true b 63 (and_right (leb 48 b) (leb b 63) h)))
