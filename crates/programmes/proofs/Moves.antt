-- Half-built sections that stay with their PIDs when a list is read. Assumes nothing.
use mathlib.Core.Path.{◌≡◌, refl, sym, ap, ◌∙◌}
use mathlib.Core.Bool.{Bool, true, false, cond, ◌&&◌}
use mathlib.Core.List.{List, ◌++◌, map, append-nil}
use Prim.Native.Nat.{ℕ, zero, suc, ◌+◌, ◌-◌, ◌≤◌, ◌<◌}
use native.Mathlib.Nat.{add-zero, le_of_suc-le-suc, not-suc-le-zero}
use native.Mathlib.Omega.{arith}
use lib.Dec.{ltb, eqb}
use borrow.Rule.Slice.PartMut.{put_mid}
use Rattle.std.specs.Prelude.{Some, None}
use Rattle.std.specs.List.{range_with_len}
use Rattle.std.proofs.lemmas.List.{ext_get_or}
use lib.ListN.{length, get_or, take, drop, drop_of_length-le, length-drop, length-append, get_or-append}
use lib.Seq.{sets, get_or-take, get_or-append-add, length-take-le}
use borrow.Author.Tests.{ltb-true, ltb-false}
use Rattle.lists.specs.Places.{part}
use Rattle.lists.proofs.Tests.{and_left, Order, below, from, order}
use Rattle.lists.proofs.Places.{part_back}
use Rattle.watches.specs.declared.Entry.{Entry}
use Rattle.watches.specs.Tables.{no_entry}
use Rattle.sections.specs.Rooms.{memory_size, room_of_place, room_base, half_built}
use Rattle.sections.proofs.Stages.{place_fits}
use Rattle.programmes.proofs.Empty.{none_places}
use Rattle.programmes.specs.Places.{place_of, is_listed, pid_at, is_first, half_at, places_from, every_place, stood_in, moved_half, moved_halves, moved_section, rooms_laid, moved_bytes}
use Rattle.programmes.specs.inner.Moving.{none_half}
use Rattle.programmes.specs.inner.Moving.{listed_place, section_at, Placed, Stayed}
use Rattle.programmes.proofs.Moved.{room_laid, laid_back, rooms_alike}

-- the PID of a listed place
pub pid_listed : (new : List Entry) (d k : ℕ) → k < d → pid_at (take d new) k ≡ (get_or new k no_entry).pid
pid_listed new d k h = ap (λ (e : Entry). e.pid) (get_or-take d new k no_entry h)

-- ALL PLACES, one after the other: the number f k for each place k
module _ (f : ℕ → ℕ) where
  from_length : (k left : ℕ) → length (map f (places_from k left)) ≡ left
  unfolding places_from
  from_length k zero = refl
  from_length k (suc left) = ap suc (from_length (k + 1) left)

  from_at : (j left i : ℕ) → i < left → get_or (map f (places_from j left)) i 0 ≡ f (j + i)
  unfolding places_from
  from_at j zero i h = absurd (not-suc-le-zero h)
  from_at j (suc left) zero h = rw (add-zero j)
  from_at j (suc left) (suc i) h =
      let e : j + 1 + i ≡ j + suc i = omega arith in
      from_at (j + 1) left i (le_of_suc-le-suc h) ∙ ap f e

module _ (old new : List Entry) (ns : List ℕ) where
  -- the lengths of the first k places
  abbrev pub moved_first : ℕ → List ℕ
  moved_first k = map (moved_half old new ns) (places_from 0 k)

  pub halves_length : length ns ≡ 21 → length (moved_halves old new ns) ≡ 21
  halves_length e =
      length-append (take 5 ns) (moved_first 16) ∙ omega (arith, length-take-le 5 ns (omega arith), from_length (moved_half old new ns) 0 16)

  -- the lengths of the list's rooms, all written
  pub halves_put : (moved : List ℕ) → length ns ≡ 21 → moved ≡ map (moved_half old new ns) (range_with_len 0 16) → put_mid 5 16 ns moved ≡ moved_halves old new ns
  unfolding places_from
  halves_put moved e is =
      rw is
      (ap (λ z. take 5 ns ++ (moved_first 16 ++ z)) (drop_of_length-le (drop 5 ns) {i = 16} (omega (arith, length-drop 5 ns)))
      ∙ ap (λ z. take 5 ns ++ z) (append-nil (moved_first 16)))

-- A PLACE WITH HALF-BUILT BYTES is listed, and was listed before
half_some : (a b : Bool) (x : ℕ) → 0 < cond (a && b) x 0 → (a ≡ true) × (b ≡ true) × (cond (a && b) x 0 ≡ x)
half_some true true x h = (refl, refl, refl)
half_some true false x h = absurd (omega arith)
half_some false b x h = absurd (omega arith)

module _ (old new : List Entry) (ns : List ℕ) (enough : 5 ≤ length ns) where
  pub halves_fixed : (r : ℕ) → r < 5 → half_at (moved_halves old new ns) r ≡ half_at ns r
  halves_fixed r h = get_or-append (take 5 ns) (map (moved_half old new ns) every_place) 0 r (omega (arith, length-take-le 5 ns enough)) ∙ get_or-take 5 ns r 0 h

  pub halves_at_lem : (k : ℕ) → k < 16 → half_at (moved_halves old new ns) (room_of_place k) ≡ moved_half old new ns k
  halves_at_lem k h =
      let z : 0 + k ≡ k = omega arith in
      ap (λ i. get_or (take 5 ns ++ moved_first old new ns 16) (i + k) 0) (sym (length-take-le 5 ns enough))
      ∙ get_or-append-add (take 5 ns) (moved_first old new ns 16) k 0
      ∙ from_at (moved_half old new ns) 0 16 k h
      ∙ ap (moved_half old new ns) z

  pub placed : length old ≤ 16 → ((k : ℕ) → k < 16 → half_at ns (room_of_place k) ≤ 1024) → Placed old new (moved_halves old new ns)
  placed most small k h some =
      let e = halves_at_lem k h in
      let s = half_some (is_first new k) (is_listed (pid_at new k) old) (half_at ns (room_of_place (place_of (pid_at new k) old))) (rw e at some) in
      let before = ltb-true (place_of (pid_at new k) old) (length old) s.1 in
      record {
        listed = ltb-true k (length new) (and_left (ltb k (length new)) (eqb (place_of (pid_at new k) new) k) s.0);
        before = before;
        fits = omega (arith, e, s.2, small (place_of (pid_at new k) old) (omega (arith, before)));
      }

-- NOTHING HALF-BUILT in the rooms of the list: no length moves
module _ (old new : List Entry) (ns : List ℕ) (most : length old ≤ 16) (none : (k : ℕ) → k < 16 → half_at ns (room_of_place k) ≡ 0) where
  half_none : (k : ℕ) → moved_half old new ns k ≡ 0
  half_none k = go (order 0 (moved_half old new ns k))
    where
      go : Order 0 (moved_half old new ns k) → moved_half old new ns k ≡ 0
      go (from b) = omega arith
      go (below some) =
          let s = half_some (is_first new k) (is_listed (pid_at new k) old) (half_at ns (room_of_place (place_of (pid_at new k) old))) some in
          s.2 ∙ none (place_of (pid_at new k) old) (omega (arith, ltb-true (place_of (pid_at new k) old) (length old) s.1))

  pub halves_none : length ns ≡ 21 → moved_halves old new ns ≡ ns
  halves_none e =
      ext_get_or 0 (moved_halves old new ns) ns (halves_length old new ns e ∙ sym e) (λ r h. go r (omega (arith, h, halves_length old new ns e)) (order r 5))
    where
      go : (r : ℕ) → r < 21 → Order r 5 → half_at (moved_halves old new ns) r ≡ half_at ns r
      go r h (below b) = halves_fixed old new ns (omega arith) r b
      go r h (from b) =
          let k = r - 5 in
          let at : r ≡ room_of_place k = omega arith in
          let few : k < 16 = omega arith in
          rw at (halves_at_lem old new ns (omega arith) k few ∙ half_none k ∙ sym (none k few))

-- THE PLACE that the search finds
pub place_some : (q : ℕ) (es : List Entry) (k : ℕ) → Some k ≡ listed_place q es → k ≡ place_of q es
place_some q es k e = go (is_listed q es) e
  where
    go : (b : Bool) → Some k ≡ cond b (Some (place_of q es)) None → k ≡ place_of q es
    go true e = cc
    go false e = absurd cc

place_none : (q : ℕ) (es : List Entry) → None ≡ listed_place q es → length es ≤ place_of q es
place_none q es e = go (is_listed q es) refl e
  where
    go : (b : Bool) → is_listed q es ≡ b → None ≡ cond b (Some (place_of q es)) None → length es ≤ place_of q es
    go true l e = absurd cc
    go false l e = ltb-false (place_of q es) (length es) l

-- BYTES THAT STAND WHERE THEY ARE LAID: there are none, or they stay
module _ (old new : List Entry) (ns m₀ : List ℕ) where
  none_back : (k : ℕ) (m : List ℕ) → half_at ns (room_of_place k) ≡ 0 → room_laid (section_at old new ns m₀) k m ≡ m
  unfolding part
  none_back k m e = rw e

  pub past_back : Placed old new ns → (k : ℕ) (m : List ℕ) → length new ≤ k → k < 16 → room_laid (section_at old new ns m₀) k m ≡ m
  past_back p k m past h = go (order 0 (half_at ns (room_of_place k)))
    where
      go : Order 0 (half_at ns (room_of_place k)) → room_laid (section_at old new ns m₀) k m ≡ m
      go (from none) = none_back k m (omega arith)
      go (below some) = absurd (omega (arith, (p k h some).listed))

  pub unlisted_back : Placed old new ns → (k : ℕ) (m : List ℕ) → None ≡ listed_place (pid_at new k) old → k < 16 → room_laid (section_at old new ns m₀) k m ≡ m
  unlisted_back p k m e h = go (order 0 (half_at ns (room_of_place k)))
    where
      go : Order 0 (half_at ns (room_of_place k)) → room_laid (section_at old new ns m₀) k m ≡ m
      go (from none) = none_back k m (omega arith)
      go (below some) = absurd (omega (arith, (p k h some).before, place_none (pid_at new k) old e))

  pub stayed_back : length m₀ ≡ memory_size → Placed old new ns → Stayed old new ns (length new) → (k : ℕ) → k < 16 → room_laid (section_at old new ns m₀) k m₀ ≡ m₀
  stayed_back l p s k h = go (order 0 (half_at ns (room_of_place k)))
    where
      go : Order 0 (half_at ns (room_of_place k)) → room_laid (section_at old new ns m₀) k m₀ ≡ m₀
      go (from none) = none_back k m₀ (omega arith)
      go (below some) =
          let q = p k h some in
          ap (λ r. sets m₀ (room_base (room_of_place k)) (half_built m₀ (room_of_place r) (half_at ns (room_of_place k)))) (s k q.listed some)
          ∙ part_back m₀ (room_base (room_of_place k)) (half_at ns (room_of_place k)) (omega (arith, q.fits, place_fits k h))

-- the bytes of a list read are those of its lengths
pub bytes_at_lem : (old new : List Entry) (ns m : List ℕ) → 5 ≤ length ns
    → moved_bytes old new ns m ≡ rooms_laid (section_at old new (moved_halves old new ns) m) every_place m
bytes_at_lem old new ns m enough =
    rooms_alike (moved_section old new ns m) (section_at old new (moved_halves old new ns) m) (λ k h. ap (half_built m (stood_in old new k)) (sym (halves_at_lem old new ns enough k h))) m

-- WHERE NOTHING IS HALF-BUILT in the rooms of the list, neither lengths nor bytes move
module _ (old new : List Entry) (ns : List ℕ) (most : length old ≤ 16) (long : length ns ≡ 21) (none : none_half (part ns 5 16) ≡ true) where
  pub halves_same : moved_halves old new ns ≡ ns
  halves_same = halves_none old new ns most (none_places ns none) long

  pub bytes_same : (m : List ℕ) → moved_bytes old new ns m ≡ m
  unfolding part
  bytes_same m =
      laid_back (moved_section old new ns m) 0 16 m
      (λ k g h. ap (λ n. sets m (room_base (room_of_place k)) (half_built m (stood_in old new k) n)) (half_none old new ns most (none_places ns none) k))
