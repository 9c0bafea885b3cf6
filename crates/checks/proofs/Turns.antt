-- The check of the state, one turn of each loop at a time: what is still to be checked begins with what is at hand. Assumes nothing.
use mathlib.Core.Path.{◌≡◌, refl, sym, ap, ◌∙◌}
use mathlib.Core.Bool.{Bool, true, false, cond, ◌&&◌, ◌||◌, and-false}
use mathlib.Core.List.{List, [], ◌∷◌}
use Prim.Native.Nat.{ℕ, zero, suc, ◌+◌, ◌-◌, ◌≤◌, ◌<◌}
use native.Mathlib.Omega.{arith}
use lib.Dec.{eqb, leb}
use lib.ListN.{length, get_or, take, drop, length-drop}
use lib.Seq.{take_all}
use Rattle.std.specs.List.{list_any, list_all, range_with_len, enumerate_from}
use Rattle.lists.specs.Places.{part}
use Rattle.lists.proofs.Tests.{Order, below, from, order}
use Rattle.lists.proofs.Turns.{left_turn, left_none}
use Rattle.watches.specs.declared.Entry.{Entry}
use Rattle.watches.specs.Tables.{no_entry, latest_time}
use Rattle.sections.specs.Rooms.{greatest_length, half_built}
use Rattle.sections.specs.Section.{stage_of, is_more}
use Rattle.calls.specs.Sound.{times_sound, number_among, entry_sound, entries_sound, room_sound, rooms_from}

-- TIMES
-- a look at each of them tells whether they are sound
pub times_all : (ts : List ℕ) → list_all (λ (t : ℕ). leb t latest_time) ts ≡ times_sound ts
unfolding times_sound
times_all [] = refl
times_all (t ∷ ts) = ap (λ (z : Bool). leb t latest_time && z) (times_all ts)

-- ENTRIES
module _ (es : List Entry) (count i : ℕ) (fits : count ≤ length es) where
  pub among_none : (n : ℕ) → count ≤ i → number_among n (drop i (take count es)) ≡ false
  unfolding number_among
  among_none n h = rw (left_none es count i h fits)

  pub entries_here : i < count → entry_sound (get_or es i no_entry) ≡ false → entries_sound (drop i (take count es)) ≡ false
  unfolding entries_sound
  entries_here h e = rw (left_turn es count i no_entry h fits, e)

  pub entries_twice : i < count → number_among (get_or es i no_entry).number (drop (i + 1) (take count es)) ≡ true → entries_sound (drop i (take count es)) ≡ false
  unfolding entries_sound
  entries_twice h e = rw (left_turn es count i no_entry h fits, e, and-false (entry_sound (get_or es i no_entry)))

  pub entries_on : i < count → entry_sound (get_or es i no_entry) ≡ true
      → number_among (get_or es i no_entry).number (drop (i + 1) (take count es)) ≡ false
      → entries_sound (drop i (take count es)) ≡ entries_sound (drop (i + 1) (take count es))
  unfolding entries_sound
  entries_on h e n = rw (left_turn es count i no_entry h fits, e, n)

  pub entries_none : count ≤ i → entries_sound (drop i (take count es)) ≡ true
  unfolding entries_sound
  entries_none h = rw (left_none es count i h fits)

-- a look at each of them tells whether a number is among them
module _ (es : List Entry) (count n : ℕ) (entry : ℕ → Entry) (fits : count ≤ length es) (same : (i : ℕ) → i < count → get_or es i no_entry ≡ entry i) where
  pub among_any : (k i : ℕ) → i + k ≡ count → list_any (λ (j : ℕ). eqb (entry j).number n) (range_with_len i k) ≡ number_among n (drop i (take count es))
  unfolding number_among
  among_any zero i e = sym (among_none es count i fits n (omega arith))
  among_any (suc k) i e =
      rw (left_turn es count i no_entry (omega arith) fits, same i (omega arith)) (go (eqb (entry i).number n) (among_any k (i + 1) (omega arith)))
    where
      go : (b : Bool) {x y : Bool} → x ≡ y → (b || x) ≡ cond b true y
      go true h = refl
      go false h = h

-- ROOMS
module _ (ns m : List ℕ) where
  -- a look at each of the lengths us, of the rooms from r on, tells whether these rooms are sound
  pub rooms_all : (us : List ℕ) (r : ℕ) → ((k : ℕ) → k < length us → get_or us k 0 ≡ get_or ns (r + k) 0)
      → list_all (λ (p : ℕ × ℕ). is_more (stage_of (greatest_length p.0) (half_built m p.0 p.1))) (enumerate_from r us) ≡ rooms_from ns m r (length us)
  unfolding rooms_from
  rooms_all [] r h = refl
  rooms_all (u ∷ us) r h =
      let here : u ≡ get_or ns r 0 = h 0 (omega arith) ∙ ap (λ (j : ℕ). get_or ns j 0) (omega arith) in
      rw (rooms_all us (r + 1) (λ k l. h (suc k) (omega arith) ∙ ap (λ (j : ℕ). get_or ns j 0) (omega arith)))
      (ap (λ (n : ℕ). is_more (stage_of (greatest_length r) (half_built m r n)) && rooms_from ns m (r + 1) (length us)) here)

  -- rooms behind which all others are sound
  pub rooms_front : (r a b left : ℕ) → left ≡ a + b → rooms_from ns m (r + a) b ≡ true → rooms_from ns m r left ≡ rooms_from ns m r a
  unfolding rooms_from
  rooms_front r zero b left e h =
      let same : left ≡ b = omega arith in
      let at : r ≡ r + 0 = omega arith in
      rw same (ap (λ (j : ℕ). rooms_from ns m j b) at ∙ h)
  rooms_front r (suc a) b left e h =
      let more : left ≡ suc (a + b) = omega arith in
      let at : r + 1 + a ≡ r + suc a = omega arith in
      rw more (ap (λ (z : Bool). room_sound ns m r && z) (rooms_front (r + 1) a b (a + b) refl (ap (λ (j : ℕ). rooms_from ns m j b) at ∙ h)))

-- a part that reaches past the end of its list is cut there
pub part_cut : {A : Type 0} (l : List A) (at n k : ℕ) → k ≤ n → (k < n → k ≡ length l - at) → part l at k ≡ part l at n
unfolding part
part_cut l at n k h e = go (order k n)
  where
    go : Order k n → part l at k ≡ part l at n
    go (below b) =
        let q = length-drop at l in
        take_all k (drop at l) (omega (arith, e b)) ∙ sym (take_all n (drop at l) (omega (arith, e b)))
    go (from b) =
        let q : k ≡ n = omega arith in
        ap (part l at) q
