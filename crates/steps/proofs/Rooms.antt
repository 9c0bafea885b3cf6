-- Rooms under steps 1 to 5: a dropped half-built section leaves every room sound, and PIDs in their rooms. Assumes nothing.
use mathlib.Core.Path.{◌≡◌, refl, sym, ap, ◌∙◌, subst}
use mathlib.Core.Logic.{◌⊎◌, inl, inr, ⊎_elim}
use mathlib.Core.Bool.{Bool, true, false, cond}
use mathlib.Core.List.{List, [], ◌∷◌}
use Prim.Native.Nat.{ℕ, zero, suc, ◌+◌, ◌<◌, ◌≤◌}
use native.Mathlib.Omega.{arith}
use lib.Dec.{eqb, ltb}
use lib.Seq.{length-take-le}
use lib.ListN.{length, get_or, set, replicate}
use borrow.Author.Tests.{lt-ltb, ltb-true, ltb-false}
use Rattle.std.specs.Option.{MatchOption, ForSome, option_map}
use Rattle.std.specs.Prelude.{Option, Some, None}
use Rattle.std.proofs.lemmas.Option.{none-some}
use Rattle.lists.proofs.Tests.{and_left, and_right, and_intro, cond_either}
use Rattle.watches.specs.Tables.{fixed_count}
use Rattle.sections.specs.Rooms.{room_count, no_room, room_of_place, greatest_length, half_built}
use Rattle.sections.specs.Section.{stage_of, is_more}
use Rattle.programmes.specs.Listing.{most_listed}
use Rattle.calls.specs.declared.Core.{Core}
use Rattle.calls.specs.Cores.{room_for, with_half, with_sync}
use Rattle.calls.proofs.Accepted.{room_empty}
use Rattle.calls.specs.Sound.{room_sound, rooms_from, rooms_sound}
use Rattle.calls.specs.Sync.{Synced, lost_now, in_sync, while_lost, synced_of}
use Rattle.arrays.specs.Lent.{count_in, entries_in}
use Rattle.arrays.specs.inner.Kept.{listed_in, within}
use Rattle.arrays.proofs.Stores.{entries_length}

-- WITHIN n numbers, or none
pub within_here : (n r k : ℕ) → r ≡ k → k < n → Some k ≡ within n r
within_here n r k e h = rw (e, lt-ltb k n h)

-- the number found is the one searched for
pub within_is : (n r k : ℕ) → Some k ≡ within n r → k ≡ r
within_is n r k e = go (ltb r n) (subst (λ o. MatchOption o ⊥ (λ x. k ≡ x)) e refl)
  where
    go : (b : Bool) → MatchOption (cond b (Some r) None) ⊥ (λ x. k ≡ x) → k ≡ r
    go true h = h
    go false h = absurd h

pub within_below : (n r : ℕ) (o : Option ℕ) → o ≡ within n r → ForSome o (λ k. k < n)
within_below n r o e k some =
    let found = sym some ∙ e in
    rw (within_is n r k found) (under (ltb r n) refl found)
  where
    under : (b : Bool) → ltb r n ≡ b → Some k ≡ cond b (Some r) None → r < n
    under true h x = ltb-true r n h
    under false h x = absurd (none-some k (sym x))

pub within_past : (n r : ℕ) → None ≡ within n r → n ≤ r
within_past n r e = go (ltb r n) refl e
  where
    go : (b : Bool) → ltb r n ≡ b → None ≡ cond b (Some r) None → n ≤ r
    go true h x = absurd (none-some r x)
    go false h x = ltb-false r n h

-- at most sixteen are listed
pub listed_few : (times words : List ℕ) → count_in words ≤ most_listed → length (listed_in times words) ≤ most_listed
listed_few times words few =
    omega (arith, length-take-le (count_in words) (entries_in times words) (omega (arith, entries_length times words)))

-- the room of a place
pub placed : (n p : ℕ) → n ≤ 16 → (o : Option ℕ) → o ≡ within n p → option_map (λ k. fixed_count + k) o ≡ within room_count (cond (ltb p n) (room_of_place p) no_room)
placed n p few o e = rw e (go (ltb p n) refl)
  where
    go : (b : Bool) → ltb p n ≡ b → option_map (λ k. fixed_count + k) (cond b (Some p) None) ≡ within room_count (cond b (room_of_place p) no_room)
    go true h = within_here room_count (fixed_count + p) (fixed_count + p) refl (omega (arith, ltb-true p n h))
    go false h = refl

-- the room of a table, or else another
pub roomed : (P : Type 0) (o r : Option ℕ) (i m : ℕ) → o ≡ within fixed_count i → (P → r ≡ within room_count m) → MatchOption o P (λ x. r ≡ Some x)
    → r ≡ within room_count (cond (ltb i fixed_count) i m)
roomed P o r i m e other given = go (ltb i fixed_count) refl (subst (λ o. MatchOption o P (λ x. r ≡ Some x)) e given)
  where
    go : (b : Bool) → ltb i fixed_count ≡ b → MatchOption (cond b (Some i) None) P (λ x. r ≡ Some x) → r ≡ within room_count (cond b i m)
    go true h x = x ∙ within_here room_count i i refl (omega (arith, ltb-true i fixed_count h))
    go false h x = other x

-- where sections of a PID are built is a matter of the list alone
pub room_kept : (ns : List ℕ) (c : Core) (q : ℕ) → room_for (with_half ns c) q ≡ room_for c q
unfolding room_for
room_kept ns c q = refl

-- EMPTY ROOMS are sound
rooms_each : (ns os m : List ℕ) → ((r : ℕ) → room_sound ns m r ≡ true → room_sound os m r ≡ true)
    → (a left : ℕ) → rooms_from ns m a left ≡ true → rooms_from os m a left ≡ true
unfolding rooms_from
rooms_each ns os m f a zero e = refl
rooms_each ns os m f a (suc left) e =
    and_intro (room_sound os m a) (rooms_from os m (a + 1) left) (f a (and_left (room_sound ns m a) (rooms_from ns m (a + 1) left) e))
    (rooms_each ns os m f (a + 1) left (and_right (room_sound ns m a) (rooms_from ns m (a + 1) left) e))

emptied_at : (ns : List ℕ) (r i : ℕ) → (get_or (set ns r 0) i 0 ≡ 0) ⊎ (get_or (set ns r 0) i 0 ≡ get_or ns i 0)
emptied_at [] r i = inr refl
emptied_at (x ∷ ns) zero zero = inl refl
emptied_at (x ∷ ns) zero (suc i) = inr refl
emptied_at (x ∷ ns) (suc r) zero = inr refl
emptied_at (x ∷ ns) (suc r) (suc i) = emptied_at ns r i

rooms_dropped : (ns m : List ℕ) (r : ℕ) → rooms_sound ns m ≡ true → rooms_sound (set ns r 0) m ≡ true
rooms_dropped ns m r e = rooms_each ns (set ns r 0) m each 0 room_count e
  where
    each : (i : ℕ) → room_sound ns m i ≡ true → room_sound (set ns r 0) m i ≡ true
    each i h =
        ⊎_elim (room_empty (set ns r 0) m i)
        (λ same. ap (λ n. is_more (stage_of (greatest_length i) (half_built m i n))) same ∙ h)
        (emptied_at ns r i)

replicate_at : (n i : ℕ) → ◌≡◌ {A = ℕ} (get_or (replicate n 0) i 0) 0
replicate_at zero i = refl
replicate_at (suc n) zero = refl
replicate_at (suc n) (suc i) = replicate_at n i

-- STEP 1 leaves the list, and every room sound
synced_either : (P : Core → Type 0) (right : Bool) (c : Core) → ((lost : Bool) (run : ℕ) → P (with_sync lost run c)) → P (lost_now c)
    → P (synced_of right c).core
synced_either P right c kept gone =
    cond_either Q c.lost (while_lost right c) (in_sync right c) (lost right) (in_sync_lem right)
  where
    Q : Synced → Type 0
    Q y = P y.core

    lost : (right : Bool) → P (while_lost right c).core
    lost true = cond_either Q (eqb c.run 4) _ _ (kept false 0) (kept true (c.run + 1))
    lost false = kept true 0

    in_sync_lem : (right : Bool) → P (in_sync right c).core
    in_sync_lem true = kept false 0
    in_sync_lem false = cond_either Q (eqb c.run 1) _ _ gone (kept false 1)

pub synced_count : (right : Bool) (c : Core) → (synced_of right c).core.count ≡ c.count
synced_count right c = synced_either (λ d. d.count ≡ c.count) right c (λ lost run. refl) refl

pub synced_sound : (right : Bool) (c : Core) (m : List ℕ) → rooms_sound c.half m ≡ true → rooms_sound (synced_of right c).core.half m ≡ true
synced_sound right c m e =
    synced_either (λ d. rooms_sound d.half m ≡ true) right c (λ lost run. e)
    (rooms_each c.half (replicate room_count 0) m (λ r h. room_empty (replicate room_count 0) m r (replicate_at room_count r)) 0 room_count e)

-- STEP 4 too, whether it keeps the half-built section or not
abbrev kept_by : Bool → Core → ℕ → Core
kept_by b c r = cond b c (with_half (set c.half r 0) c)

module _ (b : Bool) (c : Core) (r : ℕ) where
  pub kept_count : (kept_by b c r).count ≡ c.count
  kept_count = cond_either (λ d. d.count ≡ c.count) b c (with_half (set c.half r 0) c) refl refl

  pub kept_sound : (m : List ℕ) → rooms_sound c.half m ≡ true → rooms_sound (kept_by b c r).half m ≡ true
  kept_sound m e =
      cond_either (λ d. rooms_sound d.half m ≡ true) b c (with_half (set c.half r 0) c) e (rooms_dropped c.half m r e)
