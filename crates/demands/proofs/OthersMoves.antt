-- A list that is read moves half-built sections with their PIDs: each PID that stays has the same bytes, and no other has any. Assumes nothing.
use mathlib.Core.Path.{◌≡◌, refl, sym, ap, ap₂, ◌∙◌, subst}
use mathlib.Core.Bool.{Bool, true, false, cond, ◌&&◌}
use mathlib.Core.List.{List, []}
use Prim.Native.Nat.{ℕ, ◌+◌, ◌-◌, ◌≤◌, ◌<◌}
use native.Mathlib.Omega.{arith}
use lib.ListN.{length, drop, length-take}
use lib.Seq.{length-take-le}
use borrow.Author.Tests.{lt-ltb, ltb-true, eq-eqb}
use Rattle.lists.specs.Places.{part}
use Rattle.lists.proofs.Tests.{Order, below, from, order}
use Rattle.lists.proofs.Places.{part_length}
use Rattle.watches.specs.declared.Entry.{Entry}
use Rattle.watches.specs.Tables.{fixed_tables}
use Rattle.sections.specs.Rooms.{room_count, no_room, room_of_place, room_base, greatest_length, half_built}
use Rattle.sections.specs.Section.{stage_of, is_more}
use Rattle.sections.proofs.Stages.{stage_few, room_fits}
use Rattle.sections.proofs.Rooms.{place_top}
use Rattle.programmes.specs.declared.Listed.{Listed}
use Rattle.programmes.specs.Places.{place_of, is_listed, pid_at, is_first, half_at, stood_in, moved_half, moved_halves, moved_section}
use Rattle.programmes.proofs.Moves.{halves_fixed, halves_at_lem, halves_length}
use Rattle.programmes.proofs.Moved.{rooms_fixed, rooms_here, moved_length}
use Rattle.calls.specs.Cores.{listed, Held, fixed_room}
use Rattle.calls.specs.Steps.{listed_by, list_on}
use Rattle.demands.proofs.OthersLists.{Filled, filled_starts}
use Rattle.demands.proofs.OthersPids.{Shaped, shaped_fits, listed_length, bytes_in, bytes_for, IsFixed, place_pid, room_fixed, Housed, at_table, at_place, nowhere, housed, bytes_nowhere}

module _ (l : Listed) (h : Held) (s : Shaped h) (f : Filled l) where
  abbrev old : List Entry
  old = listed h.core

  abbrev new : List Entry
  new = listed_by l

  abbrev halves : List ℕ
  halves = moved_halves old new h.core.half

  new_length : length new ≤ 16
  new_length = omega (arith, length-take-le l.count l.entries (omega (arith, f.count, f.places)), f.count)

  half_fixed : (r : ℕ) → r < 5 → half_at halves r ≡ half_at h.core.half r
  half_fixed r g = halves_fixed old new h.core.half (omega (arith, s.half)) r g

  half_place : (k : ℕ) → k < 16 → half_at halves (room_of_place k) ≡ moved_half old new h.core.half k
  half_place k g = halves_at_lem old new h.core.half (omega (arith, s.half)) k g

  abbrev half : ℕ → ℕ
  half k = moved_half old new h.core.half k

  abbrev source : ℕ → ℕ
  source k = stood_in old new k

  -- a place of the new list: its PID was listed before, or it has nothing half-built
  data Moved (k : ℕ) : Type 0 where
    stays : place_of (pid_at new k) old < length old → half k ≡ half_at h.core.half (source k) → Moved k
    empty : half k ≡ 0 → Moved k

  moved : (k : ℕ) → Moved k
  moved k = go (is_first new k) (is_listed (pid_at new k) old) refl refl
    where
      go : (a b : Bool) → is_listed (pid_at new k) old ≡ b → half k ≡ cond (a && b) (half_at h.core.half (source k)) 0 → Moved k
      go true true e z = stays (ltb-true (place_of (pid_at new k) old) (length old) e) z
      go true false e z = empty z
      go false b e z = empty z

  source_room : (k : ℕ) → place_of (pid_at new k) old < length old → source k < room_count
  source_room k before = omega (arith, before, listed_length h s)

  half_most : (k : ℕ) → half k ≤ 1024
  half_most k = go (moved k)
    where
      go : Moved k → half k ≤ 1024
      go (stays before e) = omega (arith, e, shaped_fits h s (source k) (source_room k before), place_top (place_of (pid_at new k) old))
      go (empty e) = omega (arith, e)

  section_most : (k : ℕ) → k < 16 → length (moved_section old new h.core.half h.memory k) ≤ 1024
  unfolding part
  section_most k g = omega (arith, half_most k, length-take (half k) (drop (room_base (source k)) h.memory))

  -- THE BYTES of a fixed room, and of a place
  bytes_fixed : (r : ℕ) → r < 5 → bytes_in (list_on l h) r ≡ bytes_in h r
  bytes_fixed r g =
      ap (half_built (list_on l h).memory r) (half_fixed r g)
      ∙ rooms_fixed (moved_section old new h.core.half h.memory) section_most r (half_at h.core.half r) h.memory g (omega (arith, shaped_fits h s r (omega arith)))

  bytes_stay : (k : ℕ) → k < 16 → place_of (pid_at new k) old < length old → half k ≡ half_at h.core.half (source k)
      → bytes_in (list_on l h) (room_of_place k) ≡ bytes_in h (source k)
  bytes_stay k g before e =
      let room = source_room k before in
      let inside : room_base (source k) + half k ≤ length h.memory = rw e (omega (arith, shaped_fits h s (source k) room, room_fits (source k) room, s.memory)) in
      ap (half_built (list_on l h).memory (room_of_place k)) (half_place k g)
      ∙ rooms_here (moved_section old new h.core.half h.memory) section_most k (half k) h.memory (part_length h.memory (room_base (source k)) (half k) inside) g s.memory
      ∙ ap (half_built h.memory (source k)) e

  bytes_empty : (k : ℕ) → k < 16 → half k ≡ 0 → bytes_in (list_on l h) (room_of_place k) ≡ []
  unfolding part
  bytes_empty k g e = ap (half_built (list_on l h).memory (room_of_place k)) (half_place k g ∙ e)

  pub listed_shaped : Shaped (list_on l h)
  listed_shaped =
      record {
        in_sync = s.in_sync;
        run = s.run;
        memory = moved_length old new h.core.half h.memory ∙ s.memory;
        half = halves_length old new h.core.half s.half;
        since = s.since;
        entries = f.places;
        count = f.count;
        more = λ r g. more r g (order r 5);
        times = s.times;
        starts = filled_starts l f;
      }
    where
      at_place : (k : ℕ) → k < 16 → Moved k → is_more (stage_of (greatest_length (room_of_place k)) (bytes_in (list_on l h) (room_of_place k))) ≡ true
      at_place k g (stays before e) =
          ap₂ (λ top z. is_more (stage_of top z)) (place_top k ∙ sym (place_top (place_of (pid_at new k) old))) (bytes_stay k g before e)
          ∙ s.more (source k) (source_room k before)
      at_place k g (empty e) = ap (λ z. is_more (stage_of (greatest_length (room_of_place k)) z)) (bytes_empty k g e) ∙ ap is_more (stage_few (greatest_length (room_of_place k)) [] (omega arith))

      more : (r : ℕ) → r < room_count → Order r 5 → is_more (stage_of (greatest_length r) (bytes_in (list_on l h) r)) ≡ true
      more r g (below b) = ap (λ z. is_more (stage_of (greatest_length r) z)) (bytes_fixed r b) ∙ s.more r g
      more r g (from b) =
          let e : room_of_place (r - 5) ≡ r = omega arith in
          subst (λ (i : ℕ). is_more (stage_of (greatest_length i) (bytes_in (list_on l h) i)) ≡ true) e (at_place (r - 5) (omega arith) (moved (r - 5)))

  -- A FIXED PID keeps its half-built section
  pub listed_fixed : (q : ℕ) → IsFixed q → bytes_for (list_on l h) q ≡ bytes_for h q
  listed_fixed q g =
      ap (bytes_in (list_on l h)) (room_fixed (list_on l h).core q g)
      ∙ bytes_fixed (fixed_room q fixed_tables) g
      ∙ ap (bytes_in h) (sym (room_fixed h.core q g))

  -- AND SO DOES A PID THAT STAYS LISTED; others have none
  place_kept : (q : ℕ) → (IsFixed q → ⊥) → place_of q new < length new → Housed h.core q
      → bytes_in (list_on l h) (room_of_place (place_of q new)) ≡ bytes_for h q
  place_kept q other here (at_table g e) = absurd (other g)
  place_kept q other here (at_place g before e) =
      let k = place_of q new in
      let pid : pid_at new k ≡ q = place_pid q new here in
      let few : k < 16 = omega (arith, here, new_length) in
      let kept : half k ≡ half_at h.core.half (source k) = rw (pid, lt-ltb k (length new) here, eq-eqb (place_of q new) k refl, lt-ltb (place_of q old) (length old) before) in
      bytes_stay k few (rw pid before) kept ∙ ap (λ p. bytes_in h (room_of_place (place_of p old))) pid ∙ ap (bytes_in h) (sym e)
  place_kept q other here (nowhere g gone e) =
      let k = place_of q new in
      let pid : pid_at new k ≡ q = place_pid q new here in
      bytes_empty k (omega (arith, here, new_length)) (rw (pid, lt-ltb k (length new) here, eq-eqb (place_of q new) k refl, gone))
      ∙ sym (ap (bytes_in h) e ∙ bytes_nowhere h s no_room (omega arith))

  pub listed_bytes : (q : ℕ) → (IsFixed q → ⊥) → bytes_for (list_on l h) q ≡ cond (is_listed q new) (bytes_for h q) []
  listed_bytes q other = go (housed (list_on l h).core q)
    where
      go : Housed (list_on l h).core q → bytes_for (list_on l h) q ≡ cond (is_listed q new) (bytes_for h q) []
      go (at_table g e) = absurd (other g)
      go (at_place g here e) = rw (lt-ltb (place_of q new) (length new) here) (ap (bytes_in (list_on l h)) e ∙ place_kept q other here (housed h.core q))
      go (nowhere g gone e) = rw gone (ap (bytes_in (list_on l h)) e ∙ bytes_nowhere (list_on l h) listed_shaped no_room (omega arith))
