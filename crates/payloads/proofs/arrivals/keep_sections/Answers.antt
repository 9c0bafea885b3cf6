-- `payloads::arrivals/keep_sections` meets its contract. Assumes nothing.
use borrow.Author.Rules.{rules}
use native.Mathlib.Omega.{arith}
use mathlib.Core.Path.{◌≡◌, sym, ap, ◌∙◌}
use mathlib.Core.Bool.{true}
use mathlib.Core.List.{List}
use Prim.Native.Nat.{ℕ, ◌≤◌}
use lib.ListN.{length}
use Rattle.lists.specs.Places.{part}
use Rattle.lists.proofs.Places.{part_length}
use Rattle.sections.specs.Rooms.{room_count}
use Rattle.programmes.specs.inner.Moving.{none_half}
use Rattle.programmes.proofs.Moves.{halves_same, bytes_same}
use Rattle.arrays.specs.Lent.{halves_in, halves_at}
use Rattle.arrays.proofs.Stores.{halves_laid}
use Rattle.arrays.proofs.Kept.{sync_kept}
use Rattle.payloads.proofs.arrivals.keep_sections.Goals as goal

pub returns-then-none_listed : goal.returns-then-none_listed
returns-then-none_listed c =
    let a = c.args in
    let ns = c.halves_in-half.ensures in
    let old = a.old.now in
    let new = a.new.now in
    let halves = halves_in a.words.now in
    let none : none_half (part halves 5 16) ≡ true = ap (λ (l : List ℕ). none_half (part l 5 16)) (sym ns) ∙ sym c.none_listed.ensures ∙ c.if-none_listed.true in
    let most : length old ≤ 16 = omega arith in
    let long : length halves ≡ room_count = part_length a.words.now halves_at room_count (omega arith) in
    ((λ times. rw (halves_same old new halves most long none)), sym (bytes_same old new halves most long none a.memory.now), search rules)

pub returns : goal.returns
returns c =
    let a = c.args in
    let ns = c.halves_in-half.ensures in
    let moved = c.move_sections-moved in
    let laid = c.lay_halves.ensures in (
      (λ times. rw (laid.0, sym (rw ns at moved.ensures.0)) (halves_laid times a.words.now moved.result (search rules) laid.1)),
      rw ns at moved.ensures.1,
      rw laid.0 (sync_kept a.words.now 32 moved.result (search rules) (omega (arith, laid.1))),
    )
