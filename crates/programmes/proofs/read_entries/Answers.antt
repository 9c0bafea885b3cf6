-- `programmes::read_entries` meets its contract. Assumes nothing.
use mathlib.Core.Path.{◌≡◌, refl, sym, ap, ◌∙◌}
use native.Mathlib.Omega.{arith}
use Rattle.programmes.proofs.Reading.{added_most, read_turn, read_begins, read_ends}
use Rattle.programmes.specs.inner.Reading.{with_addition}
use Rattle.programmes.proofs.read_entries.Goals.{in-Nothing, in-Mark, in-One}
use Rattle.programmes.proofs.read_entries.Goals as goal

pub loop-k-init : goal.loop-k-init
loop-k-init c = (omega arith, read_begins _ _ _ _)

pub loop-k-preserved : goal.loop-k-preserved
loop-k-preserved c =
    let loop = c.loop-k in
    let read_one = c.read_one in
    let fours = c.as_chunks.ensures in
    let next : c.match-read_one.l ≡ with_addition read_one.result loop.l =
    elim c.match-read_one.branch [
      | in-Nothing w ↦ w.l-is ∙ ap (λ r. with_addition r loop.l) (sym w.in-Nothing.is)
      | in-Mark w ↦ w.l-is ∙ ap (λ r. with_addition r loop.l) (sym w.in-Mark.is)
      | in-One w ↦ w.l-is ∙ ap (λ r. with_addition r loop.l) (sym w.in-One.is)
    ] in (
      rw next (added_most read_one.result loop.l loop.invariant.0 read_one.ensures.room),
      loop.invariant.1
          ∙ read_turn _ _ c.args.e.now c.as_chunks.result.0.now fours.front loop.k loop.l (omega (arith, fours.front_len, c.loop-k-test.true)) c.loop-k-test.true
          ∙ rw (read_one.ensures.adds loop.l refl, sym next),
    )

pub returns-then-not-is_empty : goal.returns-then-not-is_empty
returns-then-not-is_empty c =
    let loop = c.loop-k in
    let fours = c.as_chunks.ensures in
    (sym (loop.invariant.1 ∙ read_ends _ _ _ loop.l c.args.e.now c.as_chunks.result.1.now loop.k (omega (arith, fours.front_len)) fours.back ∙ rw (sym c.is_empty.ensures ∙ c.if-not-is_empty.true)), loop.invariant.0)

pub returns-else-not-is_empty : goal.returns-else-not-is_empty
returns-else-not-is_empty c =
    let loop = c.loop-k in
    let fours = c.as_chunks.ensures in
    (sym (loop.invariant.1 ∙ read_ends _ _ _ loop.l c.args.e.now c.as_chunks.result.1.now loop.k (omega (arith, fours.front_len)) fours.back ∙ rw (sym c.is_empty.ensures ∙ c.if-not-is_empty.false)), loop.invariant.0)
