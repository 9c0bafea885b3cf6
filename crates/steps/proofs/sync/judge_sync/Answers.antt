-- `steps::sync/judge_sync` meets its contract. Assumes nothing.
use mathlib.Core.Path.{sym, ◌∙◌}
use mathlib.Core.Bool.{true, false}
use Rattle.arrays.specs.Lent.{core_in}
use Rattle.steps.proofs.Doing.{in_sync_is, caught_as, lost_caught}
use Rattle.steps.proofs.sync.judge_sync.Goals as goal

pub returns-then-judge_lost : goal.returns-then-judge_lost
returns-then-judge_lost c =
    let args = c.args in
    let lost = c.judge_lost.ensures in
    ((λ times. lost_caught args.right (core_in times args.words.now) _ true args.time args.pid args.numbers.now args.n (sym c.sync_lost.ensures ∙ c.if-sync_lost.true) (lost.0 times).0 (sym c.if-judge_lost.true ∙ (lost.0 times).1)), lost.1)

pub returns-then-sync_lost : goal.returns-then-sync_lost
returns-then-sync_lost c =
    let args = c.args in
    let lost = c.judge_lost.ensures in
    ((λ times. lost_caught args.right (core_in times args.words.now) _ false args.time args.pid args.numbers.now args.n (sym c.sync_lost.ensures ∙ c.if-sync_lost.true) (lost.0 times).0 (sym c.if-judge_lost.false ∙ (lost.0 times).1)), lost.1)

pub returns : goal.returns
returns c =
    let args = c.args in
    let caught = c.judge_in_sync.ensures in
    ((λ times. caught_as (sym (in_sync_is args.right (core_in times args.words.now) (sym c.sync_lost.ensures ∙ c.if-sync_lost.false))) (caught.0 times)), caught.1)
