-- `steps::sync/judge_lost` meets its contract. Assumes nothing.
use mathlib.Core.Path.{refl, sym, ◌∙◌}
use borrow.Author.Tests.{eq-eqb, ne_eqb}
use Rattle.steps.proofs.sync.judge_lost.Goals as goal

pub returns-then-not-right : goal.returns-then-not-right
returns-then-not-right c =
    let sync = c.set_sync.ensures in
    ((λ times. rw (c.if-not-right.true) (sync.0 times, refl)), sync.1)

pub returns-then-run-eq4 : goal.returns-then-run-eq4
returns-then-run-eq4 c =
    let sync = c.set_sync-then-run-eq4.ensures in
    let run = eq-eqb _ _ (sym c.sync_run-run.ensures ∙ c.if-run-eq4.true) in
    ((λ times. rw (c.if-not-right.false, run) (sync.0 times, refl)), sync.1)

pub returns : goal.returns
returns c =
    let sync = c.set_sync-2.ensures in
    let ran = c.sync_run-run.ensures in
    let run = ne_eqb _ _ (λ e. c.if-run-eq4.false (ran ∙ e)) in
    ((λ times. rw (c.if-not-right.false, run) (rw ran at (sync.0 times), refl)), sync.1)
