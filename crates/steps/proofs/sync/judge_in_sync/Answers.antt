-- `steps::sync/judge_in_sync` meets its contract. Assumes nothing.
use native.Mathlib.Omega.{arith}
use mathlib.Core.Path.{refl, sym, ap, ◌∙◌}
use lib.ListN.{replicate}
use borrow.Author.Tests.{eq-eqb, ne_eqb}
use Rattle.lists.proofs.Laying.{laid_none, laid_turn}
use Rattle.events.specs.Events.{numbers_of}
use Rattle.events.specs.Capacity.{record_width}
use Rattle.sections.specs.Rooms.{room_count}
use Rattle.calls.specs.Cores.{with_half}
use Rattle.arrays.proofs.Kept.{told_then}
use Rattle.steps.proofs.sync.judge_in_sync.Goals as goal

pub returns-then-right : goal.returns-then-right
returns-then-right c =
    let sync = c.set_sync.ensures in
    ((λ times. rw c.if-right.true (record { core = sync.0 times; further = refl; next = omega arith; laid = sym (laid_none _ _ _ _); few = omega arith })), sync.1)

pub returns-then-sync_run-eq1 : goal.returns-then-sync_run-eq1
returns-then-sync_run-eq1 c =
    let put2 = c.put in
    let put = c.put-next in
    let run = eq-eqb _ _ (sym c.sync_run.ensures ∙ c.if-sync_run-eq1.true) in
    let w = laid_turn numbers_of record_width (λ e. refl) _ _ _ _ _ _ _ _ put.ensures.0 put.ensures.1 put2.ensures.0 put2.ensures.1 in
    ((λ times. rw (c.if-right.false, run) (record { core = c.drop_all.ensures.0 times ∙ ap (with_half (replicate room_count 0)) (c.set_sync-then-sync_run-eq1.ensures.0 times); further = refl; next = w.0; laid = w.1; few = omega arith })), told_then c.set_sync-then-sync_run-eq1.ensures.1 c.drop_all.ensures.1)

pub returns : goal.returns
returns c =
    let put = c.put-next in
    let sync = c.set_sync-2.ensures in
    let run = ne_eqb _ _ (λ e. c.if-sync_run-eq1.false (c.sync_run.ensures ∙ e)) in
    ((λ times. rw (c.if-right.false, run) (record { core = sync.0 times; further = refl; next = put.ensures.0; laid = put.ensures.1; few = omega arith })), sync.1)
