-- `steps::judge_scrambled` meets its contract. Assumes nothing.
use native.Mathlib.Omega.{arith}
use mathlib.Core.Path.{sym, ◌∙◌}
use borrow.Author.Tests.{eq-eqb, ne_eqb}
use Rattle.lists.proofs.Laying.{laid_none}
use Rattle.steps.proofs.judge_scrambled.Goals as goal

pub returns-then-pid-eq-PAT_PID : goal.returns-then-pid-eq-PAT_PID
returns-then-pid-eq-PAT_PID c =
    let put = c.put in
    ((λ times. rw (eq-eqb _ _ c.if-pid-eq-PAT_PID.true) (put.ensures.0, put.ensures.1)), omega arith)

pub returns-then-is_listed : goal.returns-then-is_listed
returns-then-is_listed c =
    let put = c.put-then-is_listed in
    ((λ times. rw (ne_eqb _ _ c.if-pid-eq-PAT_PID.false, sym (c.is_listed.ensures times) ∙ c.if-is_listed.true) (put.ensures.0, put.ensures.1)), omega arith)

pub returns : goal.returns
returns c = ((λ times. rw (ne_eqb _ _ c.if-pid-eq-PAT_PID.false, sym (c.is_listed.ensures times) ∙ c.if-is_listed.false) (omega arith, sym (laid_none _ _ _ _))), omega arith)
