-- `payloads::resume` meets its contract. Assumes nothing.
use mathlib.Core.Path.{sym, ◌∙◌}
use native.Mathlib.Omega.{arith}
use Rattle.payloads.proofs.Payloads.{gone_none, half_built_now, going_fit, going_inside, going_short, gone_waits, gone_acts}
use Rattle.arrays.proofs.Kept.{moved_none}
use Rattle.payloads.proofs.resume.Goals as goal

pub returns-then-half-eq0-clause-gone : goal.returns-then-half-eq0-clause-gone
returns-then-half-eq0-clause-gone c = gone_none _ _ _ _ _ _ _ _ _ c.if-half-eq0.true

pub returns-then-is_more : goal.returns-then-is_more
returns-then-is_more c =
    let args = c.args in
    let pre = c.requires in
    let q = half_built_now c.args.a.inside pre.fit pre.more c.lay-l.ensures.0 c.lay-l.ensures.1 c.if-half-eq0.false in
    record { gone = gone_waits q args.a.time args.a.pid args.n (sym c.is_more.ensures ∙ c.if-is_more.true); moved = (moved_none (omega arith) (omega arith), pre.fit.listed, omega arith, going_short q) }

pub act-next-requires : goal.act-next-requires
act-next-requires c =
    let pre = c.requires in
    let q = half_built_now c.args.a.inside pre.fit pre.more c.lay-l.ensures.0 c.lay-l.ensures.1 c.if-half-eq0.false in
    record { fit = going_fit q; few = (going_inside q, pre.few.1) }

pub returns-then-is_bad-clause-gone : goal.returns-then-is_bad-clause-gone
returns-then-is_bad-clause-gone c =
    let args = c.args in
    let pre = c.requires in
    let q = half_built_now c.args.a.inside pre.fit pre.more c.lay-l.ensures.0 c.lay-l.ensures.1 c.if-half-eq0.false in
    rw (sym c.is_bad.ensures ∙ c.if-is_bad.true) at (gone_acts q args.a.time args.a.pid args.n c.act-next.ensures.shown (sym c.is_more.ensures ∙ c.if-is_more.false))

pub returns-clause-gone : goal.returns-clause-gone
returns-clause-gone c =
    let args = c.args in
    let pre = c.requires in
    let q = half_built_now c.args.a.inside pre.fit pre.more c.lay-l.ensures.0 c.lay-l.ensures.1 c.if-half-eq0.false in
    rw (sym c.is_bad.ensures ∙ c.if-is_bad.false) at (gone_acts q args.a.time args.a.pid args.n c.act-next.ensures.shown (sym c.is_more.ensures ∙ c.if-is_more.false))
