-- `payloads::follow` meets its contract. The invariant: what the payload comes to is what the bytes still to be fed come to from here, behind
-- the events laid so far; each finished section has taken three bytes or more. Assumes nothing.
use borrow.Author.Rules.{rules}
use native.Mathlib.Omega.{arith}
use mathlib.Core.Path.{refl, sym, ◌∙◌}
use lib.ListN.{length-drop}
use Rattle.lists.proofs.Turns.{rest_all}
use Rattle.sections.proofs.Jobs.{empty_more}
use Rattle.payloads.proofs.Sections.{new_section, reached_begins, stuffing_ends, bytes_end, section_fit, section_inside, section_three, section_leaves, section_waits, section_follows, section_stops}
use Rattle.arrays.proofs.Kept.{moved_none, moved_then}
use Rattle.payloads.proofs.follow.Goals as goal

pub loop-at-init : goal.loop-at-init
loop-at-init c =
    record { inside = omega arith; moved = moved_none (omega arith) (omega arith); fit = c.requires.fit; few = omega arith; same = refl; reached = reached_begins _ _ _ _ _ _ _ _ }

pub returns-then-s-at-clause-shown : goal.returns-then-s-at-clause-shown
returns-then-s-at-clause-shown c =
    let loop = c.loop-at in
    stuffing_ends _ _ _ _ _ _ _ loop.at _ _ _ _ loop.invariant.reached _ c.loop-at-test.true c.if-s-at.true refl

pub lay-l-requires-clause-half_value : goal.lay-l-requires-clause-half_value
lay-l-requires-clause-half_value c = empty_more c.loop-at.memory c.args.a.room

pub returns-then-is_more : goal.returns-then-is_more
returns-then-is_more c =
    let loop = c.loop-at in
    let q = new_section c.args.a.inside loop.invariant.fit c.lay-l.ensures.0 c.lay-l.ensures.1 c.loop-at-test.true c.if-s-at.false in
    record { shown = section_waits q loop.invariant.reached _ (sym c.is_more.ensures ∙ c.if-is_more.true) refl; moved = (loop.invariant.moved, omega arith, omega (arith, section_inside q)) }

pub act-n-requires : goal.act-n-requires
act-n-requires c =
    let loop = c.loop-at in
    let q = new_section c.args.a.inside loop.invariant.fit c.lay-l.ensures.0 c.lay-l.ensures.1 c.loop-at-test.true c.if-s-at.false in
    record { fit = section_fit q; few = (section_inside q, omega (arith, loop.invariant.few, q.here, c.requires.few)) }

pub returns-then-is_bad-clause-shown : goal.returns-then-is_bad-clause-shown
returns-then-is_bad-clause-shown c =
    let loop = c.loop-at in
    let q = new_section c.args.a.inside loop.invariant.fit c.lay-l.ensures.0 c.lay-l.ensures.1 c.loop-at-test.true c.if-s-at.false in
    section_stops q loop.invariant.reached c.act-n.ensures.shown (sym c.is_more.ensures ∙ c.if-is_more.false) _ (sym c.is_bad.ensures ∙ c.if-is_bad.true) refl

pub loop-at-smaller : goal.loop-at-smaller
loop-at-smaller c =
    let loop = c.loop-at in
    let q = new_section c.args.a.inside loop.invariant.fit c.lay-l.ensures.0 c.lay-l.ensures.1 c.loop-at-test.true c.if-s-at.false in
    omega (arith, rw (rest_all c.args.s.now loop.at, length-drop) at c.lay-l.ensures.2, section_three q (sym c.is_more.ensures ∙ c.if-is_more.false), q.here)

pub loop-at-preserved : goal.loop-at-preserved
loop-at-preserved c =
    let loop = c.loop-at in
    let q = new_section c.args.a.inside loop.invariant.fit c.lay-l.ensures.0 c.lay-l.ensures.1 c.loop-at-test.true c.if-s-at.false in
    let act = c.act-n.ensures in
    let ends = sym c.is_more.ensures ∙ c.if-is_more.false in
    record {
      inside = omega (arith, rw (rest_all c.args.s.now loop.at, length-drop) at c.lay-l.ensures.2, loop.invariant.inside);
      moved = moved_then loop.invariant.moved act.moved.0;
      fit = section_leaves q loop.invariant.reached act.shown ends act.moved.1;
      few = omega (arith, act.moved.2, loop.invariant.few, section_three q ends);
      same = search rules;
      reached = section_follows q loop.invariant.reached act.shown ends (sym c.is_bad.ensures ∙ c.if-is_bad.false);
    }

pub returns-clause-shown : goal.returns-clause-shown
returns-clause-shown c =
    let loop = c.loop-at in
    bytes_end _ _ _ _ _ _ _ loop.at _ _ _ _ loop.invariant.reached _ c.loop-at-test.false refl
