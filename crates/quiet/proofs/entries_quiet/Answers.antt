-- `quiet::entries_quiet` meets its contract. Assumes nothing.
use mathlib.Core.Path.{sym, ◌∙◌}
use native.Mathlib.Omega.{arith}
use lib.ListN.{length-set}
use Rattle.quiet.proofs.Turns.{entries_here, entries_marked, entries_on, entries_end}
use Rattle.quiet.proofs.entries_quiet.Goals as goal

pub returns-then-not-entry_quiet : goal.returns-then-not-entry_quiet
returns-then-not-entry_quiet g c =
    let loop = c.loop-k in
    let a = c.args in
    let es = (g.S.Standing.state a.standing.now).core.entries in
    let places = g.met.S.Standing.places a.standing.now in
    let here = sym c.entry_quiet.ensures ∙ c.if-not-entry_quiet.true in
    sym (loop.invariant.1 ∙ entries_here es a.count loop.k (omega (arith, places)) a.p a.t a.q loop.marks c.entry-e.result (omega arith) (sym c.entry-e.ensures) here)

pub returns-then-marks-mark : goal.returns-then-marks-mark
returns-then-marks-mark g c =
    let loop = c.loop-k in
    let a = c.args in
    let es = (g.S.Standing.state a.standing.now).core.entries in
    let places = g.met.S.Standing.places a.standing.now in
    let here = sym c.entry_quiet.ensures ∙ c.if-not-entry_quiet.false in
    sym (loop.invariant.1 ∙ entries_marked es a.count loop.k (omega (arith, places)) a.p a.t a.q loop.marks c.entry-e.result (omega arith) (sym c.entry-e.ensures) here (rw c.from-mark.ensures at c.if-marks-mark.true))

pub loop-k-preserved : goal.loop-k-preserved
loop-k-preserved g c =
    let loop = c.loop-k in
    let a = c.args in
    let es = (g.S.Standing.state a.standing.now).core.entries in
    let places = g.met.S.Standing.places a.standing.now in
    let here = sym c.entry_quiet.ensures ∙ c.if-not-entry_quiet.false in
    (length-set loop.marks _ _ ∙ loop.invariant.0, loop.invariant.1 ∙ rw c.from-mark.ensures (entries_on es a.count loop.k (omega (arith, places)) a.p a.t a.q loop.marks c.entry-e.result (omega arith) (sym c.entry-e.ensures) here (rw c.from-mark.ensures at c.if-marks-mark.false)))

pub returns : goal.returns
returns g c =
    let loop = c.loop-k in
    let a = c.args in
    let es = (g.S.Standing.state a.standing.now).core.entries in
    let places = g.met.S.Standing.places a.standing.now in
    sym (loop.invariant.1 ∙ entries_end es a.count loop.k (omega (arith, places)) a.p a.t a.q loop.marks (omega arith))
