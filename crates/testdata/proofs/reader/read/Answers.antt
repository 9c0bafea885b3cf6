-- `testdata::reader::read` meets its contract. Assumes nothing.
use mathlib.Core.Path.{sym, ◌∙◌}
use native.Mathlib.Omega.{arith}
use Rattle.testdata.proofs.Readings.{sound, sound_loop, sound_plain}
use Rattle.testdata.proofs.reader.read.Goals as goal

pub overflow_sub-result : goal.overflow_sub-result
overflow_sub-result c =
    let s = c.args.s.now in
    omega (arith, c.loop_length-n.ensures, sound_loop s (sound s (sym c.in_ok-judge.ensures)) (sym c.is_generic.ensures ∙ c.if-is_generic.true))

pub overflow_sub-result-2 : goal.overflow_sub-result-2
overflow_sub-result-2 c =
    let s = c.args.s.now in
    sound_plain s (sound s (sym c.in_ok-judge.ensures)) (sym c.is_generic.ensures ∙ c.if-is_generic.false)
