-- `testdata::writer::write` meets its contract. Assumes nothing.
use mathlib.Core.Path.{◌∙◌}
use native.Mathlib.Omega.{arith}
use lib.ListN.{length}
use Rattle.testdata.specs.Section.{size_of, section_of}
use Rattle.testdata.specs.Writer.{write_refusal, write_told, write_memory}
use Rattle.testdata.proofs.Told.{told_ok}
use Rattle.testdata.proofs.Writings.{fit, writes, section_length_lem}
use Rattle.testdata.proofs.writer.write.Goals as goal

pub returns : goal.returns
unfolding write_told write_memory
returns c =
    let a = c.args in
    let refusal = write_refusal a.f a.loop_bytes.now a.«data».now (length a.place.now) in
    let k = told_ok (λ n. n) refusal (size_of a.f (length a.loop_bytes.now) (length a.«data».now)) c.in_ok-n.n c.in_ok-n.ensures in
    let enough = (fit a.f a.loop_bytes.now a.«data».now a.place.now k.0).enough in
    let size = section_length_lem a.f a.loop_bytes.now a.«data».now in
    (c.in_ok-n.ensures, c.lay.ensures ∙ writes refusal (section_of a.f a.loop_bytes.now a.«data».now) a.place.now k.0 (omega arith))
