-- `testdata::writer::lay` meets its contract. Assumes nothing.
use mathlib.Core.Path.{◌≡◌, refl, ap, ◌∙◌}
use Prim.Native.Nat.{◌+◌, ◌≤◌}
use native.Mathlib.Omega.{arith}
use lib.ListN.{length}
use lib.Seq.{sets}
use Rattle.testdata.proofs.Writings.{section_plain, laid_plain, laid_unsealed, laid_sealed}
use Rattle.testdata.proofs.writer.lay.Goals as goal

pub returns-in-Plain : goal.returns-in-Plain
returns-in-Plain c =
    rw c.in-Plain.is (c.copy.ensures ∙ laid_plain _ _ _ _ c.lay_head.ensures ∙ ap (sets c.args.place.now 0) (section_plain _ _ _))

pub returns-in-Generic : goal.returns-in-Generic
returns-in-Generic c =
    let a = c.args in
    let h = c.in-Generic.h in
    let x = c.in-Generic.x in
    let l = length a.loop_bytes.now in
    let d = length a.«data».now in
    let size : 10 + l + d + 1 ≡ 11 + l + d = omega arith in
    let fits : 14 + l + d ≤ length a.place.now = rw c.in-Generic.is at c.requires.data_in_bounds.0 in
    let front = c.copy-in-Generic-2.ensures ∙ laid_unsealed _ _ _ _ _ _ _ _ (rw size at c.lay_head-in-Generic.ensures) c.lay_syntax.ensures c.copy-in-Generic.ensures in
    rw c.in-Generic.is
    (c.copy-in-Generic-3.ensures
    ∙ ap (sets c.copy-in-Generic-2.new.dst (10 + l + d)) c.to_be_bytes.ensures
    ∙ laid_sealed a.place.now h x a.loop_bytes.now a.«data».now _ _ _ refl (omega arith) front c.crc-c.ensures)
