-- `engine::lent/synced_packet` meets its contract. Assumes nothing.
use Rattle.std.proofs.Common.{rules}
use native.Mathlib.Omega.{arith}
use mathlib.Core.Path.{◌≡◌, sym, ap, ◌∙◌}
use mathlib.Core.Bool.{Bool}
use Prim.Native.Nat.{ℕ}
use Rattle.std.specs.Prelude.{Err}
use Rattle.arrays.specs.Lent.{state_in}
use Rattle.arrays.specs.inner.Kept.{Sized}
use Rattle.quiet.specs.inner.Quiet.{quiet_call}
use Rattle.quiet.proofs.Turns.{told_quiet}
use Rattle.engine.proofs.Ends.{packet_refused_early, told_table, packet_quiet}
use Rattle.engine.proofs.lent.synced_packet.Goals as goal

pub returns-in_err-h : goal.returns-in_err-h
returns-in_err-h c =
    let a = c.args in
    let r = c.in_err-h.field-0.0 in
    let same : c.from_residual.result ≡ Err r = search rules in
    rw same (packet_refused_early a.times.now a.words.now a.time a.packet.now a.counters.now a.memory.now a.capacity a.numbers.now r c.in_err-h.ensures)

pub returns-in-Some : goal.returns-in-Some
returns-in-Some c =
    let a = c.args in
    let times = a.times.now in
    let words = a.words.now in
    let packet = a.packet.now in
    let counters = a.counters.now in
    let h = c.in_ok-h.h in
    let byte = c.in_ok-h.byte in
    let left = c.in-Some.left in
    let read = c.in_ok-h.ensures.1 in
    let sized : Sized times words = record { long = omega arith; wide = omega arith } in
    let call : ℕ → Bool = quiet_call (state_in times words) a.memory.now a.time packet in
    let told = told_quiet packet byte left (call byte) c.in-Some.ensures in
    packet_quiet times words a.time packet counters a.memory.now a.capacity a.numbers.now sized c.in_ok-h.ensures.0 _ (ap call (sym read.byte) ∙ told.0)
    (told_table packet counters h byte left read told.1)
