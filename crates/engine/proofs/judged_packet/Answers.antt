-- `engine::judged_packet` meets its contract. Assumes nothing.
use Rattle.std.proofs.Common.{rules}
use mathlib.Core.Path.{◌≡◌, refl, sym, ap, ◌∙◌}
use mathlib.Core.Bool.{Bool}
use Prim.Native.Nat.{ℕ}
use Rattle.std.specs.Prelude.{Err}
use Rattle.arrays.specs.inner.Kept.{Typed}
use Rattle.checks.proofs.Ladders.{number_given}
use Rattle.quiet.specs.inner.Quiet.{quiet_call}
use Rattle.quiet.proofs.Turns.{told_quiet}
use Rattle.engine.proofs.Ends.{told_table}
use Rattle.engine.proofs.Values.{packet_refused_early_at, packet_quiet_at, loud_refused, loud_accepted}
use Rattle.engine.proofs.judged_packet.Goals as goal

pub returns-in_err-h : goal.returns-in_err-h
returns-in_err-h c =
    let a = c.args in
    let r = c.in_err-h.field-0.0 in
    let same : c.from_residual.result ≡ Err r = search rules in
    rw same (packet_refused_early_at a.state.now a.time a.packet.now a.counters.now a.memory.now a.capacity a.numbers.now r c.in_err-h.ensures)

pub returns-in-Some : goal.returns-in-Some
returns-in-Some c =
    let a = c.args in
    let packet = a.packet.now in
    let counters = a.counters.now in
    let h = c.in_ok-h.h in
    let byte = c.in_ok-h.byte in
    let left = c.in-Some.left in
    let read = c.in_ok-h.ensures.1 in
    let typed : Typed a.state.now = c.requires in
    let call : ℕ → Bool = quiet_call a.state.now a.memory.now a.time packet in
    let told = told_quiet packet byte left (call byte) c.in-Some.ensures in
    packet_quiet_at a.state.now a.time packet counters a.memory.now a.capacity a.numbers.now c.in_ok-h.ensures.0 typed _ (ap call (sym read.byte) ∙ told.0)
    (told_table packet counters h byte left read told.1)

pub returns-in_err-n : goal.returns-in_err-n
returns-in_err-n c =
    let a = c.args in
    let r = c.in_err-n.field-0.0 in
    let typed : Typed a.state.now = c.requires in
    let laid = rw (c.lay_times.ensures, c.lay_words.ensures) at c.in_err-n.ensures in
    let same : c.from_residual-in_err-n.result ≡ Err r = search rules in
    rw same (loud_refused a.state.now a.time a.packet.now a.counters.now a.memory.now a.capacity a.numbers.now typed laid (number_given r))

pub returns : goal.returns
returns c =
    let a = c.args in
    let typed : Typed a.state.now = c.requires in
    let laid = rw (c.lay_times.ensures, c.lay_words.ensures) at c.in_ok-n.ensures in
    rw c.state_in.ensures (loud_accepted a.state.now a.time a.packet.now a.counters.now a.memory.now a.capacity a.numbers.now typed laid refl)
