-- `engine::settled` meets its contract. Assumes nothing.
use Rattle.std.proofs.Common.{rules}
use mathlib.Core.Path.{◌≡◌, refl}
use Rattle.std.specs.Prelude.{Err}
use Rattle.arrays.specs.inner.Kept.{Typed}
use Rattle.checks.proofs.Ladders.{number_given}
use Rattle.engine.proofs.Values.{clock_refused_at, clock_accepted_at}
use Rattle.engine.proofs.settled.Goals as goal

pub returns-in_err-n : goal.returns-in_err-n
returns-in_err-n c =
    let a = c.args in
    let r = c.in_err-n.field-0.0 in
    let typed : Typed a.state.now = c.requires in
    let laid = rw (c.lay_times.ensures, c.lay_words.ensures) at c.in_err-n.ensures in
    let same : c.from_residual.result ≡ Err r = search rules in
    rw same (clock_refused_at a.state.now a.time a.memory.now a.capacity a.numbers.now typed laid (number_given r))

pub returns : goal.returns
returns c =
    let a = c.args in
    let typed : Typed a.state.now = c.requires in
    let laid = rw (c.lay_times.ensures, c.lay_words.ensures) at c.in_ok-n.ensures in
    rw c.state_in.ensures (clock_accepted_at a.state.now a.time a.memory.now a.capacity a.numbers.now typed laid refl)
