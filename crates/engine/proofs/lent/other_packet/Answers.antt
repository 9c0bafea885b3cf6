-- `engine::lent/other_packet` meets its contract. Assumes nothing.
use Rattle.std.proofs.Common.{rules}
use mathlib.Core.Path.{◌≡◌}
use Rattle.std.specs.Prelude.{Err}
use Rattle.engine.proofs.Ends.{packet_refused_early}
use Rattle.engine.proofs.lent.other_packet.Goals as goal

pub returns-in_err-header : goal.returns-in_err-header
returns-in_err-header c =
    let a = c.args in
    let r = c.in_err-header.field-0.0 in
    let same : c.from_residual.result ≡ Err r = search rules in
    rw same (packet_refused_early a.times.now a.words.now a.time a.packet.now a.counters.now a.memory.now a.capacity a.numbers.now r c.in_err-header.ensures)
