-- `engine::lent/settled` meets its contract. Assumes nothing.
use Rattle.std.proofs.Common.{rules}
use mathlib.Core.Path.{◌≡◌, sym}
use Rattle.std.specs.Prelude.{Err}
use Rattle.calls.proofs.Accepted.{clock_accepted, sound_parts, entry_since}
use Rattle.arrays.specs.Lent.{state_in}
use Rattle.checks.specs.Refusals.{refusal_number}
use Rattle.checks.proofs.Ladders.{number_given}
use Rattle.engine.proofs.Ends.{sound_run, clock_refused, clock_done}
use Rattle.engine.proofs.lent.settled.Goals as goal

pub returns-in_err-check_clock : goal.returns-in_err-check_clock
returns-in_err-check_clock c =
    let args = c.args in
    let times = args.times.now in
    let words = args.words.now in
    let r = c.in_err-check_clock.field-0.0 in
    let same : c.from_residual.result ≡ Err r = search rules in
    rw same (clock_refused times words args.time args.memory.now args.capacity args.numbers.now (refusal_number r) c.in_err-check_clock.ensures (number_given r))

pub judge_late-late-requires : goal.judge_late-late-requires
unfolding state_in
judge_late-late-requires c =
    let args = c.args in
    let times = args.times.now in
    let words = args.words.now in
    let e = sym c.in_ok-check_clock.ensures in
    let a = clock_accepted (state_in times words) args.time args.memory.now args.capacity e in
    let h = sound_parts (state_in times words) args.memory.now a.sound in
    (h.count, h.since, entry_since (state_in times words) args.memory.now h)

pub settle-requires : goal.settle-requires
unfolding state_in
settle-requires c =
    let args = c.args in
    let times = args.times.now in
    let words = args.words.now in
    let e = sym c.in_ok-check_clock.ensures in
    let a = clock_accepted (state_in times words) args.time args.memory.now args.capacity e in
    let h = sound_parts (state_in times words) args.memory.now a.sound in
    (h.count, sound_run (state_in times words) args.memory.now h)

pub returns : goal.returns
returns c =
    let args = c.args in
    let times = args.times.now in
    let words = args.words.now in
    let e = sym c.in_ok-check_clock.ensures in
    let a = clock_accepted (state_in times words) args.time args.memory.now args.capacity e in
    let h = sound_parts (state_in times words) args.memory.now a.sound in
    let l = c.judge_late-late.ensures in
    clock_done times words args.time args.memory.now args.capacity args.numbers.now e l.0 l.1 l.2 l.3 c.settle.ensures.0 c.settle.ensures.1
