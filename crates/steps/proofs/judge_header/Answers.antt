-- `steps::judge_header` meets its contract. Assumes nothing.
use native.Mathlib.Omega.{arith}
use mathlib.Core.Path.{sym, ◌∙◌}
use mathlib.Core.List.{[], ◌∷◌}
use Rattle.lists.proofs.Laying.{laid_none}
use Rattle.events.specs.Faults.{transport_error}
use Rattle.calls.specs.Steps.{packet_events}
use Rattle.arrays.specs.Lent.{core_in}
use Rattle.payloads.specs.inner.Taking.{held}
use Rattle.steps.proofs.Doing.{done_as, quiet, done_quiet, done_also, fields, error_ends, null_ends, header_passed}
use Rattle.arrays.proofs.Kept.{moved_none}
use Rattle.steps.proofs.judge_header.Goals as goal

pub returns-then-h : goal.returns-then-h
returns-then-h c =
    let start = c in
    let args = start.args in
    let packet = args.seen.packet.now in
    let counters = args.counters.now in
    let h = held (core_in args.times.now args.words.now) args.memory.now in
    let f = fields args.seen.header packet start.requires.read_off.0.header in
    let put = rw f.pid at c.put.ensures in
    record { done = done_as (error_ends args.seen.time packet counters h (sym f.error ∙ c.if-h.true)) (done_also (quiet h counters) (packet_events args.seen.time packet (transport_error ∷ [])) 1 62 _ _ _ _ _ _ _ _ _ put.0 put.1 (omega arith) (done_quiet h counters 62 _ _)); moved = moved_none (omega arith) (omega arith) }

pub returns-then-h-2 : goal.returns-then-h-2
returns-then-h-2 c =
    let start = c in
    let args = start.args in
    let packet = args.seen.packet.now in
    let counters = args.counters.now in
    let h = held (core_in args.times.now args.words.now) args.memory.now in
    let f = fields args.seen.header packet start.requires.read_off.0.header in
    record { done = done_as (null_ends args.seen.time packet counters h (sym f.error ∙ c.if-h.false) (rw (f.pid, f.control) at c.if-h-2.true)) (done_also (quiet h counters) [] 0 63 _ _ _ _ _ _ _ _ _ (omega arith) (sym (laid_none _ _ _ _)) (omega arith) (done_quiet h counters 63 _ _)); moved = moved_none (omega arith) (omega arith) }

pub returns : goal.returns
returns c =
    let start = c in
    let args = start.args in
    let packet = args.seen.packet.now in
    let counters = args.counters.now in
    let h = held (core_in args.times.now args.words.now) args.memory.now in
    let f = fields args.seen.header packet start.requires.read_off.0.header in
    record { done = done_as (header_passed args.seen.time packet counters h (sym f.error ∙ c.if-h.false) (rw (f.pid, f.control) at c.if-h-2.false)) c.judge_counter.ensures.done; moved = c.judge_counter.ensures.moved }
