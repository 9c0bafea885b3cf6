-- `steps::judge_counter` meets its contract. Assumes nothing.
use native.Mathlib.Omega.{arith}
use mathlib.Core.Path.{refl, sym, ap, ◌∙◌}
use lib.ListN.{length, set}
use Rattle.lists.proofs.Laying.{laid_turn, laid_length}
use Rattle.events.specs.Events.{numbers_of}
use Rattle.events.specs.Capacity.{record_width}
use Rattle.header.specs.Header.{pid_of}
use Rattle.header.proofs.Payload.{counter_small}
use Rattle.sections.specs.Rooms.{room_count}
use Rattle.calls.specs.Cores.{room_for}
use Rattle.arrays.specs.Lent.{core_in}
use Rattle.payloads.specs.inner.Taking.{held}
use Rattle.steps.proofs.Rooms.{within_below}
use Rattle.steps.proofs.Doing.{done_as, done_from, done_quiet, done_also, fields, counter_scrambled, counter_clear}
use Rattle.arrays.proofs.Kept.{latest_same}
use Rattle.steps.proofs.judge_counter.Goals as goal

pub judge-j-requires : goal.judge-j-requires
judge-j-requires c =
    let start = c in
    let f = fields start.args.seen.header start.args.seen.packet.now start.requires.read_off.0.header in
    omega (arith, f.counter, counter_small start.args.seen.packet.now)

pub keep_room-requires : goal.keep_room-requires
keep_room-requires c =
    let args = c.args in
    within_below room_count (room_for (core_in args.times.now args.words.now) args.seen.header.pid) c.room_for-room.result (c.room_for-room.ensures args.times.now)

pub returns-then-h : goal.returns-then-h
returns-then-h c =
    let start = c in
    let args = start.args in
    let packet = args.seen.packet.now in
    let times = args.times.now in
    let core = core_in times args.words.now in
    let f = fields args.seen.header packet start.requires.read_off.0.header in
    let j = c.judge-j in
    let verdict = rw (start.requires.read_off.0.byte, start.requires.read_off.0.header) at j.ensures in
    let room = rw f.pid at (c.room_for-room.ensures times) in
    let said = rw f.pid at c.tell_continuity-next.ensures in
    let dropped = c.keep_room.ensures in
    let more = rw f.pid at (c.judge_scrambled-last.ensures.0 times) in
    let w = laid_turn numbers_of record_width (λ e. refl) _ _ _ _ _ _ _ _ said.0 said.1 more.0 more.1 in
    let same = ap (λ k. held k args.memory.now) (dropped.0 times (room_for core (pid_of packet)) room) in record {
      done = rw (c.from-pid.ensures ∙ f.pid) (done_as (counter_scrambled args.seen.time packet args.counters.now core j.result verdict args.memory.now (sym f.scrambled ∙ c.if-h.true))
          (done_also _ _ 2 61 _ _ _ _ _ _ _ _ _ w.0 w.1 (omega (arith, said.2, c.judge_scrambled-last.ensures.1)) (done_from same (done_quiet _ _ 61 _ _))));
      moved = record { times = latest_same (omega arith); words = dropped.1 };
    }

pub take_course-requires : goal.take_course-requires
take_course-requires c =
    let start = c in
    let args = start.args in
    let packet = args.seen.packet.now in
    let times = args.times.now in
    let core = core_in times args.words.now in
    let f = fields args.seen.header packet start.requires.read_off.0.header in
    let j = c.judge-j in
    let verdict = rw (start.requires.read_off.0.byte, start.requires.read_off.0.header) at j.ensures in
    let room = rw f.pid at (c.room_for-room.ensures times) in
    let said = rw f.pid at c.tell_continuity-next.ensures in
    let ready = start.requires.ready in record {
      ready = record {
        packet = ready.packet;
        listed = ready.listed;
        sound = ready.sound;
        places = omega (arith, said.2, ready.places);
        numbers = omega (arith, ap length said.1 ∙ laid_length _ _ _ _ _, ready.numbers);
      };
      h_value = (start.requires.read_off.0.header, within_below room_count (room_for core args.seen.header.pid) c.room_for-room.result (c.room_for-room.ensures times));
    }

pub returns : goal.returns
returns c =
    let start = c in
    let args = start.args in
    let packet = args.seen.packet.now in
    let times = args.times.now in
    let core = core_in times args.words.now in
    let f = fields args.seen.header packet start.requires.read_off.0.header in
    let j = c.judge-j in
    let verdict = rw (start.requires.read_off.0.byte, start.requires.read_off.0.header) at j.ensures in
    let room = rw f.pid at (c.room_for-room.ensures times) in
    let said = rw f.pid at c.tell_continuity-next.ensures in
    let course = c.take_course.ensures in record {
      done = rw (c.from-pid.ensures ∙ f.pid) (done_as (counter_clear args.seen.time packet args.counters.now core j.result verdict args.memory.now (sym f.scrambled ∙ c.if-h.false))
          (done_also _ _ 1 62 _ _ _ _ _ _ _ _ _ said.0 said.1 said.2 (course.by_index (set args.counters.now (pid_of packet) j.result.byte) (room_for core (pid_of packet)) room)));
      moved = course.moved;
    }
