-- `steps::judge_packet` meets its contract. Assumes nothing.
use native.Mathlib.Omega.{arith}
use mathlib.Core.Path.{refl, ap, ◌∙◌}
use mathlib.Core.Bool.{true, false}
use lib.ListN.{length}
use Rattle.lists.proofs.Laying.{laid_length}
use Rattle.header.specs.Header.{right_sync}
use Rattle.calls.specs.declared.Core.{Core}
use Rattle.calls.specs.Sound.{rooms_sound}
use Rattle.arrays.specs.Lent.{core_in}
use Rattle.steps.proofs.Rooms.{synced_count, synced_sound}
use Rattle.steps.proofs.Doing.{fields, further_done, stopped_done}
use Rattle.arrays.proofs.Kept.{latest_same, told_then}
use Rattle.steps.proofs.judge_packet.Goals as goal

pub returns-in-Break : goal.returns-in-Break
returns-in-Break c =
    let start = c in
    let args = start.args in
    let packet = args.packet.now in
    let times = args.times.now in
    let core = core_in times args.words.now in
    let f = fields args.h packet start.requires.read_off.0.header in
    let sync = c.judge_sync in
    let caught = rw (c.in-Break.is, f.pid) at (sync.ensures.0 times) in
    record { done = stopped_done args.time packet args.counters.now core args.memory.now _ false args.numbers.now args.n _ c.in-Break.next caught refl; latest_kept = (latest_same (omega arith), sync.ensures.1) }

pub judge_header-requires : goal.judge_header-requires
judge_header-requires c =
    let start = c in
    let args = start.args in
    let packet = args.packet.now in
    let times = args.times.now in
    let core = core_in times args.words.now in
    let f = fields args.h packet start.requires.read_off.0.header in
    let sync = c.judge_sync in
    let caught = rw (c.in-Continue.is, f.pid) at (sync.ensures.0 times) in
    let ready = start.requires.judgeable.ready in
    let right = right_sync packet in record {
      ready = record {
        packet = ready.packet;
        listed = omega (arith, ap (λ (k : Core). k.count) caught.core ∙ synced_count right core, ready.listed);
        sound = ap (λ (k : Core). rooms_sound k.half args.memory.now) caught.core ∙ synced_sound right core args.memory.now ready.sound;
        places = omega (arith, ready.places, caught.few);
        numbers = omega (arith, ready.numbers, ap length caught.laid ∙ laid_length _ _ _ _ _);
      };
      read_off = (start.requires.read_off.0, start.requires.read_off.1);
    }

pub returns-in-Continue : goal.returns-in-Continue
returns-in-Continue c =
    let start = c in
    let args = start.args in
    let packet = args.packet.now in
    let times = args.times.now in
    let core = core_in times args.words.now in
    let f = fields args.h packet start.requires.read_off.0.header in
    let sync = c.judge_sync in
    let caught = rw (c.in-Continue.is, f.pid) at (sync.ensures.0 times) in
    let header = c.judge_header.ensures in
    record { done = further_done args.time packet args.counters.now core args.memory.now _ true args.numbers.now args.n _ c.in-Continue.next caught _ _ _ _ _ refl header.done; latest_kept = (header.moved.times, told_then sync.ensures.1 header.moved.words) }
