-- `steps::take_course` meets its contract. Assumes nothing.
use native.Mathlib.Omega.{arith}
use mathlib.Core.Path.{◌≡◌, refl, sym, ap, ◌∙◌}
use mathlib.Core.List.{List}
use Prim.Native.Nat.{ℕ, ◌<◌, ◌≤◌}
use lib.ListN.{length, length-drop}
use borrow.Author.Tests.{lt-ltb, le-ltb, not-true, not-false}
use Rattle.lists.proofs.Turns.{rest_all}
use Rattle.header.specs.declared.Header.{Header}
use Rattle.header.specs.Header.{packet_size, header_of}
use Rattle.header.proofs.Payload.{payload_within, payload_from}
use Rattle.sections.specs.Rooms.{room_count}
use Rattle.calls.specs.declared.Core.{Core}
use Rattle.calls.specs.Sound.{rooms_sound}
use Rattle.arrays.specs.Lent.{core_in}
use Rattle.payloads.specs.inner.Taking.{held}
use Rattle.steps.proofs.Rooms.{kept_count, kept_sound, within_here, within_is, within_past}
use Rattle.steps.proofs.Doing.{done_as, fields, kept_as, course_left, taken_in}
use Rattle.steps.proofs.take_course.Goals as goal

-- the payload begins within the packet
begins : (h : Header) (p : List ℕ) → h ≡ header_of p → length p ≡ packet_size → h.payload ≤ length p
begins h p e size = omega (arith, (fields h p e).payload, payload_within p, size)

pub returns-then-not-j-clause-by_index : goal.returns-then-not-j-clause-by_index
returns-then-not-j-clause-by_index c =
    let args = c.args in
    λ cs r e.
    course_left args.seen.time args.seen.packet.now r args.j.keep _ cs (core_in args.times.now args.words.now) _ args.memory.now args.numbers.now args.n (c.keep_room.ensures.0 args.times.now r e) (rw (not-true _ c.if-not-j.true))

pub returns-in_default-clause-by_index : goal.returns-in_default-clause-by_index
returns-in_default-clause-by_index c =
    let args = c.args in
    λ cs r e.
    let past = le-ltb r room_count (within_past room_count r (sym c.in_default.is ∙ e)) in
    course_left args.seen.time args.seen.packet.now r args.j.keep _ cs (core_in args.times.now args.words.now) _ args.memory.now args.numbers.now args.n (c.keep_room.ensures.0 args.times.now r e) (rw (not-false _ c.if-not-j.false, past))

pub slice_bounds-take_payload-count : goal.slice_bounds-take_payload-count
slice_bounds-take_payload-count c = begins c.args.seen.header c.args.seen.packet.now c.requires.h_value.0 c.requires.ready.packet

pub slice_bounds-take_payload-start : goal.slice_bounds-take_payload-start
slice_bounds-take_payload-start c = omega (arith, begins c.args.seen.header c.args.seen.packet.now c.requires.h_value.0 c.requires.ready.packet)

pub take_payload-requires : goal.take_payload-requires
take_payload-requires c =
    let args = c.args in
    let packet = args.seen.packet.now in
    let at = args.seen.header.payload in
    let f = fields args.seen.header packet c.requires.h_value.0 in
    let below = c.requires.h_value.1 c.in-Some.room c.in-Some.is in
    let kept = c.keep_room.ensures.0 args.times.now c.in-Some.room (c.in-Some.is ∙ within_here room_count _ c.in-Some.room refl below) in
    let ready = c.requires.ready in record {
      room = below;
      listed = omega (arith, ap (λ (k : Core). k.count) kept ∙ kept_count args.j.keep (core_in args.times.now args.words.now) c.in-Some.room, ready.listed);
      sound = ap (λ (k : Core). rooms_sound k.half args.memory.now) kept ∙ kept_sound args.j.keep (core_in args.times.now args.words.now) c.in-Some.room args.memory.now ready.sound;
      payload = rw (rest_all packet at) (omega (arith, length-drop at packet, f.payload, ready.packet, payload_from packet));
      places = ready.places;
      numbers = ready.numbers;
    }

pub returns-clause-by_index : goal.returns-clause-by_index
returns-clause-by_index c =
    let args = c.args in
    let packet = args.seen.packet.now in
    let core = core_in args.times.now args.words.now in
    let f = fields args.seen.header packet c.requires.h_value.0 in
    let taken = c.take_payload.ensures in
    λ cs r e.
    let found = within_is room_count r c.in-Some.room (sym c.in-Some.is ∙ e) in
    let within_room : r < room_count = rw found at (c.requires.h_value.1 c.in-Some.room c.in-Some.is) in
    let same = kept_as args.j.keep core _ args.memory.now r (c.keep_room.ensures.0 args.times.now r e) in
    let s = rw (rest_all packet args.seen.header.payload, f.payload, f.pid, f.start, same, found) at taken.shown in
    done_as (taken_in args.seen.time packet r args.j.keep cs (held core args.memory.now) _ (rw (not-false _ c.if-not-j.false, lt-ltb r room_count within_room)))
    (record { core = s.core; counters = refl; memory = s.memory; next = s.next; laid = s.laid; few = taken.moved.1 })
