-- `engine::lent/loud_packet` meets its contract. Assumes nothing.
use Rattle.std.proofs.Common.{rules}
use native.Mathlib.Omega.{arith}
use mathlib.Core.Path.{◌≡◌, sym, ap, ◌∙◌}
use Prim.Native.Nat.{◌<◌}
use lib.ListN.{length}
use Rattle.std.specs.Prelude.{Err}
use Rattle.lists.proofs.Laying.{laid_length}
use Rattle.header.specs.declared.Header.{Header}
use Rattle.header.specs.Header.{pid_of, header_of}
use Rattle.calls.specs.declared.Core.{Core}
use Rattle.calls.specs.Calls.{packet_refusal}
use Rattle.calls.proofs.Accepted.{packet_accepted, sound_parts, entry_since}
use Rattle.arrays.specs.Lent.{state_in}
use Rattle.arrays.specs.inner.Kept.{Sized}
use Rattle.arrays.proofs.Shapes.{packet_small, held_typed}
use Rattle.arrays.proofs.Same.{times_same, told_same}
use Rattle.checks.specs.Refusals.{refusal_number}
use Rattle.checks.specs.inner.Ladders.{state_refusal}
use Rattle.checks.proofs.Ladders.{number_given, right_passed}
use Rattle.engine.proofs.Ends.{sound_rooms, sound_run, packet_refused, packet_done}
use Rattle.engine.proofs.lent.loud_packet.Goals as goal

pub returns-in_err-check_state : goal.returns-in_err-check_state
returns-in_err-check_state c =
    let args = c.args in
    let times = args.times.now in
    let words = args.words.now in
    let packet = args.packet.now in
    let counters = args.counters.now in
    let memory = args.memory.now in
    let s = state_in times words in
    let r = c.in_err-check_state.field-0.0 in
    let given : refusal_number r ≡ state_refusal s args.time memory args.byte = c.in_err-check_state.ensures in
    let number = given ∙ ap (state_refusal s args.time memory) c.requires.1.byte ∙ sym (right_passed s args.time packet counters memory args.capacity c.requires.0) in
    let same : c.from_residual.result ≡ Err r = search rules in
    rw same (packet_refused times words args.time packet counters memory args.capacity args.numbers.now (refusal_number r) number (number_given r))

pub judge_late-late-requires : goal.judge_late-late-requires
unfolding state_in
judge_late-late-requires c =
    let args = c.args in
    let times = args.times.now in
    let words = args.words.now in
    let packet = args.packet.now in
    let counters = args.counters.now in
    let memory = args.memory.now in
    let s = state_in times words in
    let e : packet_refusal s args.time packet counters memory args.capacity ≡ 0 = right_passed s args.time packet counters memory args.capacity c.requires.0 ∙ ap (state_refusal s args.time memory) (sym c.requires.1.byte) ∙ sym c.in_ok-check_state.ensures in
    let a = packet_accepted s args.time packet counters memory args.capacity e in
    let h = sound_parts s memory a.sound in
    (h.count, h.since, entry_since s memory h)

pub judge_packet-n-requires-clause-judgeable : goal.judge_packet-n-requires-clause-judgeable
unfolding state_in
judge_packet-n-requires-clause-judgeable c =
    let args = c.args in
    let times = args.times.now in
    let words = args.words.now in
    let packet = args.packet.now in
    let counters = args.counters.now in
    let memory = args.memory.now in
    let s = state_in times words in
    let e : packet_refusal s args.time packet counters memory args.capacity ≡ 0 = right_passed s args.time packet counters memory args.capacity c.requires.0 ∙ ap (state_refusal s args.time memory) (sym c.requires.1.byte) ∙ sym c.in_ok-check_state.ensures in
    let a = packet_accepted s args.time packet counters memory args.capacity e in
    let h = sound_parts s memory a.sound in
    let l = c.judge_late-late.ensures in record {
      ready =
          record {
            packet = a.packet;
            listed = h.count;
            sound = sound_rooms s memory a.sound;
            places = omega (arith, l.2);
            numbers = omega (arith, ap length l.1 ∙ laid_length _ _ _ _ _);
          };
      table = a.table;
      run = sound_run s memory h;
    }

pub returns : goal.returns
unfolding header_of state_in
returns c =
    let args = c.args in
    let times = args.times.now in
    let words = args.words.now in
    let sized : Sized times words = record { long = omega arith; wide = omega arith } in
    let packet = args.packet.now in
    let counters = args.counters.now in
    let memory = args.memory.now in
    let s = state_in times words in
    let e : packet_refusal s args.time packet counters memory args.capacity ≡ 0 = right_passed s args.time packet counters memory args.capacity c.requires.0 ∙ ap (state_refusal s args.time memory) (sym c.requires.1.byte) ∙ sym c.in_ok-check_state.ensures in
    let a = packet_accepted s args.time packet counters memory args.capacity e in
    let h = sound_parts s memory a.sound in
    let l = c.judge_late-late.ensures in
    let done = c.judge_packet-n.ensures in
    let small = packet_small s (held_typed times words sized) args.time packet counters memory a.sound in
    let pid : pid_of packet < 65536 = omega (arith, c.requires.2, ap (λ (k : Header). k.pid) c.requires.1.header) in
    packet_done times words args.time packet counters memory args.capacity args.numbers.now e a.time pid l.0 l.1 l.2 l.3 done.done (sym (times_same c.judge_packet-n.new.times c.judge_packet-n.new.words args.time done.latest_kept.0.long)) (sym (told_same c.judge_packet-n.new.times c.judge_packet-n.new.words args.time done.latest_kept.1 (omega (arith, ap (λ (k : Core). k.count) done.done.core, small.0))))
