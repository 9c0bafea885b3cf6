-- A quiet call on lent arrays does what the call does: the latest time and one table byte are all that it leaves. Assumes nothing.
use mathlib.Core.Path.{◌≡◌, sym, ap, ◌∙◌}
use mathlib.Core.Bool.{true}
use mathlib.Core.List.{List, []}
use Prim.Native.Nat.{ℕ, ◌≤◌}
use native.Mathlib.Omega.{arith}
use lib.ListN.{length, get_or, set}
use Rattle.lists.proofs.Places.{part_length}
use Rattle.watches.specs.Tables.{fixed_count}
use Rattle.header.specs.Header.{pid_of}
use Rattle.sections.specs.Rooms.{room_count}
use Rattle.calls.specs.Calls.{Result, answer_of, packet_call}
use Rattle.arrays.specs.declared.Reply.{Reply}
use Rattle.arrays.specs.Lent.{gaps_in, halves_in, state_in, latest_at, gaps_at, halves_at, lost_at, run_at, count_at}
use Rattle.arrays.specs.inner.Kept.{Sized}
use Rattle.arrays.specs.Replies.{reply_of, times_after, words_after}
use Rattle.arrays.proofs.Same.{times_same, words_same, lost_same, run_same, count_same}
use Rattle.checks.specs.inner.Ladders.{Right}
use Rattle.quiet.specs.inner.Quiet.{state_quiet, count_quiet, quiet_call}
use Rattle.quiet.proofs.Turns.{passed}
use Rattle.quiet.proofs.Calls.{state_parts, counted_table, quiet_call_lem}

module _ (times words : List ℕ) (sized : Sized times words) (t : ℕ) (x counters m : List ℕ) (capacity : ℕ) (right : Right t x counters capacity) where
  abbrev called : Result
  called = packet_call (state_in times words) t x counters m capacity

  abbrev quiet_reply : Reply
  quiet_reply = record { refusal = 0; n = 0 }

  pub quiet_done : quiet_call (state_in times words) m t x (get_or counters (pid_of x) 0) ≡ true
      → (quiet_reply ≡ reply_of (answer_of called))
      × (set times latest_at t ≡ times_after (answer_of called) times)
      × (words ≡ words_after (answer_of called) words)
      × (counted_table x counters ≡ called.counters)
      × (m ≡ called.memory)
      × (called.events ≡ [])
  unfolding state_in times_after words_after
  quiet_done e =
      let five : length (gaps_in times) ≤ fixed_count = omega (arith, part_length times gaps_at fixed_count (omega (arith, sized.long))) in
      let rooms : length (halves_in words) ≤ room_count = omega (arith, part_length words halves_at room_count (omega (arith, sized.wide))) in
      let call = sym (quiet_call_lem (state_in times words) m t x counters capacity right e five rooms) in
      let state = state_parts (state_in times words) m t (pid_of x) (passed (count_quiet x (get_or counters (pid_of x) 0)) (state_quiet (state_in times words) m t (pid_of x)) e).1 in
      let lost = lost_same (get_or words lost_at 0) state.insync in
      let run = run_same (get_or words run_at 0) (omega (arith, state.run)) in
      let count = count_same (get_or words count_at 0) state.count in (
        ap (λ (r : Result). reply_of (answer_of r)) call,
        sym (times_same times words t sized.long) ∙ ap (λ (r : Result). times_after (answer_of r) times) call,
        sym (words_same times words t sized.wide lost run count) ∙ ap (λ (r : Result). words_after (answer_of r) words) call,
        ap (λ (r : Result). r.counters) call,
        ap (λ (r : Result). r.memory) call,
        sym (ap (λ (r : Result). r.events) call),
      )
