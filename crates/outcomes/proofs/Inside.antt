-- No second outcome inside: the same for the functions between crates, where what they require is met or not. A fact that a promise adds to
-- the equations, as `r < 256`, follows from them and takes nothing away. Assumes nothing.
use mathlib.Core.Path.{◌≡◌, refl, sym, ap, ◌∙◌}
use mathlib.Core.List.{[], ◌∷◌}
use Prim.Native.Nat.{ℕ, ◌≤◌, ◌<◌}
use native.Mathlib.Omega.{arith}
use seplogic.Ra.Ura.{Ura}
use base.Logic.{SProp}
use prog.Memory.{Memory}
use prog.Routine.{Routine}
use types.Logic.{Logic}
use contract.Monad.{Fun, fact}
use contract.Lifetimes.{Lfts}
use denote.Triple.Entry.{Args, Res}
use denote.Triple.Clauses.{AtExit}
use lib.ListN.{take}
use Rattle.octets.proofs.byte_at.Reads as byte_at
use Rattle.octets.proofs.copy.Reads as copy
use Rattle.events.proofs.put.Reads as put
use Rattle.watches.proofs.table_of.Reads as table_of
use Rattle.watches.proofs.late_tables.Reads as late-tables
use Rattle.watches.proofs.late_entry.Reads as late-entry
use Rattle.header.proofs.read.Reads as header_read
use Rattle.continuity.proofs.known_byte.Reads as known-byte
use Rattle.continuity.proofs.judge.Reads as judge
use Rattle.sections.proofs.room_base.Reads as room-base
use Rattle.sections.proofs.greatest_length.Reads as greatest-length
use Rattle.sections.proofs.stage_of.Reads as stage-of
use Rattle.sections.proofs.is_more.Reads as is-more
use Rattle.sections.proofs.lay.Reads as lay
use Rattle.sections.proofs.outcome_of.Reads as outcome-of
use Rattle.programmes.proofs.read_list.Reads as read-list
use Rattle.programmes.proofs.none_listed.Reads as none-listed
use Rattle.programmes.proofs.move_sections.Reads as move-sections
use Rattle.payloads.proofs.take_payload.Reads as take-payload
use Rattle.checks.proofs.none_half.Reads as none-half
use Rattle.checks.proofs.rooms_sound.Reads as rooms-sound
use Rattle.checks.proofs.U32FromRefusal.from.Reads as call_refusal_number
use Rattle.checks.proofs.check_open.Reads as check-open
use Rattle.checks.proofs.check_sizes.Reads as check-sizes
use Rattle.checks.proofs.check_state.Reads as check-state
use Rattle.checks.proofs.check_clock.Reads as check-clock
use Rattle.steps.proofs.judge_packet.Reads as judge-packet
use Rattle.engine.proofs.open_at.Reads as open_at
use Rattle.engine.proofs.opened_at.Reads as opened-at
use Rattle.engine.proofs.packet_in.Reads as packet-in
use Rattle.engine.proofs.clock_in.Reads as clock-in
use Rattle.engine.proofs.packet_at.Reads as packet-at
use Rattle.engine.proofs.clock_at.Reads as clock-at
use Rattle.records.proofs.event_at.Reads as event-at
use Rattle.arrays.proofs.state_in.Reads as state-in
use Rattle.arrays.proofs.entry_at.Reads as entry_at
use Rattle.arrays.proofs.entries_in.Reads as entries-in
use Rattle.arrays.proofs.halves_in.Reads as Halves-in
use Rattle.arrays.proofs.lay_halves.Reads as lay-halves
use Rattle.arrays.proofs.sync_lost.Reads as sync-lost
use Rattle.arrays.proofs.sync_run.Reads as sync-run
use Rattle.arrays.proofs.count_in.Reads as count-in
use Rattle.arrays.proofs.gaps_of.Reads as gaps-of
use Rattle.arrays.proofs.halves_of.Reads as halves_of
use Rattle.arrays.proofs.half_in.Reads as half_in
use Rattle.arrays.proofs.place_in.Reads as IsPlace-in
use Rattle.arrays.proofs.set_sync.Reads as set-sync
use Rattle.arrays.proofs.set_half.Reads as set-half
use Rattle.arrays.proofs.drop_all.Reads as drop_all
use Rattle.arrays.proofs.end_gap.Reads as end-gap
use Rattle.arrays.proofs.end_pair.Reads as end-pair
use Rattle.arrays.proofs.lay_list.Reads as lay-list
use Rattle.arrays.proofs.settle.Reads as settle
use Rattle.arrays.proofs.lay_times.Reads as lay-times
use Rattle.arrays.proofs.lay_words.Reads as lay-words
use Rattle.quiet.proofs.quiet_packet.Reads as quiet-packet
use Rattle.quiet.proofs.quiet_value.Reads as quiet-value
use Rattle.testdata.proofs.row_of.Reads as row_of
use Rattle.testdata.proofs.U8FromRefusal.from.Reads as refusal_number
use Rattle.textlog.proofs.next_line.Reads as next-line
use Rattle.lines.proofs.line_start.Reads as line-start
use Rattle.lines.proofs.line_length.Reads as line-length
use Rattle.lines.proofs.scan_bytes.Reads as scan-bytes
use Rattle.lines.proofs.line_kind.Reads as line-kind
use Rattle.columns.proofs.put_rows.Reads as put-rows
use Rattle.columns.proofs.put_refused.Reads as Put-refused
use Rattle.columns.proofs.put_header.Reads as put-header
use Rattle.records.specs.contracts.hand_over as hand-over
use Rattle.sections.specs.declared.Laid.{Laid}
use Rattle.sections.specs.inner.Steps.{laid_in}
use Rattle.records.specs.inner.Handing.{handed}
use Rattle.arrays.proofs.Kept.{latest_alike, sync_alike, told_alike}
use Rattle.outcomes.specs.Once.{OneAnswer, OneOutcome}
use Rattle.checks.proofs.Ladders.{same_outcome}
use Rattle.outcomes.proofs.Alike.{both, places_2, places_3, places_4, places_5}

-- numbers, n, events
abbrev pub hand_promise : (κs : Lfts 2) → Args hand-over.signature κs → Res hand-over.signature κs → AtExit hand-over.ended κs → Type 0
hand_promise κs a r s = (r ≡ a.1.0) × (s.1.1.0.now ≡ handed a.0.now a.1.0 a.1.1.0.now)

pub hand_said : {M : Type 1} {𝓤 : Ura M} (𝓛 : Logic 𝓤) (mem : Memory → SProp 𝓤) (run : Routine → Fun 𝓤)
    (κs : Lfts 2) (a : Args hand-over.signature κs) (r : Res hand-over.signature κs) (s : AtExit hand-over.ended κs)
    → (hand-over.clauses 𝓛 mem run κs a).ensures tt r s ≡ fact 𝓤 (hand_promise κs a r s)
hand_said 𝓛 mem run κs a r s = refl

-- lent memory is compared place after place
pub record NoSecondOutcomeInside : Type 0 where
  pub octets_byte_at : (κs : _) → OneAnswer (byte_at.Post κs) (λ r. r)
  pub octets_copy : (κs : _) → OneOutcome (copy.Post κs) (λ r. r) (λ s. s.0.now)
  pub events_put : (κs : _) → OneOutcome (put.Post κs) (λ r. r) (λ s. s.0.now)
  pub watches_table_of : (κs : _) → OneAnswer (table_of.Post κs) (λ r. r)
  pub watches_late_tables : (κs : _) → OneOutcome (late-tables.Post κs) (λ r. r) (λ s. s.0.now)
  pub watches_late_entry : (κs : _) → OneOutcome (late-entry.Post κs) (λ r. r) (λ s. s.0.now)
  pub header_read : (κs : _) → OneAnswer (header_read.Post κs) (λ r. r)
  pub continuity_known_byte : (κs : _) → OneAnswer (known-byte.Post κs) (λ r. r)
  pub continuity_judge : (κs : _) → OneAnswer (judge.Post κs) (λ r. r)
  pub sections_room_base : (κs : _) → OneAnswer (room-base.Post κs) (λ r. r)
  pub sections_greatest_length : (κs : _) → OneAnswer (greatest-length.Post κs) (λ r. r)
  pub sections_stage_of : (κs : _) → OneAnswer (stage-of.Post κs) (λ r. r)
  pub sections_is_more : (κs : _) → OneAnswer (is-more.Post κs) (λ r. r)
  pub sections_lay : (κs : _) → OneOutcome (lay.Post κs) (λ r. r) (λ s. s.0.now)
  pub sections_outcome_of : (κs : _) → OneAnswer (outcome-of.Post κs) (λ r. r)
  pub programmes_read_list : (κs : _) → OneAnswer (read-list.Post κs) (λ r. r)
  pub programmes_none_listed : (κs : _) → OneAnswer (none-listed.Post κs) (λ r. r)
  pub programmes_move_sections : (κs : _) → OneOutcome (move-sections.Post κs) (λ r. r) (λ s. s.0.now)
  -- times, words, memory, numbers
  pub payloads_take_payload : (κs : _)
      → OneOutcome (take-payload.Post κs) (λ r. r) (λ s. s.0.now ∷ s.1.0.now ∷ s.1.1.0.now ∷ s.1.1.1.1.1.1.1.1.0.now ∷ [])
  pub checks_none_half : (κs : _) → OneAnswer (none-half.Post κs) (λ r. r)
  pub checks_rooms_sound : (κs : _) → OneAnswer (rooms-sound.Post κs) (λ r. r)
  pub checks_refusal_number : (κs : _) → OneAnswer (call_refusal_number.Post κs) (λ r. r)
  pub checks_check_open : (κs : _) → OneAnswer (check-open.Post κs) (λ r. r)
  pub checks_check_sizes : (κs : _) → OneAnswer (check-sizes.Post κs) (λ r. r)
  pub checks_check_state : (κs : _) → OneAnswer (check-state.Post κs) (λ r. r)
  pub checks_check_clock : (κs : _) → OneAnswer (check-clock.Post κs) (λ r. r)
  -- times, words, counters, memory, numbers
  pub steps_judge_packet : (κs : _)
      → OneOutcome (judge-packet.Post κs) (λ r. r)
      (λ s. s.0.now ∷ s.1.0.now ∷ s.1.1.1.1.1.1.0.now ∷ s.1.1.1.1.1.1.1.0.now ∷ s.1.1.1.1.1.1.1.1.0.now ∷ [])
  pub engine_opened_at : (κs : _) → OneAnswer (opened-at.Post κs) (λ r. r)
  pub engine_open_at : (κs : _) → OneOutcome (open_at.Post κs) (λ r. r) (λ s. s.1.0.now)
  -- times, words, counters, memory, numbers
  pub engine_packet_in : (κs : _)
      → OneOutcome (packet-in.Post κs) (λ r. r)
      (λ s. s.0.now ∷ s.1.0.now ∷ s.1.1.1.1.0.now ∷ s.1.1.1.1.1.0.now ∷ s.1.1.1.1.1.1.1.0.now ∷ [])
  -- times, words, numbers
  pub engine_clock_in : (κs : _) → OneOutcome (clock-in.Post κs) (λ r. r) (λ s. s.0.now ∷ s.1.0.now ∷ s.1.1.1.1.1.0.now ∷ [])
  pub engine_packet_at : (κs : _)
      → OneOutcome (packet-at.Post κs) (λ r. r) (λ s. s.1.1.1.0.now ∷ s.1.1.1.1.0.now ∷ s.1.1.1.1.1.1.0.now ∷ [])
  pub engine_clock_at : (κs : _) → OneOutcome (clock-at.Post κs) (λ r. r) (λ s. s.1.1.1.1.0.now)
  pub records_event_at : (κs : _) → OneAnswer (event-at.Post κs) (λ r. r)
  pub records_hand_over : (κs : _) → OneOutcome (hand_promise κs) (λ r. r) (λ s. s.1.1.0.now)
  pub arrays_state_in : (κs : _) → OneAnswer (state-in.Post κs) (λ r. r)
  pub arrays_entry_at : (κs : _) → OneAnswer (entry_at.Post κs) (λ r. r)
  pub arrays_entries_in : (κs : _) → OneAnswer (entries-in.Post κs) (λ r. r)
  pub arrays_halves_in : (κs : _) → OneAnswer (Halves-in.Post κs) (λ r. r)
  pub arrays_lay_halves : (κs : _) → OneOutcome (lay-halves.Post κs) (λ r. r) (λ s. s.0.now)
  pub arrays_sync_lost : (κs : _) → OneAnswer (sync-lost.Post κs) (λ r. r)
  pub arrays_sync_run : (κs : _) → OneAnswer (sync-run.Post κs) (λ r. r)
  pub arrays_count_in : (κs : _) → OneAnswer (count-in.Post κs) (λ r. r)
  -- of a reference the promise gives what it shows
  pub arrays_gaps_of : (κs : _) → OneAnswer (gaps-of.Post κs) (λ r. r.now)
  pub arrays_halves_of : (κs : _) → OneAnswer (halves_of.Post κs) (λ r. r.now)
  pub arrays_half_in : (κs : _) → OneAnswer (half_in.Post κs) (λ r. r)
  pub arrays_place_in : (κs : _) → OneAnswer (IsPlace-in.Post κs) (λ r. r)
  pub arrays_set_sync : (κs : _) → OneOutcome (set-sync.Post κs) (λ r. r) (λ s. s.0.now)
  pub arrays_set_half : (κs : _) → OneOutcome (set-half.Post κs) (λ r. r) (λ s. s.0.now)
  pub arrays_drop_all : (κs : _) → OneOutcome (drop_all.Post κs) (λ r. r) (λ s. s.0.now)
  pub arrays_end_gap : (κs : _) → OneOutcome (end-gap.Post κs) (λ r. r) (λ s. s.0.now)
  pub arrays_end_pair : (κs : _) → OneOutcome (end-pair.Post κs) (λ r. r) (λ s. s.0.now)
  pub arrays_lay_list : (κs : _) → OneOutcome (lay-list.Post κs) (λ r. r) (λ s. s.0.now ∷ s.1.0.now ∷ [])
  pub arrays_settle : (κs : _) → OneOutcome (settle.Post κs) (λ r. r) (λ s. s.0.now ∷ s.1.0.now ∷ [])
  pub arrays_lay_times : (κs : _) → OneOutcome (lay-times.Post κs) (λ r. r) (λ s. s.1.0.now)
  pub arrays_lay_words : (κs : _) → OneOutcome (lay-words.Post κs) (λ r. r) (λ s. s.1.0.now)
  pub quiet_quiet_packet : (κs : _) → OneAnswer (quiet-packet.Post κs) (λ r. r)
  pub quiet_quiet_value : (κs : _) → OneAnswer (quiet-value.Post κs) (λ r. r)
  pub testdata_row_of : (κs : _) → OneAnswer (row_of.Post κs) (λ r. r)
  pub testdata_refusal_number : (κs : _) → OneAnswer (refusal_number.Post κs) (λ r. r)
  pub textlog_next_line : (κs : _) → OneAnswer (next-line.Post κs) (λ r. r)
  pub lines_line_start : (κs : _) → OneAnswer (line-start.Post κs) (λ r. r)
  pub lines_line_length : (κs : _) → OneAnswer (line-length.Post κs) (λ r. r)
  pub lines_scan_bytes : (κs : _) → OneOutcome (scan-bytes.Post κs) (λ r. r) (λ s. s.1.0.now)
  pub lines_line_kind : (κs : _) → OneOutcome (line-kind.Post κs) (λ r. r) (λ s. s.1.1.0.now)
  pub columns_put_rows : (κs : _) → OneOutcome (put-rows.Post κs) (λ r. r) (λ s. s.0.now)
  pub columns_put_refused : (κs : _) → OneOutcome (Put-refused.Post κs) (λ r. r) (λ s. s.0.now)
  pub columns_put_header : (κs : _) → OneOutcome (put-header.Post κs) (λ r. r) (λ s. s.0.now)

pub no_second_outcome_inside : NoSecondOutcomeInside
no_second_outcome_inside =
    record {
      octets_byte_at = λ κs a r r' s s' p q. both p.0 q.0;
      octets_copy = λ κs a r r' s s' p q. (refl, both p q);
      events_put = λ κs a r r' s s' p q. (both p.0 q.0, both p.1 q.1);
      watches_table_of = λ κs a r r' s s' p q. both p q;
      watches_late_tables = λ κs a r r' s s' p q. (both p.0 q.0, both p.1 q.1);
      watches_late_entry = λ κs a r r' s s' p q. (both p.0 q.0, both p.1 q.1);
      header_read = λ κs a r r' s s' p q. both p.0 q.0;
      continuity_known_byte = λ κs a r r' s s' p q. both p q;
      continuity_judge = λ κs a r r' s s' p q. both p q;
      sections_room_base = λ κs a r r' s s' p q. both p q;
      sections_greatest_length = λ κs a r r' s s' p q. both p q;
      sections_stage_of = λ κs a r r' s s' p q. both p q;
      sections_is_more = λ κs a r r' s s' p q. both p q;
      sections_lay = λ κs a r r' s s' p q. (
        both p.0 q.0,
        p.1
            ∙ ap (λ (x : Laid). laid_in a.1.0 a.0.now a.1.1.0 (take x.taken a.1.1.1.0.now)) (both p.0 q.0)
            ∙ sym q.1,
      );
      sections_outcome_of = λ κs a r r' s s' p q. both p q;
      programmes_read_list = λ κs a r r' s s' p q. both p.0 q.0;
      programmes_none_listed = λ κs a r r' s s' p q. both p q;
      programmes_move_sections = λ κs a r r' s s' p q. (both p.0 q.0, both p.1 q.1);
      payloads_take_payload = λ κs a r r' s s' p q.
          let same = both p.0.core q.0.core in (
            both p.0.next q.0.next,
            places_4 (latest_alike _ _ _ _ _ same p.1.0.times q.1.0.times) (sync_alike _ _ _ _ _ same p.1.0.words q.1.0.words)
                (both p.0.memory q.0.memory) (both p.0.laid q.0.laid),
          );
      checks_none_half = λ κs a r r' s s' p q. both p q;
      checks_rooms_sound = λ κs a r r' s s' p q. both p q;
      checks_refusal_number = λ κs a r r' s s' p q. both p q;
      checks_check_open = λ κs a r r' s s' p q. same_outcome r r' (both p q);
      checks_check_sizes = λ κs a r r' s s' p q. same_outcome r r' (both p q);
      checks_check_state = λ κs a r r' s s' p q. same_outcome r r' (both p q);
      checks_check_clock = λ κs a r r' s s' p q. same_outcome r r' (both p q);
      steps_judge_packet = λ κs a r r' s s' p q.
          let same = both p.0.core q.0.core in (
            both p.0.next q.0.next,
            places_5 (latest_alike _ _ _ _ _ same p.1.0 q.1.0) (told_alike _ _ _ _ same p.1.1 q.1.1) (both p.0.counters q.0.counters)
                (both p.0.memory q.0.memory) (both p.0.laid q.0.laid),
          );
      engine_opened_at = λ κs a r r' s s' p q. both p q;
      engine_open_at = λ κs a r r' s s' p q. (both p.0 q.0, both p.1 q.1);
      engine_packet_in = λ κs a r r' s s' p q. (
        both p.0 q.0,
        places_5 (both p.1 q.1) (both p.2 q.2) (both p.3 q.3) (both p.4 q.4) (both p.5.laid q.5.laid),
      );
      engine_clock_in = λ κs a r r' s s' p q. (both p.0 q.0, places_3 (both p.1 q.1) (both p.2 q.2) (both p.3.laid q.3.laid));
      engine_packet_at = λ κs a r r' s s' p q.
          (both p.0 q.0, places_3 (both p.1 q.1) (both p.2 q.2) (both p.3.laid q.3.laid));
      engine_clock_at = λ κs a r r' s s' p q. (both p.0 q.0, both p.1.laid q.1.laid);
      records_event_at = λ κs a r r' s s' p q. both p q;
      records_hand_over = λ κs a r r' s s' p q. (both p.0 q.0, both p.1 q.1);
      arrays_state_in = λ κs a r r' s s' p q. both p q;
      arrays_entry_at = λ κs a r r' s s' p q. both p q;
      arrays_entries_in = λ κs a r r' s s' p q. both p q;
      arrays_halves_in = λ κs a r r' s s' p q. both p q;
      arrays_lay_halves = λ κs a r r' s s' p q. (refl, both p.0 q.0);
      arrays_sync_lost = λ κs a r r' s s' p q. both p q;
      arrays_sync_run = λ κs a r r' s s' p q. both p q;
      arrays_count_in = λ κs a r r' s s' p q. both p q;
      arrays_gaps_of = λ κs a r r' s s' p q. both p q;
      arrays_halves_of = λ κs a r r' s s' p q. both p q;
      arrays_half_in = λ κs a r r' s s' p q. both p q;
      arrays_place_in = λ κs a r r' s s' p q. both (p []) (q []);
      arrays_set_sync = λ κs a r r' s s' p q. (refl, told_alike [] _ [] _ (both (p.0 []) (q.0 [])) p.1 q.1);
      arrays_set_half = λ κs a r r' s s' p q. (refl, sync_alike _ [] _ [] _ (both (p.0 []) (q.0 [])) p.1 q.1);
      arrays_drop_all = λ κs a r r' s s' p q. (refl, sync_alike _ [] _ [] _ (both (p.0 []) (q.0 [])) p.1 q.1);
      arrays_end_gap = λ κs a r r' s s' p q. (refl, latest_alike _ _ [] _ [] (both (p.0 []) (q.0 [])) p.1 q.1);
      arrays_end_pair = λ κs a r r' s s' p q. (refl, latest_alike _ _ _ _ _ (both p.0 q.0) p.1 q.1);
      arrays_lay_list = λ κs a r r' s s' p q.
          let same = both p.0 q.0 in
          (refl, places_2 (latest_alike _ _ _ _ _ same p.1.times q.1.times) (sync_alike _ _ _ _ _ same p.1.words q.1.words));
      arrays_settle = λ κs a r r' s s' p q. (refl, places_2 (both p.0 q.0) (both p.1 q.1));
      arrays_lay_times = λ κs a r r' s s' p q. (refl, both p q);
      arrays_lay_words = λ κs a r r' s s' p q. (refl, both p q);
      quiet_quiet_packet = λ κs a r r' s s' p q. both p q;
      quiet_quiet_value = λ κs a r r' s s' p q. both p q;
      testdata_row_of = λ κs a r r' s s' p q. both p q;
      testdata_refusal_number = λ κs a r r' s s' p q. both p q;
      textlog_next_line = λ κs a r r' s s' p q. both p q;
      lines_line_start = λ κs a r r' s s' p q. both p q;
      lines_line_length = λ κs a r r' s s' p q. both p q;
      lines_scan_bytes = λ κs a r r' s s' p q. (both p.0 q.0, both p.1 q.1);
      lines_line_kind = λ κs a r r' s s' p q. (both p.0 q.0, both p.1 q.1);
      columns_put_rows = λ κs a r r' s s' p q. (both p.0.place q.0.place, both p.0.bytes q.0.bytes);
      columns_put_refused = λ κs a r r' s s' p q. (both p.0.place q.0.place, both p.0.bytes q.0.bytes);
      columns_put_header = λ κs a r r' s s' p q. (both p.place q.place, both p.bytes q.bytes);
    }
