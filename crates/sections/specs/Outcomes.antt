-- What a finished section gives: document 01, "Building sections" ("A finished section gives at most one event, the first that holds"), and
-- what good means.
--
--   crc_judged s        == CRC_32 is judged where the indicator is 1, or table_id is 0x73
--   crc_wrong s         == and it is wrong
--   right_id r          == the table_id of the room r: that of its fixed table, or 0x02
--   is_pmt_room r        == the room r is one of a listed PMT PID
--   good_numbers r id second n sixth == right table_id, indicator 1, current_next_indicator 1; for the TDT, indicator 0 and section_length 5
--   is_good r s         == so the section s
--   whole_outcome r pid s == the outcome of a whole section
--   outcome_of r pid f  == the outcome of a finished section of the room r on a PID
--   events_of t o       == the event of an outcome at the time t, if it has one
use Rattle.std.specs.Prelude.{ℕ, Bool, cond, not, ◌&&◌, ◌||◌, List, [], ◌∷◌, leb, eqb, length, get_or}
use Rattle.crc.specs.Crc.{crc_of}
use Rattle.events.specs.declared.Event.{Event}
use Rattle.events.specs.Faults.{pat_error, pmt_error, crc_error, no_cause, wrong_table, bad}
use Rattle.events.specs.Events.{event_at}
use Rattle.watches.specs.Tables.{fixed_tables, table_of}
use Rattle.sections.specs.declared.Outcome.{Outcome}
use Rattle.sections.specs.declared.Outcome.TheVariants.{Unfinished, Good, Fault, Silent}
use Rattle.sections.specs.Rooms.{pat_room, tdt_room}
use Rattle.sections.specs.Section.{table_id, indicator_in, syntax_indicator, section_length, extension_of, current_in}
use Rattle.sections.specs.Building.{Finished, bad_length, whole}

abbrev pub crc_judged : List ℕ → Bool
crc_judged s = syntax_indicator s || eqb (table_id s) 0x73

unfoldable pub crc_wrong : List ℕ → Bool
crc_wrong s = crc_judged s && not (eqb (crc_of s) 0)

abbrev pub right_id : ℕ → ℕ
right_id r = (table_of r).id

abbrev pub is_pmt_room : ℕ → Bool
is_pmt_room r = leb (length fixed_tables) r

abbrev pub good_numbers : ℕ → ℕ → ℕ → ℕ → ℕ → Bool
good_numbers r id second n sixth =
    eqb id (right_id r) && cond (eqb r tdt_room) (not (indicator_in second) && eqb n 5) (indicator_in second && current_in sixth)

abbrev pub is_good : ℕ → List ℕ → Bool
is_good r s = good_numbers r (table_id s) (get_or s 1 0) (section_length s) (get_or s 5 0)

unfoldable pub whole_outcome : ℕ → ℕ → List ℕ → Outcome
whole_outcome r pid s =
    cond (crc_wrong s) (Fault crc_error no_cause pid)
    (cond (eqb r pat_room && not (eqb (table_id s) (right_id r))) (Fault pat_error wrong_table pid)
    (cond (is_pmt_room r && not (eqb (table_id s) (right_id r))) (Fault pmt_error wrong_table pid)
    (cond (is_good r s) (Good (extension_of s)) Silent)))

abbrev pub outcome_of : ℕ → ℕ → Finished → Outcome
outcome_of r pid bad_length = Fault crc_error bad pid
outcome_of r pid (whole s) = whole_outcome r pid s

abbrev pub events_of : ℕ → Outcome → List Event
events_of t Unfinished = []
events_of t (Good extension) = []
events_of t (Fault f c i) = event_at t f c i ∷ []
events_of t Silent = []
