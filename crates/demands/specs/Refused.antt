-- Refused calls of a log: demand 1 of the request ("It hands back the state it was given, reports no event and writes nothing into lent
-- memory").
--
--   Refused g a      == the call a, given g, answers another number than 0
--   HandedBack g a   == the call after it is given what it was given: state, section memory and the log's own counter table; the counter table
--                       that it was lent is as it was; it has no event; its answer is its number, n = 0 and the given state; and a lent
--                       event list is as it was
--   after_calls g log == what the call after a log is given
--   event_log g log   == the events of a log's calls, one after the other
use Rattle.std.specs.Prelude.{◌≡◌}
use mathlib.Core.List.{List, [], ◌∷◌, flatten}
use Rattle.events.specs.declared.Event.{Event}
use Rattle.calls.specs.Calls.{answer_of, handed_over}
use Rattle.demands.specs.Runs.{Given, Asked, lent_table, call_of, table_after, after_call, IsAccepted, along}

abbrev pub Refused : Given → Asked → Type 0
Refused g a = IsAccepted g a → ⊥

pub record HandedBack (g : Given) (a : Asked) : Type 0 where
  pub given : after_call g a ≡ g
  pub table : table_after g a ≡ lent_table a.table g.counters
  pub silent : (call_of g a).events ≡ []
  pub answer : answer_of (call_of g a) ≡ record { refusal = (call_of g a).refusal; n = 0; state = g.state }
  pub list : (old : List Event) → handed_over (call_of g a).events old ≡ old

abbrev pub after_calls : Given → List Asked → Given
after_calls g [] = g
after_calls g (a ∷ log) = after_calls (after_call g a) log

abbrev pub event_log : Given → List Asked → List Event
event_log g log = flatten (along (λ k a. (call_of k a).events) g log)
