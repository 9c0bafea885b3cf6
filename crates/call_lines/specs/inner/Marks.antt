-- What the records of an event list hold before a call, so that a record written shows.
--
--   marked == such a record
use Rattle.events.specs.declared.Event.{Event}

abbrev pub marked : Event
marked = record { stamp = 7; fault = 7; cause = 7; id = 7 }
