-- The calls as a host makes them: document 01, "The calls and their numbers", with the state lent as two arrays (crate arrays). A refusal writes no
-- lent memory, and so the arrays stay as they were, at a refused opening too (docs/DECISIONS.md, F10).
--
--   OpenReplied t counters r .. == an opening at t is what was done: r is its reply, and arrays and counter table are left as it says
--   PacketReplied x r .. == the result x of a packet call is what was done: r is its reply, and arrays, counter table, section memory, numbers and list
--                        are left as it says; of arrays, numbers and list first as they were, then as they are. The numbers hold the call's events,
--                        laid from the first place on, the others as they were
--   ClockReplied x r ..  == the same of a clock call, which writes neither table nor section memory
use Rattle.std.specs.Prelude.{ℕ, ◌≡◌, List}
use Rattle.events.specs.declared.Event.{Event}
use Rattle.events.specs.Events.{events_laid}
use Rattle.calls.specs.Calls.{Result, open_answer, open_table, answer_of, handed_over}
use Rattle.arrays.specs.declared.Reply.{Reply}
use Rattle.arrays.specs.Replies.{reply_of, times_after, words_after}

-- WHAT A CALL HAS DONE
abbrev pub OpenReplied : ℕ → List ℕ → Reply → (times timesLeft words wordsLeft countersLeft : List ℕ) → Type 0
OpenReplied t counters r times timesLeft words wordsLeft countersLeft =
    (r ≡ reply_of (open_answer t counters))
    × (timesLeft ≡ times_after (open_answer t counters) times)
    × (wordsLeft ≡ words_after (open_answer t counters) words)
    × (countersLeft ≡ open_table t counters)

abbrev pub PacketReplied : Result → Reply → (times timesLeft words wordsLeft counters memory numbers numbersLeft : List ℕ) (old events : List Event) → Type 0
PacketReplied x r times timesLeft words wordsLeft counters memory numbers numbersLeft old events =
    (r ≡ reply_of (answer_of x))
    × (timesLeft ≡ times_after (answer_of x) times)
    × (wordsLeft ≡ words_after (answer_of x) words)
    × (counters ≡ x.counters)
    × (memory ≡ x.memory)
    × (numbersLeft ≡ events_laid numbers 0 x.events)
    × (events ≡ handed_over x.events old)

abbrev pub ClockReplied : Result → Reply → (times timesLeft words wordsLeft numbers numbersLeft : List ℕ) (old events : List Event) → Type 0
ClockReplied x r times timesLeft words wordsLeft numbers numbersLeft old events =
    (r ≡ reply_of (answer_of x))
    × (timesLeft ≡ times_after (answer_of x) times)
    × (wordsLeft ≡ words_after (answer_of x) words)
    × (numbersLeft ≡ events_laid numbers 0 x.events)
    × (events ≡ handed_over x.events old)
