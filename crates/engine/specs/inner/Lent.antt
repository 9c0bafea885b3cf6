-- A call on the state that two arrays hold (crate arrays), its events laid as numbers: document 01, "The calls and their numbers". A refusal writes no lent
-- memory, and so the arrays stay as they were.
--
--   PacketLaid x r .. == the result x of a packet call is what was done: r is its reply, and arrays, counter table, section memory and numbers are left as it
--                        says; of arrays and numbers first as they were, then as they are
--   ClockLaid x r ..  == the same of a clock call, which writes neither table nor section memory
use Rattle.std.specs.Prelude.{◌≡◌, ℕ, List}
use Rattle.calls.specs.Calls.{Result, answer_of}
use Rattle.arrays.specs.declared.Reply.{Reply}
use Rattle.arrays.specs.Replies.{reply_of, times_after, words_after}
use Rattle.engine.specs.inner.Numbers.{Numbered}

abbrev pub PacketLaid : Result → Reply → (times timesLeft words wordsLeft counters memory before after : List ℕ) → Type 0
PacketLaid x r times timesLeft words wordsLeft counters memory before after =
    (r ≡ reply_of (answer_of x))
    × (timesLeft ≡ times_after (answer_of x) times)
    × (wordsLeft ≡ words_after (answer_of x) words)
    × (counters ≡ x.counters)
    × (memory ≡ x.memory)
    × Numbered before after x.events

abbrev pub ClockLaid : Result → Reply → (times timesLeft words wordsLeft before after : List ℕ) → Type 0
ClockLaid x r times timesLeft words wordsLeft before after =
    (r ≡ reply_of (answer_of x))
    × (timesLeft ≡ times_after (answer_of x) times)
    × (wordsLeft ≡ words_after (answer_of x) words)
    × Numbered before after x.events
