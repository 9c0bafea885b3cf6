-- The calls as a host makes them: document 01, "The calls and their numbers", with the state lent as two arrays.
--
--   reply_of a        == what a host is told of a call: refusal number, number of events
--   times_after, words_after == the two arrays after a call: those of its state; on a refusal as they were
use Rattle.std.specs.Prelude.{ℕ, cond, List, eqb}
use Rattle.calls.specs.declared.Answer.{Answer}
use Rattle.arrays.specs.Lent.{times_of, words_of}
use Rattle.arrays.specs.declared.Reply.{Reply}

abbrev pub reply_of : Answer → Reply
reply_of a = record { refusal = a.refusal; n = a.n }

unfoldable pub times_after : Answer → List ℕ → List ℕ
times_after a times = cond (eqb a.refusal 0) (times_of a.state) times

unfoldable pub words_after : Answer → List ℕ → List ℕ
words_after a words = cond (eqb a.refusal 0) (words_of a.state) words
