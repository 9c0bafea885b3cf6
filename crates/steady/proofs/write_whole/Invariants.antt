-- Where the rest is appended to what is there, all the bytes are.
use Rattle.std.specs.Prelude.{length, Option, List, ℕ}
use Rattle.std.specs.Io.KnownBytes.{Appends}
use Rattle.steady.proofs.write_whole.Given as goal

abbrev pub invariant-loop-rest : goal.invariant-loop-rest
invariant-loop-rest g l = (after : Option (List ℕ)) → Appends (g.W.Write.contents l.writer) after l.rest → Appends (g.W.Write.contents l.initial.writer) after l.initial.rest

abbrev pub decreases-loop-rest : goal.decreases-loop-rest
decreases-loop-rest g l = length l.rest
