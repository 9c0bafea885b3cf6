-- A write that failed appended nothing.
use Rattle.std.specs.Io.KnownBytes.{Keeps}
use Rattle.steady.proofs.write_some.Given as goal

abbrev pub invariant-loop : goal.invariant-loop
invariant-loop g l = Keeps (g.W.Write.contents l.initial.writer) (g.W.Write.contents l.writer)
