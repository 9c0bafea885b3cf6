use mathlib.Core.Path.{◌≡◌}
use Rattle.lists.specs.Places.{front}
use Rattle.calls.specs.Steps.{touched}
use Rattle.arrays.specs.Lent.{gaps_in, entries_in}
use Rattle.arrays.specs.inner.Kept.{LatestKept}
use Rattle.arrays.proofs.moves.end_pair.Given as goal

abbrev pub invariant-loop-i : goal.invariant-loop-i
invariant-loop-i l =
    LatestKept l.initial.times l.times
    × (gaps_in l.times ≡ gaps_in l.initial.times)
    × (entries_in l.times l.words ≡ front (touched l.number l.pid l.time) l.i (entries_in l.initial.times l.words))
