use Rattle.sections.specs.Building.{following, fed, begun_job}
use Rattle.arrays.specs.Lent.{core_in}
use Rattle.payloads.specs.inner.Taking.{held}
use Rattle.payloads.specs.inner.Parts.{came_to}
use mathlib.Core.Path.{◌≡◌}
use mathlib.Core.List.{List}
use Prim.Native.Nat.{ℕ, ◌+◌, ◌-◌, ◌*◌, ◌≤◌}
use lib.ListN.{length, drop}
use Rattle.calls.specs.Steps.{Absorbed}
use Rattle.arrays.specs.inner.Kept.{Moved}
use Rattle.payloads.specs.inner.Parts.{Fit}
use Rattle.payloads.proofs.Sections.{Reached}
use Rattle.payloads.proofs.follow.Given as goal

-- where the loop has come
pub record Going (t r pid : ℕ) (a : Absorbed) (n₀ : ℕ) (list₀ s times₀ words₀ times words m list : List ℕ) (n at : ℕ) : Type 0 where
  pub inside : at ≤ length s
  pub moved : Moved times₀ words₀ times words
  pub fit : Fit (core_in times words) m list
  pub few : 3 * n ≤ 3 * n₀ + at
  pub same : length list ≡ length list₀
  pub reached : Reached t r pid a n₀ list₀ (begun_job m 0) (drop at s) (core_in times words) n list

abbrev pub invariant-loop-at : goal.invariant-loop-at
invariant-loop-at l =
    Going l.a.time l.a.room l.a.pid (came_to l.a.time l.a.room l.a.pid (fed following l.a.room (begun_job l.initial.memory 0) l.s) (held (core_in l.initial.times l.initial.words) l.initial.memory)) l.n0 l.initial.numbers l.s l.initial.times l.initial.words l.times l.words l.memory l.numbers l.n l.at

abbrev pub decreases-loop-at : goal.decreases-loop-at
decreases-loop-at l = length l.s - l.at
