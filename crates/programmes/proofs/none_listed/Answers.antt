-- `programmes::none_listed` meets its contract. Assumes nothing.
use mathlib.Core.Path.{◌≡◌, refl, ap, ◌∙◌}
use mathlib.Core.Bool.{true}
use borrow.Author.Tests.{tests}
use Rattle.std.proofs.Common.{rules}
use Rattle.std.proofs.lemmas.Fn.{fold_over, slice_gives, fronts}
use Rattle.lists.specs.Places.{part}
use Rattle.programmes.specs.inner.Moving.{none_half}
use Rattle.programmes.proofs.Empty.{none_push}
use Rattle.programmes.proofs.none_listed.Goals as goal

pub returns : goal.returns
unfolding none_half part
returns c =
    fold_over fronts (λ y. y.now) _ (λ ns none. none ≡ none_half ns) _ (λ ns a x b f' j k. let push = none_push ns x.now in search (rules, tests)) c.iter.result
    c.iter.result.rest.now true c.fold.result (slice_gives c.iter.result) refl c.fold.ensures.ran
    ∙ ap none_half c.iter.ensures.rest
