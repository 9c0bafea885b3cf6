-- `checks::rooms_sound` meets its contract. Assumes nothing.
use mathlib.Core.Path.{◌≡◌, sym, ap, ◌∙◌}
use Prim.Native.Nat.{ℕ, ◌-◌}
use native.Mathlib.Omega.{arith}
use native.Mathlib.Nat.{zero-add}
use lib.ListN.{length, get_or, take}
use lib.Seq.{get_or-take, length-take-le}
use borrow.Author.Tests.{tests}
use Rattle.std.proofs.Common.{rules}
use Rattle.std.proofs.lemmas.Iterator.{YieldsList-from_slice}
use Rattle.std.proofs.lemmas.Iterator.Consumers.{YieldsList-from_enumerate}
use Rattle.std.proofs.lemmas.Iterator.Search.{all_from_yields_List}
use Rattle.sections.specs.Rooms.{greatest_length, half_built}
use Rattle.sections.specs.Section.{stage_of, is_more}
use Rattle.calls.specs.Sound.{rooms_from}
use Rattle.checks.proofs.Rooms.{none_rooms}
use Rattle.checks.proofs.Turns.{rooms_all, rooms_front}
use Rattle.checks.proofs.rooms_sound.Goals as goal

pub returns-then-none_half : goal.returns-then-none_half
returns-then-none_half c = c.if-none_half.true ∙ sym (none_rooms _ c.args.memory.now (sym c.none_half.ensures ∙ c.if-none_half.true))

pub returns-else-none_half : goal.returns-else-none_half
returns-else-none_half c =
    let ns = c.args.half.now in
    let m = c.args.memory.now in
    let top = c.rooms_used.result in
    let most = c.rooms_used.ensures.0 in
    let us = take top ns in
    let few : length us ≡ top = length-take-le top ns (omega (arith, most)) in
    all_from_yields_List (λ (p : ℕ × ℕ). is_more (stage_of (greatest_length p.0) (half_built m p.0 p.1))) _ _ _ c.all.ensures.ran
    (YieldsList-from_enumerate (YieldsList-from_slice us cc) cc) (λ x b q k. search (rules, tests))
    ∙ rooms_all ns m us 0 (λ k l. get_or-take top ns k 0 (omega (arith, few)) ∙ ap (λ (j : ℕ). get_or ns j 0) (sym (zero-add k)))
    ∙ ap (rooms_from ns m 0) few
    ∙ sym (rooms_front ns m 0 top (21 - top) 21 (omega (arith, most)) (ap (λ (r : ℕ). rooms_from ns m r (21 - top)) (zero-add top) ∙ c.rooms_used.ensures.1 m))
