-- `watches::late_row` meets its contract. Assumes nothing.
use mathlib.Core.Path.{◌≡◌, refl, sym, ◌∙◌}
use mathlib.Core.List.{[], ◌∷◌}
use Prim.Native.Nat.{◌+◌}
use native.Mathlib.Omega.{arith}
use mathlib.Core.Bool.{◌&&◌}
use lib.Dec.{leb, ltb}
use lib.ListN.{length, get_or, take, length-take}
use Rattle.lists.proofs.Laying.{laid_none, laid_turn}
use Rattle.events.specs.Capacity.{record_width}
use Rattle.events.specs.Events.{numbers_of, events_laid}
use Rattle.watches.specs.Late.{late_events}
use Rattle.watches.proofs.Late.{late_most, limits_turn, in_range}
use Rattle.watches.proofs.late_row.Goals as goal
use Rattle.watches.proofs.late_row.Goals.{then-contains, else-contains}

pub loop-limit-init : goal.loop-limit-init
loop-limit-init c = (omega arith, sym (laid_none _ _ _ _))

pub put-m-requires : goal.put-m-requires
put-m-requires c =
    let a = c.args in
    let before = take c.loop-limit.limit-index a.limits.now in
    (omega (arith, late_most before a.fault a.id a.p a.t a.since, length-take c.loop-limit.limit-index a.limits.now), omega arith)

pub loop-limit-preserved : goal.loop-limit-preserved
loop-limit-preserved c =
    let a = c.args in
    let loop = c.loop-limit in
    let after = c.if-contains in
    let es = late_events (get_or a.limits.now loop.limit-index 0 ∷ []) a.fault a.id a.p a.t a.since in
    let stamp = a.since + get_or a.limits.now loop.limit-index 0 in
    let falls : c.contains.result ≡ (leb a.p stamp && ltb stamp a.t) = c.contains.ensures.value ∙ in_range a.p stamp a.t in
    let here : (after.m ≡ loop.m + length es) × (after.list ≡ events_laid loop.list loop.m es) =
    elim after.branch [
      | then-contains w ↦ rw (w.m-is, w.list-is, sym falls ∙ w.if-contains.true) w.put-m.ensures
      | else-contains w ↦ rw (w.m-is, w.list-is, sym falls ∙ w.if-contains.false) (omega arith, sym (laid_none _ _ _ _))
    ] in
    let all = laid_turn numbers_of record_width (λ e. refl) _ _ _ _ _ _ _ _ loop.invariant.0 loop.invariant.1 here.0 here.1 in
    rw (limits_turn a.limits.now loop.limit-index a.fault a.id a.p a.t a.since (omega arith)) all
