-- `payloads::arrivals/act` meets its contract. Assumes nothing.
use mathlib.Core.Path.{◌≡◌, refl, sym, ap, ◌∙◌}
use mathlib.Core.Logic.{◌⊎◌, inl, inr}
use mathlib.Core.List.{List, []}
use Prim.Native.Nat.{ℕ}
use native.Mathlib.Nat.{add-zero}
use Rattle.lists.proofs.Laying.{laid_none}
use Rattle.events.specs.Events.{numbers_of}
use Rattle.events.specs.Capacity.{record_width}
use Rattle.sections.specs.declared.Outcome.{Outcome}
use Rattle.sections.specs.declared.Outcome.TheVariants.{Unfinished, Silent}
use Rattle.sections.specs.Rooms.{half_built}
use Rattle.calls.specs.Cores.{Held}
use Rattle.calls.specs.Steps.{arrival, absorbed_by}
use Rattle.payloads.specs.inner.Taking.{held}
use Rattle.arrays.specs.Lent.{core_in}
use Rattle.payloads.proofs.arrivals.act.Goals as goal

-- an outcome that says nothing leaves all as it is
silent : (t r pid : ℕ) (x : List ℕ) (h : Held) (o : Outcome) → (o ≡ Unfinished) ⊎ (o ≡ Silent) → absorbed_by o (arrival t r pid) x h ≡ record { held = h; events = [] }
silent t r pid x h o (inl e) = ap (λ z. absorbed_by z (arrival t r pid) x h) e
silent t r pid x h o (inr e) = ap (λ z. absorbed_by z (arrival t r pid) x h) e

pub returns-in-Unfinished-clause-shown : goal.returns-in-Unfinished-clause-shown
returns-in-Unfinished-clause-shown c =
    let args = c.args in
    let a = args.a in
    let h = held (core_in args.times.now args.words.now) args.memory.now in
    let x = half_built args.memory.now a.room args.size in
    let e = ap (λ o. absorbed_by o (arrival a.time a.room a.pid) x h) (sym c.outcome_in.ensures) ∙ silent a.time a.room a.pid x h c.outcome_in.result c.in-Unfinished.is in
    rw e (record { core = refl; memory = refl; next = sym (add-zero args.n); laid = sym (laid_none numbers_of record_width args.numbers.now args.n) })
