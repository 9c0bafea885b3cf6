-- `engine::lent/late_entries` meets its contract. Assumes nothing.
use native.Mathlib.Omega.{arith}
use mathlib.Core.Path.{◌≡◌, refl, sym, ap, ◌∙◌}
use borrow.Author.Count.{below_more}
use lib.ListN.{length, get_or}
use Rattle.lists.proofs.Laying.{laid_none, laid_length, laid_turn}
use Rattle.events.specs.Events.{numbers_of}
use Rattle.events.specs.Capacity.{record_width}
use Rattle.watches.proofs.Late.{entries_turn, rows_none, entries_most}
use Rattle.arrays.specs.Lent.{count_in, entries_in, latest_at}
use Rattle.arrays.proofs.Stores.{entry_at, entries_length}
use Rattle.engine.proofs.lent.late_entries.Goals as goal

pub loop-k-init : goal.loop-k-init
loop-k-init c = (c.count_in-count.ensures, rw (rows_none _ _) (omega arith), rw (rows_none _ _) (sym (laid_none _ _ _ _)), λ i h. absurd (omega arith))

pub late_entry-m-requires : goal.late_entry-m-requires
late_entry-m-requires c =
    let start = c in
    let loop = c.loop-k in
    let times = start.args.times.now in
    let words = start.args.words.now in
    let same = c.entry_at-e.ensures ∙ sym (entry_at times words loop.k (omega arith)) in (
      omega (arith, entries_most (get_or times latest_at 0) start.args.time loop.k (entries_in times words)),
      omega (arith, ap length loop.invariant.2 ∙ laid_length _ _ _ _ _),
      rw same (start.requires.2 loop.k (omega arith)),
    )

pub loop-k-preserved : goal.loop-k-preserved
loop-k-preserved c =
    let start = c in
    let loop = c.loop-k in
    let times = start.args.times.now in
    let words = start.args.words.now in
    let same = c.entry_at-e.ensures ∙ sym (entry_at times words loop.k (omega arith)) in
    let late = rw same at c.late_entry-m.ensures in
    let w = laid_turn numbers_of record_width (λ e. refl) _ _ _ _ _ _ _ _ loop.invariant.1 loop.invariant.2 late.0 late.1 in
    rw (entries_turn (get_or times latest_at 0) start.args.time loop.k (entries_in times words) (omega (arith, entries_length times words)))
    (loop.invariant.0, w.0, w.1, below_more _ _ loop.invariant.3 late.2)

pub returns : goal.returns
returns c =
    let loop = c.loop-k in
    let all : loop.k ≡ count_in c.args.words.now = omega arith in
    (rw all at loop.invariant.1, rw all at loop.invariant.2, rw all at loop.invariant.3)
