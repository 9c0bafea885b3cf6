-- `engine::lent/judge_late` meets its contract. Assumes nothing.
use native.Mathlib.Omega.{arith}
use mathlib.Core.Path.{refl, sym, ap, ◌∙◌}
use lib.ListN.{length, get_or}
use Rattle.lists.proofs.Places.{part_length}
use Rattle.lists.proofs.Laying.{laid_turn}
use Rattle.events.specs.Events.{numbers_of}
use Rattle.events.specs.Capacity.{record_width}
use Rattle.watches.specs.Tables.{fixed_tables, fixed_count}
use Rattle.watches.specs.Late.{table_rows, entry_rows}
use Rattle.watches.proofs.Late.{rows_append, tables_whole, entries_most}
use Rattle.calls.specs.Cores.{late_of}
use Rattle.arrays.specs.Lent.{gaps_in, count_in, entries_in, core_in, latest_at, gaps_at}
use Rattle.arrays.specs.inner.Kept.{listed_in}
use Rattle.engine.proofs.Fits.{late_of_fits}
use Rattle.engine.proofs.lent.judge_late.Goals as goal

pub late_tables-next-requires : goal.late_tables-next-requires
late_tables-next-requires c =
    let start = c in
    let gaps = c.gaps_of.ensures in
    (omega arith, omega arith, ap length gaps ∙ part_length start.args.times.now gaps_at fixed_count (omega arith), rw gaps start.requires.1)

pub late_entries-requires : goal.late_entries-requires
late_entries-requires c =
    let start = c in
    let tables = rw c.gaps_of.ensures at c.late_tables-next.ensures in
    let times = start.args.times.now in
    (omega (arith, tables.0, tables_whole (get_or times latest_at 0) start.args.time (gaps_in times)), start.requires.0, start.requires.2)

pub returns : goal.returns
unfolding late_of
returns c =
    let start = c in
    let tables = rw c.gaps_of.ensures at c.late_tables-next.ensures in
    let entries = c.late_entries.ensures in
    let times = start.args.times.now in
    let words = start.args.words.now in
    let p = get_or times latest_at 0 in
    let t = start.args.time in
    let w = laid_turn numbers_of record_width (λ e. refl) 0 _ _ _ _ _ _ _ tables.0 tables.1 entries.0 entries.1 in
    rw (rows_append p t (table_rows fixed_tables (gaps_in times)) (entry_rows (listed_in times words))) (
      omega (arith, w.0),
      w.1,
      omega (arith, tables.0, entries.0, start.requires.0, tables_whole p t (gaps_in times), entries_most p t (count_in words) (entries_in times words)),
      rw (sym (rows_append p t (table_rows fixed_tables (gaps_in times)) (entry_rows (listed_in times words))))
          (late_of_fits p t (core_in times words) start.requires.1 start.requires.2 entries.2),
    )
