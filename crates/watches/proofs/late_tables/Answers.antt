-- `watches::late_tables` meets its contract. Assumes nothing.
use mathlib.Core.Path.{◌≡◌, refl, sym}
use native.Mathlib.Omega.{arith}
use lib.ListN.{take}
use lib.Seq.{take_all}
use Rattle.lists.proofs.Laying.{laid_none, laid_turn}
use Rattle.events.specs.Capacity.{record_width}
use Rattle.events.specs.Events.{numbers_of}
use Rattle.watches.specs.Tables.{fixed_tables, pmt_table}
use Rattle.watches.specs.Late.{table_row, table_rows}
use Rattle.watches.proofs.Late.{limits_few, limits_times, rows_none, rows_turn, table_at, tables_length, tables_most}
use Rattle.watches.proofs.late_tables.Goals as goal

pub loop-k-init : goal.loop-k-init
loop-k-init c = rw (rows_none _ _) (omega arith, sym (laid_none _ _ _ _))

pub late_row-m-requires : goal.late_row-m-requires
late_row-m-requires c =
    let start = c in
    let loop = c.loop-k in
    rw c.table_of-table.ensures (
      omega (arith, limits_few loop.k, tables_most start.args.p start.args.t loop.k start.args.since.now),
      omega arith,
      start.requires.3 loop.k,
      limits_times loop.k,
    )

pub loop-k-preserved : goal.loop-k-preserved
loop-k-preserved c =
    let a = c.args in
    let loop = c.loop-k in
    let since = a.since.now in
    let e = rw c.table_of-table.ensures at c.late_row-m.ensures in
    rw (
      rows_turn a.p a.t loop.k (table_rows fixed_tables since) (table_row pmt_table 0) (omega (arith, tables_length fixed_tables since (omega arith))),
      table_at loop.k fixed_tables since pmt_table 0 (table_row pmt_table 0) (omega arith) (omega arith),
    ) (laid_turn numbers_of record_width (λ e. refl) _ _ _ _ _ _ _ _ loop.invariant.0 loop.invariant.1 e.0 e.1)

pub returns : goal.returns
returns c =
    let rows = table_rows fixed_tables c.args.since.now in
    let whole : take c.loop-k.k rows ≡ rows =
    take_all c.loop-k.k rows (omega (arith, tables_length fixed_tables c.args.since.now (omega arith))) in
    rw whole at c.loop-k.invariant
