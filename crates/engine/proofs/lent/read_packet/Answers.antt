-- `engine::lent/read_packet` meets its contract. Assumes nothing.
use native.Mathlib.Omega.{arith}
use mathlib.Core.Path.{sym, ap}
use lib.ListN.{get_or}
use Rattle.header.specs.declared.Header.{Header}
use Rattle.header.specs.Header.{header_of}
use Rattle.checks.proofs.Ladders.{sizes_right_lem}
use Rattle.engine.proofs.lent.read_packet.Goals as goal

pub read-h-requires : goal.read-h-requires
read-h-requires c =
    let right = sizes_right_lem c.args.time c.args.packet.now c.args.counters.now c.args.capacity (sym c.in_ok-check_sizes.ensures) in
    right.packet

pub bounds-counters-h : goal.bounds-counters-h
bounds-counters-h c =
    let right = sizes_right_lem c.args.time c.args.packet.now c.args.counters.now c.args.capacity (sym c.in_ok-check_sizes.ensures) in
    omega (arith, c.read-h.ensures.1, right.table)

pub returns : goal.returns
unfolding header_of
returns c =
    let counters = c.args.counters.now in
    let right = sizes_right_lem c.args.time c.args.packet.now counters c.args.capacity (sym c.in_ok-check_sizes.ensures) in
    let read = c.read-h in
    (right, record { header = read.ensures.0; byte = ap (λ (h : Header). get_or counters h.pid 0) read.ensures.0 }, read.ensures.1)
