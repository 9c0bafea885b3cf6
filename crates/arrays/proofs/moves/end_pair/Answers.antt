-- `arrays::moves/end_pair` meets its contract. Assumes nothing.
use native.Mathlib.Omega.{arith}
use mathlib.Core.Path.{sym, ap, ◌∙◌}
use mathlib.Core.List.{[], ◌∷◌}
use Prim.Native.Nat.{ℕ, ◌+◌, ◌<◌}
use lib.ListN.{get_or, set}
use Rattle.lists.proofs.Places.{front_turn, part_sets_behind}
use Rattle.watches.specs.Tables.{no_entry, fixed_count}
use Rattle.programmes.specs.Listing.{most_listed}
use Rattle.calls.specs.Steps.{touched}
use Rattle.arrays.specs.Lent.{entries_in, gaps_at, sinces_at, pids_at, numbers_at}
use Rattle.arrays.proofs.Stores.{entry_at, entries_length, since_laid_at}
use Rattle.arrays.proofs.Kept.{latest_then, latest_kept}
use Rattle.arrays.proofs.moves.end_pair.Goals as goal

pub loop-i-preserved : goal.loop-i-preserved
loop-i-preserved c =
    let loop = c.loop-i in
    let start = c in
    let words = start.args.words.now in
    let times = loop.times in
    let f = touched start.args.number start.args.pid start.args.time in
    let b : loop.i < most_listed = omega (arith, c.count_in-i-end.ensures) in (
      latest_then loop.invariant.0 (latest_kept times (sinces_at + loop.i) (c.since_after.result ∷ []) loop.invariant.0.long (omega arith)),
      part_sets_behind times gaps_at fixed_count (sinces_at + loop.i) (c.since_after.result ∷ []) (omega arith) ∙ loop.invariant.1,
      since_laid_at times words loop.i c.since_after.result b (omega arith)
          ∙ ap (λ (s : ℕ). set (entries_in times words) loop.i (record { number = get_or words (numbers_at + loop.i) 0; pid = get_or words (pids_at + loop.i) 0; since = s })) (c.since_after.ensures ∙ ap (λ e. (f e).since) c.entry_at-e.ensures)
          ∙ ap (λ e. set (entries_in times words) loop.i (f e)) (sym (entry_at times words loop.i b))
          ∙ ap (λ l. set l loop.i (f (get_or l loop.i no_entry))) loop.invariant.2
          ∙ front_turn f loop.i (entries_in start.args.times.now words) no_entry (omega (arith, entries_length start.args.times.now words)),
    )
