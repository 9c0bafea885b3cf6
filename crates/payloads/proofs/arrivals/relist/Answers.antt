-- `payloads::arrivals/relist` meets its contract. Assumes nothing.
use mathlib.Core.Path.{◌≡◌, ap, ap₂, ◌∙◌}
use mathlib.Core.List.{List}
use Prim.Native.Nat.{ℕ}
use lib.ListN.{take}
use Rattle.lists.specs.Places.{part}
use Rattle.watches.specs.declared.Entry.{Entry}
use Rattle.sections.specs.Rooms.{pat_room, half_built}
use Rattle.programmes.specs.declared.Listed.{Listed}
use Rattle.programmes.specs.Listing.{list_of}
use Rattle.programmes.specs.Places.{moved_halves, moved_bytes}
use Rattle.calls.specs.declared.Core.{Core}
use Rattle.calls.specs.Cores.{listed, with_half, with_list}
use Rattle.calls.specs.Steps.{arrived_table, new_list, listed_by}
use Rattle.arrays.specs.Lent.{core_in}
use Rattle.payloads.proofs.arrivals.relist.Goals as goal

pub returns-clause-words_after : goal.returns-clause-words_after
unfolding part
returns-clause-words_after c =
    let a = c.args in
    let times = a.times.now in
    let core = core_in times a.words.now in
    let l = c.read_list-count.result in
    let old = take c.count_in.result c.entries_in-entries.result in
    let eo : old ≡ listed core = ap₂ (λ (n : ℕ) (es : List Entry). take n es) c.count_in.ensures c.entries_in-entries.ensures in
    let s = half_built a.memory.now pat_room a.size in
    let el : l ≡ new_list a.time s core = c.read_list-count.ensures.0 ∙ ap (λ (o : List Entry). list_of a.time o s) eo in
    let keep = c.keep_sections.ensures in
    let moved : Listed → List Entry → Core = λ k o. with_list k.count k.entries (arrived_table a.time pat_room (with_half (moved_halves o (listed_by k) core.half) core)) in (
      c.lay_list.ensures.0 ∙ ap (with_list l.count l.entries) (c.end_gap.ensures.0 _ ∙ ap (arrived_table a.time pat_room) (keep.0 times)) ∙ ap₂ moved el eo,
      keep.1 ∙ ap₂ (λ (k : Listed) (o : List Entry). moved_bytes o (listed_by k) core.half a.memory.now) el eo,
      ap (λ (k : Listed). k.bad) el,
    )
