-- `checks::entries_sound` meets its contract. Assumes nothing.
use native.Mathlib.Omega.{arith}
use mathlib.Core.Path.{◌≡◌, refl, sym, ap, subst, ◌∙◌}
use mathlib.Core.Bool.{true, false, true≢false}
use mathlib.Core.List.{List}
use Prim.Native.Nat.{ℕ, ◌+◌, ◌-◌, ◌%◌, ◌≤◌}
use lib.ListN.{length, get_or, set, take, drop, length-set}
use Rattle.watches.specs.declared.Entry.{Entry}
use Rattle.watches.specs.Tables.{no_entry}
use Rattle.calls.specs.Sound.{number_among, entry_sound, entries_sound}
use Rattle.arrays.specs.Lent.{entries_in}
use Rattle.arrays.proofs.Stores.{entry_at, entries_length}
use Rattle.checks.proofs.Turns.{among_none, entries_here, entries_twice, entries_on, entries_none}
use Rattle.checks.proofs.Marks.{Marked, unmarked_none, marked_turn, unsound_end}
use Rattle.checks.proofs.entries_sound.Goals as goal
use Rattle.checks.proofs.entries_sound.Goals.{else-marks-mark-via-then-marks-mark+else-number_among, else-marks-mark-via-else-marks-mark}

pub loop-i-init : goal.loop-i-init
loop-i-init c =
    let start = c in
    let times = start.args.times.now in
    let words = start.args.words.now in
    let es = entries_in times words in
    let count = start.args.count in
    let fits : count ≤ length es = omega (arith, entries_length times words) in (
      refl,
      λ n e. absurd (true≢false (sym e ∙ among_none es count count fits n (omega arith))),
      entries_none es count count fits (omega arith),
    )

pub returns-then-not-entry_sound : goal.returns-then-not-entry_sound
returns-then-not-entry_sound c =
    let loop = c.loop-i in
    let start = c in
    let times = start.args.times.now in
    let words = start.args.words.now in
    let es = entries_in times words in
    let count = start.args.count in
    let fits : count ≤ length es = omega (arith, entries_length times words) in
    let i = loop.i - 1 in
    let e = c.entry_at-e.result in
    let same : get_or es i no_entry ≡ e = entry_at times words i (omega arith) ∙ sym c.entry_at-e.ensures in
    let here : entry_sound (get_or es i no_entry) ≡ false = rw same (sym c.entry_sound.ensures ∙ c.if-not-entry_sound.true) in
    sym (unsound_end (take count es) i (entries_here es count i fits (omega arith) here))

pub returns-then-number_among : goal.returns-then-number_among
returns-then-number_among c =
    let loop = c.loop-i in
    let start = c in
    let times = start.args.times.now in
    let words = start.args.words.now in
    let es = entries_in times words in
    let count = start.args.count in
    let fits : count ≤ length es = omega (arith, entries_length times words) in
    let i = loop.i - 1 in
    let e = c.entry_at-e.result in
    let same : get_or es i no_entry ≡ e = entry_at times words i (omega arith) ∙ sym c.entry_at-e.ensures in
    let twice : number_among (get_or es i no_entry).number (drop (i + 1) (take count es)) ≡ true = rw same (sym c.number_among.ensures ∙ c.if-number_among.true) in
    sym (unsound_end (take count es) i (entries_twice es count i fits (omega arith) twice))

pub loop-i-preserved : goal.loop-i-preserved
loop-i-preserved c =
    let loop = c.loop-i in
    let start = c in
    let times = start.args.times.now in
    let words = start.args.words.now in
    let es = entries_in times words in
    let count = start.args.count in
    let fits : count ≤ length es = omega (arith, entries_length times words) in
    let i = loop.i - 1 in
    let e = c.entry_at-e.result in
    let same : get_or es i no_entry ≡ e = entry_at times words i (omega arith) ∙ sym c.entry_at-e.ensures in
    let next : loop.i ≡ i + 1 = omega arith in
    let rest : ℕ → List Entry = λ j. drop j (take count es) in
    let marked = subst (λ (j : ℕ). Marked loop.marks (rest j)) next loop.invariant.1 in
    let here : entry_sound (get_or es i no_entry) ≡ true = rw same (sym c.entry_sound.ensures ∙ c.if-not-entry_sound.false) in
    let once : number_among e.number (rest (i + 1)) ≡ false =
    elim c.else-marks-mark.branch [
      | else-marks-mark-via-then-marks-mark+else-number_among w ↦ sym w.number_among.ensures ∙ w.if-number_among.false
      | else-marks-mark-via-else-marks-mark w ↦ unmarked_none loop.marks (rest (i + 1)) e.number marked (rw c.from-mark.ensures at w.if-marks-mark.false)
    ] in (
      length-set loop.marks _ _ ∙ loop.invariant.0,
      rw c.from-mark.ensures (subst (λ (x : Entry). Marked (set loop.marks (x.number % 64) true) (rest i)) same (marked_turn es count i fits loop.marks (omega arith) loop.invariant.0 marked)),
      entries_on es count i fits (omega arith) here (rw same once) ∙ ap (λ (j : ℕ). entries_sound (rest j)) (sym next) ∙ loop.invariant.2,
    )
