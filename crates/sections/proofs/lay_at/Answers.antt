-- `sections::lay_at` meets its contract. Assumes nothing.
use mathlib.Core.Path.{◌≡◌, sym, ap, ◌∙◌}
use mathlib.Core.Bool.{true, false}
use mathlib.Core.List.{List, ◌++◌}
use Prim.Native.Nat.{ℕ, ◌+◌, ◌≤◌}
use native.Mathlib.Nat.{add_assoc}
use native.Mathlib.Omega.{arith}
use lib.ListN.{length, take, drop, length-drop}
use lib.Seq.{sets, length-take-le, length-sets, take-length}
use Rattle.lists.specs.Places.{part}
use Rattle.lists.proofs.Places.{part_length, part_lent, part_sets}
use Rattle.lists.proofs.Laying.{sets_on}
use Rattle.lists.proofs.Turns.{rest_all}
use Rattle.sections.specs.Section.{stage_of, is_more}
use Rattle.sections.proofs.Cuts.{laid_few, laid_third, laid_beyond}
use Rattle.sections.proofs.Stages.{half_short}
use Rattle.sections.proofs.lay_at.Goals as goal

-- the section with k bytes more
grown : (m : List ℕ) (base n k : ℕ) (s : List ℕ) → k ≤ length s → base + n + k ≤ length m
    → part (sets m (base + n) (take k s)) base (n + k) ≡ part m base n ++ take k s
grown m base n k s l h =
    let e = length-take-le k s l in
    ap (λ z. part (sets m (base + n) (take k s)) base (n + z)) (sym e) ∙ part_sets m base n (take k s) (rw e h)

pub returns-then-s-head : goal.returns-then-s-head
returns-then-s-head c =
    let args = c.args in
    let m = args.mem.now in
    let l = part_length m args.base args.half (omega arith) in (
      laid_few args.top (part m args.base args.half) args.s.now args.half (omega (arith, l)),
      c.copy.ensures ∙ ap (sets m (args.base + args.half)) (sym (take-length args.s.now)),
      omega arith,
    )

pub returns-then-not-is_more : goal.returns-then-not-is_more
returns-then-not-is_more c =
    let args = c.args in
    let to-third = c.saturating_sub-head in
    let copy2 = c.copy-2 in
    let stage-of = c.stage_of-stage in
    let pre = c.requires in
    let m = args.mem.now in
    let h = part m args.base args.half in
    let l = part_length m args.base args.half (omega arith) in
    let w = grown m args.base args.half to-third.result args.s.now (omega arith) (omega arith) in
    let g = rw (part_lent _ _ _, copy2.ensures, w) at stage-of.ensures in
    let e : is_more stage-of.result ≡ false = sym c.is_more.ensures ∙ c.if-not-is_more.true in (
      rw g (laid_third args.top h args.s.now to-third.result (omega arith) (omega (arith, l)) args.half pre.half_value (rw g at e)),
      copy2.ensures,
      omega arith,
    )

pub lay_known-l-requires-clause-mem_len : goal.lay_known-l-requires-clause-mem_len
lay_known-l-requires-clause-mem_len c =
    let args = c.args in
    let m = args.mem.now in
    let head = c.saturating_sub-head.result in
    let more = rw (part_lent _ _ _) at (ap is_more (sym c.stage_of-stage.ensures) ∙ sym c.is_more.ensures ∙ c.if-not-is_more.false) in
    let long = ap length c.copy-2.ensures ∙ length-sets m (args.base + args.half) (take head args.s.now) in
    (c.requires.mem_len.0, omega arith, half_short c.copy-2.new.dst args.base args.top (args.half + head) (omega (arith, long)) more)

pub lay_known-l-requires-clause-n_value : goal.lay_known-l-requires-clause-n_value
lay_known-l-requires-clause-n_value c = rw (part_lent _ _ _) at (ap is_more (sym c.stage_of-stage.ensures) ∙ sym c.is_more.ensures ∙ c.if-not-is_more.false)

pub returns : goal.returns
returns c =
    let args = c.args in
    let pre = c.requires in
    let head = c.saturating_sub-head in
    let copy2 = c.copy-2 in
    let l = c.lay_known-l in
    let m = args.mem.now in
    let s = args.s.now in
    let k = head.result in
    let h = part m args.base args.half in
    let in_s : k ≤ length s = c.if-s-head.false in
    let fits : args.base + args.half + k ≤ length m = omega (arith, pre.mem_len.0, pre.mem_len.1, head.ensures) in
    let long = part_length m args.base args.half (omega (arith, fits)) in
    let w = grown m args.base args.half k s in_s fits in
    let more : is_more (stage_of args.top (h ++ take k s)) ≡ true = rw (part_lent _ _ _, copy2.ensures, w) at (ap is_more (sym c.stage_of-stage.ensures) ∙ sym c.is_more.ensures ∙ c.if-not-is_more.false) in
    let laid = rw (copy2.ensures, w, rest_all s k) at l.ensures.0 in
    let bytes = rw (copy2.ensures, rest_all s k) at l.ensures.1 in (
      laid_beyond args.top h s k in_s (omega (arith, long, head.ensures)) args.half l.result more laid,
      bytes ∙ ap (λ i. sets (sets m (args.base + args.half) (take k s)) i (take l.result.taken (drop k s))) (sym (add_assoc args.base args.half k))
          ∙ sets_on m (args.base + args.half) k l.result.taken s in_s,
      omega (arith, in_s, rw (rest_all s k) at l.ensures.2, length-drop k s),
    )
