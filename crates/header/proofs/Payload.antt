-- The payload lies within the packet, and a packet's numbers are as wide as their bits. Assumes nothing.
use mathlib.Core.Path.{◌≡◌, refl}
use mathlib.Core.Bool.{Bool, true, false, cond, ◌&&◌, ◌||◌}
use mathlib.Core.List.{List}
use Prim.Native.Nat.{ℕ, ◌+◌, ◌≤◌, ◌<◌}
use native.Mathlib.Omega.{arith}
use lib.Dec.{leb, eqb}
use borrow.Author.Tests.{leb-true, eqb-true}
use Rattle.lists.proofs.Tests.{cond_either}
use Rattle.header.specs.Header.{packet_size, right_length, payload_place, payload_at, control_of, adaptation_length, counter_of}

pub payload_within : (p : List ℕ) → payload_at p ≤ packet_size
payload_within p = go (control_of p) (adaptation_length p)
  where
    within : (n : ℕ) (b : Bool) → leb n 182 ≡ b → cond b (5 + n) packet_size ≤ packet_size
    within n true e =
        let h = leb-true n 182 e in omega arith
    within n false e = omega arith

    place : (c n : ℕ) (one two three small : Bool) → eqb c 2 ≡ two → eqb c 3 ≡ three → leb n 182 ≡ small
        → cond (one || (three && cond two (eqb n 183) (cond three small true))) (cond one 4 (5 + n)) packet_size ≤ packet_size
    place c n true two three small e f g = omega arith
    place c n false two false small e f g = omega arith
    place c n false true true small e f g =
        let a = eqb-true c 2 e in
        let b = eqb-true c 3 f in
        absurd (omega arith)
    place c n false false true small e f g = within n small g

    go : (c n : ℕ) → payload_place c n ≤ packet_size
    go c n = place c n (eqb c 1) (eqb c 2) (eqb c 3) (leb n 182) refl refl refl

-- and begins behind the header
pub payload_from : (p : List ℕ) → 4 ≤ payload_at p
payload_from p =
    let control = control_of p in
    let length = adaptation_length p in
    cond_either (λ n. 4 ≤ n) (eqb control 1 || (eqb control 3 && right_length control length)) (cond (eqb control 1) 4 (5 + length)) packet_size
    (cond_either (λ n. 4 ≤ n) (eqb control 1) 4 (5 + length) (omega arith) (omega arith)) (omega arith)

pub counter_small : (p : List ℕ) → counter_of p < 16
counter_small p = omega arith
