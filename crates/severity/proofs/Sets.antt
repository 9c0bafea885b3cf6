-- Every set of classes, by one computed test over all of them. Assumes nothing.
use mathlib.Core.Path.{◌≡◌, refl, ap}
use mathlib.Core.Bool.{Bool, cond}
use Prim.Native.Nat.{ℕ, ◌-◌, ◌^◌, ◌%◌, ◌*◌, ◌<◌, ◌≤◌}
use native.Mathlib.Omega.{arith}
use lib.Dec.{ltb, eqb}
use lib.Count.{ones, ones_in, count_leading_zeros}
use borrow.Author.Tests.{eqb-true, ne_eqb, ltb-true, lt-ltb, le-ltb}
use Rattle.lists.proofs.Tests.{cond_either}
use Rattle.lists.proofs.Table.{passes_at}
use Rattle.severity.specs.Severity.{class_count, worst_of, set_for, row_for, answer_for, refused, severity_of}

-- the class that the leading zeros of a set of 32 digits name, or 0 where all are zeros
abbrev by_zeros : ℕ → ℕ
by_zeros z = cond (eqb z 32) 0 (1 * 2 ^ (31 - z) % 2 ^ 32)

abbrev counted : ℕ → Bool
counted set = eqb (ones set) (class_count set)

abbrev highest : ℕ → Bool
highest set = eqb (by_zeros (count_leading_zeros 32 set)) (worst_of set)

pub ones_number : (set : ℕ) → set < 32 → ones set ≡ class_count set
unfolding ones ones_in
ones_number set h = eqb-true (ones set) (class_count set) (passes_at counted 32 refl set h)

zeros_worst : (set : ℕ) → set < 32 → by_zeros (count_leading_zeros 32 set) ≡ worst_of set
unfolding count_leading_zeros
zeros_worst set h = eqb-true (by_zeros (count_leading_zeros 32 set)) (worst_of set) (passes_at highest 32 refl set h)

pub worst_none : (set : ℕ) → set < 32 → count_leading_zeros 32 set ≡ 32 → 0 ≡ worst_of set
worst_none set h z = rw z at (zeros_worst set h)

pub worst_some : (set : ℕ) → set < 32 → (count_leading_zeros 32 set ≡ 32 → ⊥) → 1 * 2 ^ (31 - count_leading_zeros 32 set) % 2 ^ 32 ≡ worst_of set
worst_some set h z = rw (ne_eqb (count_leading_zeros 32 set) 32 z) at (zeros_worst set h)

-- the set of a gap is one of the row's, and within the classes
abbrev within : ℕ → Bool
within kind = ltb (row_for kind).set 32

pub set_lt : (kind gap : ℕ) → kind < 6 → set_for (row_for kind) gap < 32
set_lt kind gap h =
    let r = row_for kind in
    cond_either (λ s. s < 32) (ltb r.absence gap) r.set (cond (ltb r.qos gap) 3 (cond (ltb r.tnc gap) 1 0))
    (ltb-true r.set 32 (passes_at within 6 refl kind h))
    (cond_either (λ s. s < 32) (ltb r.qos gap) 3 (cond (ltb r.tnc gap) 1 0) (omega arith)
    (cond_either (λ s. s < 32) (ltb r.tnc gap) 1 0 (omega arith) (omega arith)))

-- THE CALL, by its kind
pub severity_listed : (kind gap : ℕ) → kind < 6 → severity_of kind gap ≡ answer_for (set_for (row_for kind) gap)
unfolding severity_of
severity_listed kind gap h = ap (λ b. cond b (answer_for (set_for (row_for kind) gap)) refused) (lt-ltb kind 6 h)

pub severity_unlisted : (kind gap : ℕ) → 6 ≤ kind → severity_of kind gap ≡ refused
unfolding severity_of
severity_unlisted kind gap h = ap (λ b. cond b (answer_for (set_for (row_for kind) gap)) refused) (le-ltb kind 6 h)
