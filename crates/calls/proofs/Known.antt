-- Step 4 leaves a known byte in a counter table of known bytes. Assumes nothing.
use mathlib.Core.Path.{◌≡◌, refl, ap, ◌∙◌}
use mathlib.Core.Bool.{Bool, true, false, not, ◌&&◌, ◌||◌}
use mathlib.Core.List.{List}
use Prim.Native.Nat.{ℕ, ◌+◌, ◌<◌}
use native.Mathlib.Omega.{arith}
use lib.Dec.{eqb}
use lib.ListN.{length, get_or, set}
use lib.Seq.{get_or-set_same, get_or-set_other, set_out}
use borrow.Author.Tests.{eqb-true, eqb-false}
use Rattle.lists.proofs.Tests.{cond_either, Order, below, from, order}
use Rattle.lists.proofs.Table.{passes_at}
use Rattle.header.specs.Header.{pid_of, counter_of, header_of}
use Rattle.continuity.specs.declared.Counted.{Counted}
use Rattle.continuity.specs.Continuity.{is_unseen, repeated_once, known_byte, control10, is_next, is_last, counted_of}
use Rattle.calls.specs.Steps.{counted}

abbrev pub KnownBytes : List ℕ → Type 0
KnownBytes cs = (q : ℕ) → known_byte (get_or cs q 0) ≡ true

known_set : (cs : List ℕ) (q b : ℕ) → KnownBytes cs → known_byte b ≡ true → KnownBytes (set cs q b)
known_set cs q b known e i = go (eqb i q) refl (order q (length cs))
  where
    go : (x : Bool) → eqb i q ≡ x → Order q (length cs) → known_byte (get_or (set cs q b) i 0) ≡ true
    go true z (below l) = ap known_byte (ap (λ j. get_or (set cs q b) j 0) (eqb-true i q z) ∙ get_or-set_same cs q b 0 l) ∙ e
    go true z (from l) = ap (λ ds. known_byte (get_or ds i 0)) (set_out cs q b l) ∙ known i
    go false z l = ap known_byte (get_or-set_other cs q i b 0 (eqb-false i q z)) ∙ known i

module _ (b : ℕ) (p : List ℕ) (known : known_byte b ≡ true) where
  counter_below : counter_of p < 16
  counter_below = omega arith

  last_known : known_byte (16 + counter_of p) ≡ true
  last_known = passes_at (λ n. known_byte (16 + n)) 16 refl (counter_of p) counter_below

  repeated_known : known_byte (48 + counter_of p) ≡ true
  repeated_known = passes_at (λ n. known_byte (48 + n)) 16 refl (counter_of p) counter_below

  abbrev Leaves : Counted → Type 0
  Leaves j = known_byte j.byte ≡ true

  counted_known : Leaves (counted_of b (header_of p))
  unfolding counted_of header_of
  counted_known =
      let h = header_of p in
      cond_either Leaves (h.discontinuity || is_unseen b) _ _ last_known
      (cond_either Leaves (control10 h && is_last b h) _ _ known
      (cond_either Leaves (control10 h) _ _ last_known
      (cond_either Leaves (is_next b h) _ _ last_known
      (cond_either Leaves (is_last b h && not (repeated_once b)) _ _ repeated_known
      (cond_either Leaves (is_last b h) _ _ known last_known)))))

pub known_counted : (p cs : List ℕ) → KnownBytes cs → KnownBytes (set cs (pid_of p) (counted p cs).byte)
known_counted p cs known = known_set cs (pid_of p) (counted p cs).byte known (counted_known (get_or cs (pid_of p) 0) p (known (pid_of p)))
