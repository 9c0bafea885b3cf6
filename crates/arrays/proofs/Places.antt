-- A PID searched for among the words is searched for in the list that they hold. Assumes nothing.
use mathlib.Core.Path.{◌≡◌, refl, sym, ap, ap₂, ◌∙◌}
use mathlib.Core.Bool.{Bool, true, false, cond, not}
use mathlib.Core.List.{List, [], ◌∷◌, map}
use Prim.Native.Nat.{ℕ, suc, ◌+◌, ◌≤◌, ◌<◌}
use native.Mathlib.Omega.{arith}
use lib.Dec.{eqb, ltb}
use lib.ListN.{length, take}
use lib.Seq.{ext_get_or, length-take-le}
use Rattle.std.proofs.lemmas.List.{get_or-take}
use Rattle.std.specs.List.{position, position_or_len}
use Rattle.std.specs.Prelude.{Option, Some, None}
use Rattle.lists.specs.Places.{part}
use Rattle.lists.proofs.Places.{part_length, part_at}
use Rattle.watches.specs.declared.Entry.{Entry}
use Rattle.watches.specs.Tables.{no_entry}
use Rattle.programmes.specs.Listing.{most_listed}
use Rattle.programmes.specs.Places.{place_of}
use Rattle.arrays.specs.Lent.{entries_in, count_in, core_word_count, pids_at}
use Rattle.arrays.specs.inner.Kept.{listed_in, place_among}
use Rattle.arrays.proofs.Tabled.{length_map, get_d_map}
use Rattle.arrays.proofs.Stores.{entry_at, entries_length}

place_is : (q : ℕ) (es : List Entry) → position_or_len (λ p. eqb p q) (map (λ (e : Entry). e.pid) es) ≡ place_of q es
unfolding place_of
place_is q [] = refl
place_is q (e ∷ es) = go (eqb e.pid q) (place_is q es)
  where
    go : {n m : ℕ} (b : Bool) → n ≡ m → cond (not b) (1 + n) 0 ≡ cond b 0 (suc m)
    go true same = refl
    go false same = omega (arith, same)

pids_listed : (times words : List ℕ) (n : ℕ) → core_word_count ≤ length words → n ≤ most_listed → map (λ (e : Entry). e.pid) (take n (entries_in times words)) ≡ part words pids_at n
pids_listed times words n wide few =
    let es = entries_in times words in
    let some : length (take n es) ≡ n = length-take-le n es (omega (arith, entries_length times words)) in
    let pids : length (part words pids_at n) ≡ n = part_length words pids_at n (omega arith) in
    ext_get_or 0 _ _ (length_map (λ (e : Entry). e.pid) (take n es) ∙ some ∙ sym pids)
    (λ i h.
    let b : i < n = omega (arith, length_map (λ (e : Entry). e.pid) (take n es)) in
    get_d_map (λ (e : Entry). e.pid) (take n es) i no_entry 0 (omega arith)
    ∙ ap (λ (e : Entry). e.pid) (get_or-take n es i no_entry b ∙ entry_at times words i (omega arith))
    ∙ sym (part_at words pids_at n i 0 b))

pub place_found : (times words : List ℕ) (q n : ℕ) (r : Option ℕ) → n ≡ count_in words → core_word_count ≤ length words → n ≤ most_listed
    → r ≡ position (λ p. eqb p q) (part words pids_at n) → r ≡ place_among q (listed_in times words)
place_found times words q n r e wide few found =
    let es = take n (entries_in times words) in
    let pids = pids_listed times words n wide few in
    found
    ∙ ap (position (λ p. eqb p q)) (sym pids)
    ∙ ap₂ (λ (i m : ℕ). cond (ltb i m) (Some i) None) (place_is q es) (length_map (λ (e : Entry). e.pid) es)
    ∙ ap (λ (k : ℕ). place_among q (take k (entries_in times words))) e
