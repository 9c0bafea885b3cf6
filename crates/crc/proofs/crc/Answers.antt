-- `crc::crc` meets its contract. Assumes nothing.
use mathlib.Core.Path.{◌≡◌, refl, sym, ap, ap₂, ◌∙◌}
use mathlib.Core.List.{List, []}
use Prim.Native.Nat.{ℕ, zero, suc, ◌+◌, ◌*◌, ◌/◌, ◌≤◌, ◌<◌}
use native.Mathlib.Nat.{suc-mul, zero-mul}
use native.Mathlib.Omega.{arith}
use lib.ListN.{length, get_or, get_or-eq_default, drop, take, length-take, length-drop}
use lib.Seq.{drop-drop, take-add, take_all, length-take-le}
use Rattle.std.proofs.lemmas.List.{get_or-take, get_or-drop, take_more}
use Rattle.std.specs.Int.{from_be_bytes, w32}
use Rattle.lists.proofs.Tests.{Order, below, from, order}
use Rattle.std.specs.Simd.{first_chunks}
use Rattle.crc.specs.Crc.{crc_feed, bits, bits_of, crc_of}
use Rattle.crc.specs.inner.Wide.{register_of}
use Rattle.crc.proofs.Ends.{crc_append_byte, crc_append_word}
use Rattle.crc.proofs.Wide.{all_ones_lem}
use Rattle.crc.proofs.crc.Goals as goal

-- the chunk at a place of those that a list begins with
chunk_at : {A : Type 0} (n k i : ℕ) (s : List A) (d : List A) → i < k → get_or (first_chunks n k s) i d ≡ take n (drop (i * n) s)
chunk_at n zero i s d h = absurd (omega arith)
chunk_at n (suc k) zero s d h = rw (zero-mul n) refl
chunk_at n (suc k) (suc i) s d h =
    let on : n + i * n ≡ suc i * n = omega (arith, suc-mul i n) in
    chunk_at n k i (drop n s) d (omega arith) ∙ ap (take n) (drop-drop (i * n) n s ∙ ap (λ (j : ℕ). drop j s) on)

-- a part of bytes is of bytes
part_bytes : (n k : ℕ) (s : List ℕ) → ((i : ℕ) → get_or s i 0 < 256) → (j : ℕ) → get_or (take n (drop k s)) j 0 < 256
part_bytes n k s h j = go (order j n)
  where
    go : Order j n → get_or (take n (drop k s)) j 0 < 256
    go (below l) = rw (get_or-take n (drop k s) j 0 l, get_or-drop k s j 0) (h (k + j))
    go (from l) =
        let past : get_or (take n (drop k s)) j 0 ≡ 0 = get_or-eq_default (take n (drop k s)) 0 {n = j} (omega (arith, length-take n (drop k s))) in
        omega arith

pub loop-word-init : goal.loop-word-init
unfolding crc_of crc_feed bits_of
loop-word-init c = ap register_of c.from-u.ensures ∙ all_ones_lem

pub loop-word-preserved : goal.loop-word-preserved
loop-word-preserved c =
    let s = c.args.s.now in
    let i = c.loop-word.word-index in
    let w = take 4 (drop (i * 4) s) in
    let within : i * 4 + 4 ≤ length s = omega (arith, c.as_chunks.ensures.front_len) in
    let four : length w ≡ 4 = length-take-le 4 (drop (i * 4) s) (omega (arith, length-drop (i * 4) s)) in
    let bytes : (j : ℕ) → get_or w j 0 < 256 = part_bytes 4 (i * 4) s (λ k. omega (arith, c.type_inv.s k)) in
    let here : get_or c.as_chunks.result.0.now i [] ≡ w =
    ap (λ z. get_or z i []) c.as_chunks.ensures.front ∙ chunk_at 4 (length s / 4) i s [] (omega (arith, c.as_chunks.ensures.front_len)) in
    let next : i * 4 + 4 ≡ (i + 1) * 4 = omega arith in
    c.crc_word-u.ensures
    ∙ ap₂ (λ (x y : ℕ). crc_feed x (bits 32 y)) c.loop-word.invariant (c.from_be_bytes.ensures ∙ ap (from_be_bytes w32) here)
    ∙ sym (crc_append_word (take (i * 4) s) w four bytes)
    ∙ ap crc_of (sym (take-add (i * 4) 4 s) ∙ ap (λ (n : ℕ). take n s) next)

pub loop-b-init : goal.loop-b-init
loop-b-init c =
    let s = c.args.s.now in
    let all : c.loop-word.word-index * 4 ≡ length s / 4 * 4 + 0 = omega (arith, c.as_chunks.ensures.front_len) in
    c.settled-r.ensures ∙ c.loop-word.invariant ∙ ap (λ (n : ℕ). crc_of (take n s)) all

pub loop-b-preserved : goal.loop-b-preserved
loop-b-preserved c =
    let s = c.args.s.now in
    let n = length s / 4 * 4 in
    let j = c.loop-b.b-index in
    let here : get_or c.as_chunks.result.1.now j 0 ≡ get_or s (n + j) 0 = ap (λ z. get_or z j 0) c.as_chunks.ensures.back ∙ get_or-drop n s j 0 in
    let next : n + j + 1 ≡ n + (j + 1) = omega arith in
    c.crc_byte-r.ensures
    ∙ ap₂ (λ (x y : ℕ). crc_feed x (bits 8 y)) c.loop-b.invariant here
    ∙ sym (crc_append_byte (take (n + j) s) (get_or s (n + j) 0))
    ∙ ap crc_of (sym (take_more s (n + j) 0 (omega (arith, c.as_chunks.ensures.back_len))) ∙ ap (λ (k : ℕ). take k s) next)

pub returns : goal.returns
returns c = c.loop-b.invariant ∙ ap crc_of (take_all _ c.args.s.now (omega (arith, c.as_chunks.ensures.back_len)))
