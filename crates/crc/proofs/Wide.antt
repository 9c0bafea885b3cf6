-- A register held as 64 digits. Assumes nothing.
use mathlib.Core.Path.{◌≡◌, refl, sym, ap, ap₂, ◌∙◌, subst}
use Prim.Native.Nat.{ℕ, zero, suc, ◌+◌, ◌-◌, ◌*◌, ◌/◌, ◌%◌, ◌^◌, ◌≤◌, ◌<◌}
use native.Mathlib.Nat.{add-zero, add_assoc, mul_assoc, mul_comm, mod-le, pow-suc, lt_of_lt_of_le, lt_of_le_of_lt}
use native.Mathlib.Omega.{arith}
use lib.Bits.{bit_xor, xor_lt, xor_zero_r, xor_shr, xor_mod, xor_shifted, xor_comm}
use lib.Pow.{pow_mono, shl_lt, mod-pow-add, mod-mod-pow}
use Rattle.crc.specs.Crc.{polynomial, all_ones, adders, crc_step, crc_feed, bits}
use Rattle.crc.specs.inner.Wide.{folded, folded_in, wide_step, register_of}
use Rattle.crc.proofs.Register.{xor_assoc, xor_swap, step_zero, step_low, step_add, shifted, shifted_lt, shifted_add, shifted_sum, shifted_step, zeros_shifted, feed_shifted, four_zeros}

-- THE REGISTER that 64 digits stand for, by their halves
reg_shifted : (u : ℕ) → register_of u ≡ bit_xor (shifted 32 (u / 2 ^ 32)) (u % 2 ^ 32)
unfolding register_of
reg_shifted u = ap (λ (z : ℕ). bit_xor z (u % 2 ^ 32)) (zeros_shifted 32 (u / 2 ^ 32))

reg_halves : (h l : ℕ) → l < 2 ^ 32 → register_of (h * 2 ^ 32 + l) ≡ bit_xor (shifted 32 h) l
reg_halves h l k =
    let a : (h * 2 ^ 32 + l) / 2 ^ 32 ≡ h = omega arith in
    let b : (h * 2 ^ 32 + l) % 2 ^ 32 ≡ l = omega arith in
    reg_shifted (h * 2 ^ 32 + l) ∙ ap₂ (λ (x y : ℕ). bit_xor (shifted 32 x) y) a b

shifted_nothing : shifted 32 0 ≡ 0
unfolding shifted crc_step
shifted_nothing = refl

pub reg_low : (x : ℕ) → x < 2 ^ 32 → register_of x ≡ x
reg_low x h =
    let e : x ≡ 0 * 2 ^ 32 + x = omega arith in
    ap register_of e ∙ reg_halves 0 x h ∙ ap (λ (z : ℕ). bit_xor z x) shifted_nothing

reg_high : (x : ℕ) → register_of (x * 2 ^ 32) ≡ shifted 32 x
reg_high x =
    let e : x * 2 ^ 32 ≡ x * 2 ^ 32 + 0 = omega arith in
    ap register_of e ∙ reg_halves x 0 (omega arith) ∙ xor_zero_r (shifted 32 x)

reg_lt : (u : ℕ) → u < 2 ^ 64 → register_of u < 2 ^ 32
reg_lt u h =
    subst (λ (z : ℕ). z < 2 ^ 32) (sym (reg_shifted u))
    (xor_lt 32 (shifted 32 (u / 2 ^ 32)) (u % 2 ^ 32) (shifted_lt 32 (u / 2 ^ 32) (omega arith)) (omega arith))

reg_add : (a b : ℕ) → a < 2 ^ 64 → b < 2 ^ 64 → register_of (bit_xor a b) ≡ bit_xor (register_of a) (register_of b)
reg_add a b ha hb =
    reg_shifted (bit_xor a b)
    ∙ ap₂ bit_xor (ap (shifted 32) (xor_shr a b 32) ∙ shifted_add 32 (a / 2 ^ 32) (b / 2 ^ 32) (omega arith) (omega arith)) (xor_mod a b 32)
    ∙ xor_swap (shifted 32 (a / 2 ^ 32)) (shifted 32 (b / 2 ^ 32)) (a % 2 ^ 32) (b % 2 ^ 32)
    ∙ sym (ap₂ bit_xor (reg_shifted a) (reg_shifted b))

-- ONE PLACE UP is one zero let in
fell : (t x : ℕ) → t < 2 → bit_xor (shifted 32 t) x ≡ adders t x
unfolding shifted crc_step
fell zero x k = refl
fell (suc zero) x k = xor_comm polynomial x
fell (suc (suc t)) x k = absurd (omega arith)

reg_double : (u : ℕ) → u < 2 ^ 63 → register_of (u * 2) ≡ crc_step (register_of u) 0
reg_double u k =
    let h = u / 2 ^ 32 in
    let t = u / 2 ^ 31 % 2 in
    let r = u % 2 ^ 31 in
    let small : t < 2 = omega arith in
    let below : r < 2 ^ 31 = omega arith in
    let twice : u * 2 ≡ (h * 2 + t) * 2 ^ 32 + r * 2 = omega arith in
    let whole : u ≡ h * 2 ^ 32 + (t * 2 ^ 31 + r) = omega arith in
    let high : h < 2 ^ 31 = omega arith in
    let low : t * 2 ^ 31 + r < 2 ^ 32 = omega arith in
    ap register_of twice
    ∙ reg_halves (h * 2 + t) (r * 2) (omega arith)
    ∙ ap (λ (z : ℕ). bit_xor z (r * 2)) (ap (shifted 32) (sym (xor_shifted h 1 t small)) ∙ shifted_add 32 (h * 2) t (omega arith) (omega arith))
    ∙ xor_assoc (shifted 32 (h * 2)) (shifted 32 t) (r * 2)
    ∙ ap₂ bit_xor (ap (shifted 32) (sym (step_low h high)) ∙ sym (shifted_step 32 h)) (fell t (r * 2) small ∙ sym (step_zero t r small below))
    ∙ sym (step_add (shifted 32 h) (t * 2 ^ 31 + r) (shifted_lt 32 h (omega arith)) low)
    ∙ ap (λ (z : ℕ). crc_step z 0) (sym (ap register_of whole ∙ reg_halves h (t * 2 ^ 31 + r) low))

pub reg_times : (k i v : ℕ) → i + k ≡ 64 → v < 2 ^ i → register_of (v * 2 ^ k) ≡ shifted k (register_of v)
unfolding shifted
reg_times zero i v e h =
    let own : v * 2 ^ 0 ≡ v = omega arith in
    ap register_of own
reg_times (suc k) i v e h =
    let less : i ≤ 63 = omega arith in
    let twice : v * 2 ^ suc k ≡ v * 2 * 2 ^ k = ap (λ (z : ℕ). v * z) (pow-suc 2 k ∙ mul_comm (2 ^ k) 2) ∙ sym (mul_assoc v 2 (2 ^ k)) in
    ap register_of twice
    ∙ reg_times k (i + 1) (v * 2) (omega arith) (shl_lt i 1 h)
    ∙ ap (shifted k) (reg_double v (lt_of_lt_of_le h (pow_mono less)))

-- a zero let into the 64 digits, by the highest one
pub wide_high : (u : ℕ) → 2 ^ 63 ≤ u → u < 2 ^ 64 → wide_step u ≡ bit_xor (u * 2 % 2 ^ 64) folded
unfolding wide_step
wide_high u h k =
    let t : u / 2 ^ 63 ≡ 1 = omega arith in
    let r : u % 2 ^ 63 * 2 ≡ u * 2 % 2 ^ 64 = omega arith in
    ap₂ folded_in t r

pub wide_zero : (u : ℕ) → u < 2 ^ 63 → wide_step u ≡ u * 2
unfolding wide_step
wide_zero u h =
    let t : u / 2 ^ 63 ≡ 0 = omega arith in
    let r : u % 2 ^ 63 ≡ u = omega arith in
    ap₂ (λ (t x : ℕ). folded_in t (x * 2)) t r

pub wide_lt : (u : ℕ) → wide_step u < 2 ^ 64
unfolding wide_step
wide_lt u = go (u / 2 ^ 63)
  where
    go : (t : ℕ) → folded_in t (u % 2 ^ 63 * 2) < 2 ^ 64
    go zero = omega arith
    go (suc t) = xor_lt 64 (u % 2 ^ 63 * 2) folded (omega arith) (omega arith)

-- it is let into the register
fell_out : crc_step (register_of (2 ^ 63)) 0 ≡ register_of folded
unfolding crc_step register_of crc_feed bits
fell_out = refl

pub wide_step_lem : (u : ℕ) → u < 2 ^ 64 → register_of (wide_step u) ≡ crc_step (register_of u) 0
unfolding wide_step
wide_step_lem u h = go (u / 2 ^ 63) refl
  where
    go : (t : ℕ) → u / 2 ^ 63 ≡ t → register_of (folded_in t (u % 2 ^ 63 * 2)) ≡ crc_step (register_of u) 0
    go zero e =
        let own : u % 2 ^ 63 ≡ u = omega arith in
        reg_double (u % 2 ^ 63) (omega arith) ∙ ap (λ (z : ℕ). crc_step (register_of z) 0) own
    go (suc zero) e =
        let r = u % 2 ^ 63 in
        let whole : 1 * 2 ^ 63 + r ≡ u = omega arith in
        let below : r < 2 ^ 63 = omega arith in
        reg_add (r * 2) folded (omega arith) (omega arith)
        ∙ ap₂ bit_xor (reg_double r below) (sym fell_out)
        ∙ sym (step_add (register_of r) (register_of (2 ^ 63)) (reg_lt r (omega arith)) (reg_lt (2 ^ 63) (omega arith)))
        ∙ ap (λ (z : ℕ). crc_step z 0)
        (sym (reg_add r (2 ^ 63) (omega arith) (omega arith)) ∙ ap register_of (xor_comm r (2 ^ 63) ∙ xor_shifted 1 63 r below ∙ whole))
    go (suc (suc t)) e = absurd (omega arith)

-- digits below some place stay as few as they were, a place higher
low_up : (j i u : ℕ) → j ≤ 63 → 32 ≤ i → u % 2 ^ j < 2 ^ i → wide_step u % 2 ^ (j + 1) < 2 ^ (i + 1)
unfolding wide_step
low_up j i u hj hi h = go (u / 2 ^ 63)
  where
    up : u % 2 ^ 63 * 2 % 2 ^ (j + 1) < 2 ^ (i + 1)
    up =
        let r = u % 2 ^ 63 in
        let n = 63 - j in
        let all : n + j ≡ 63 = omega arith in
        let half : r * 2 / 2 ≡ r = omega arith in
        let even : r * 2 % 2 ≡ 0 = omega arith in
        let cut : r % 2 ^ j ≡ u % 2 ^ j = subst (λ (m : ℕ). u % 2 ^ m % 2 ^ j ≡ u % 2 ^ j) all (mod-mod-pow u n j) in
        let e : r * 2 % 2 ^ (j + 1) ≡ u % 2 ^ j * 2 =
        mod-pow-add (r * 2) j 1 ∙ ap₂ (λ (x y : ℕ). x % 2 ^ j * 2 + y) half even ∙ add-zero (r % 2 ^ j * 2) ∙ ap (λ (x : ℕ). x * 2) cut in
        subst (λ (x : ℕ). x < 2 ^ (i + 1)) (sym e) (shl_lt i 1 h)

    go : (t : ℕ) → folded_in t (u % 2 ^ 63 * 2) % 2 ^ (j + 1) < 2 ^ (i + 1)
    go zero = up
    go (suc t) =
        let within : folded < 2 ^ 32 = omega arith in
        let more : 32 ≤ i + 1 = omega arith in
        let few : folded < 2 ^ (i + 1) = lt_of_lt_of_le within (pow_mono more) in
        subst (λ (x : ℕ). x < 2 ^ (i + 1)) (sym (xor_mod (u % 2 ^ 63 * 2) folded (j + 1)))
        (xor_lt (i + 1) (u % 2 ^ 63 * 2 % 2 ^ (j + 1)) (folded % 2 ^ (j + 1)) up (lt_of_le_of_lt (mod-le folded (2 ^ (j + 1))) few))

pub wide_low : (k u : ℕ) → k < 8 → u % 2 ^ (56 + k) < 2 ^ (32 + k) → wide_step u % 2 ^ (56 + (k + 1)) < 2 ^ (32 + (k + 1))
wide_low k u hk h = rw (sym (add_assoc 56 k 1), sym (add_assoc 32 k 1)) (low_up (56 + k) (32 + k) u (omega arith) (omega arith) h)

-- SIXTY-FOUR ZEROS behind a byte: 56 places up, and then eight steps
pub byte_start : (b : ℕ) → b < 256 → shifted 8 (register_of (b * 2 ^ 56)) ≡ crc_feed b (bits 64 0)
byte_start b h =
    ap (shifted 8) (reg_times 56 8 b refl h ∙ ap (shifted 56) (reg_low b (omega arith)))
    ∙ shifted_sum 56 8 b
    ∙ sym (zeros_shifted 64 b)

-- a byte x and the digits y below it, by what comes of each
pub fold_join : (k x y p q : ℕ) → k ≤ 24 → x < 256 → y < 2 ^ k → p < 2 ^ 40 → q < 2 ^ 64
    → register_of p ≡ crc_feed x (bits 64 0) → register_of q ≡ crc_feed y (bits 64 0)
    → register_of (bit_xor (p * 2 ^ k) q) ≡ crc_feed (x * 2 ^ k + y) (bits 64 0)
fold_join k x y p q hk hx hy hp hq ep eq =
    let i = 64 - k in
    let e : i + k ≡ 64 = omega arith in
    let room : 40 ≤ i = omega arith in
    let within : 8 + k ≤ 32 = omega arith in
    let less : k ≤ 32 = omega arith in
    let more : p < 2 ^ i = lt_of_lt_of_le hp (pow_mono room) in
    let wide : x < 2 ^ 40 = omega arith in
    let high_lt : x * 2 ^ k < 2 ^ 32 = lt_of_lt_of_le (shl_lt 8 k hx) (pow_mono within) in
    let low-lt : y < 2 ^ 32 = lt_of_lt_of_le hy (pow_mono less) in
    let up : shifted k x ≡ x * 2 ^ k =
    ap (shifted k) (sym (reg_low x (omega arith)))
    ∙ sym (reg_times k i x e (lt_of_lt_of_le wide (pow_mono room)))
    ∙ reg_low (x * 2 ^ k) high_lt in
    let turned : 64 + k ≡ k + 64 = omega arith in
    let high : register_of (p * 2 ^ k) ≡ shifted 64 (x * 2 ^ k) =
    reg_times k i p e more
    ∙ ap (shifted k) (ep ∙ zeros_shifted 64 x)
    ∙ shifted_sum 64 k x
    ∙ ap (λ (n : ℕ). shifted n x) turned
    ∙ sym (shifted_sum k 64 x)
    ∙ ap (shifted 64) up in
    reg_add (p * 2 ^ k) q (subst (λ (n : ℕ). p * 2 ^ k < 2 ^ n) e (shl_lt i k more)) hq
    ∙ ap₂ bit_xor high (eq ∙ zeros_shifted 64 y)
    ∙ sym (shifted_add 64 (x * 2 ^ k) y high_lt low-lt)
    ∙ ap (shifted 64) (xor_shifted x k y hy)
    ∙ sym (zeros_shifted 64 (x * 2 ^ k + y))

-- THIRTY-TWO BITS added to the lower half, which moves up; the upper half is folded
pub word_folded : (u x f : ℕ) → u < 2 ^ 64 → x < 2 ^ 32 → f < 2 ^ 64 → register_of f ≡ crc_feed (u / 2 ^ 32) (bits 64 0)
    → register_of (bit_xor f (bit_xor (u % 2 ^ 32) x * 2 ^ 32)) ≡ crc_feed (register_of u) (bits 32 x)
word_folded u x f hu hx hf ef =
    let h = u / 2 ^ 32 in
    let l = u % 2 ^ 32 in
    let y = bit_xor l x in
    let hl : l < 2 ^ 32 = omega arith in
    let hh : h < 2 ^ 32 = omega arith in
    let below : y < 2 ^ 32 = xor_lt 32 l x hl hx in
    let own : x % 2 ^ 32 * 2 ^ 0 ≡ x = omega arith in
    reg_add f (y * 2 ^ 32) hf (omega arith)
    ∙ ap₂ bit_xor (ef ∙ zeros_shifted 64 h ∙ sym (shifted_sum 32 32 h)) (reg_high y)
    ∙ sym (shifted_add 32 (shifted 32 h) y (shifted_lt 32 h hh) below)
    ∙ ap (shifted 32) (sym (xor_assoc (shifted 32 h) l x) ∙ ap₂ bit_xor (sym (reg_shifted u)) (sym own))
    ∙ sym (feed_shifted 32 0 (register_of u) x refl (reg_lt u hu))

pub all_ones_lem : register_of 0xFFFF_FFFF ≡ all_ones
all_ones_lem = reg_low 0xFFFF_FFFF (omega arith)

-- the upper half by eight zeros at a time
pub settle : (u : ℕ)
    → bit_xor (crc_feed (crc_feed (crc_feed (crc_feed (u / 2 ^ 32) (bits 8 0)) (bits 8 0)) (bits 8 0)) (bits 8 0)) (u % 2 ^ 32) ≡ register_of u
unfolding register_of
settle u = ap (λ (z : ℕ). bit_xor z (u % 2 ^ 32)) (four_zeros (u / 2 ^ 32))
