-- A state by value, laid into arrays: a call on what they hold is refused as one on the state is, and where it is accepted they hold that very state. A list
-- longer than a word holds is refused either way. Assumes nothing.
use mathlib.Core.Path.{◌≡◌, refl, sym, ap, ◌∙◌}
use mathlib.Core.Bool.{Bool, true, false, ◌&&◌}
use mathlib.Core.List.{List}
use Prim.Native.Nat.{ℕ, ◌<◌}
use native.Mathlib.Omega.{arith}
use lib.Dec.{leb}
use borrow.Author.Tests.{leb-true, leb-false}
use Rattle.programmes.specs.Listing.{most_listed}
use Rattle.calls.specs.declared.State.{State}
use Rattle.calls.specs.Sound.{state_sound, byte_sound}
use Rattle.calls.specs.Calls.{packet_wrong, table_wrong, capacity_wrong, time_wrong, state_wrong, order_wrong, packet_refusal, clock_refusal}
use Rattle.calls.proofs.Accepted.{packet_accepted, clock_accepted, sound_parts}
use Rattle.arrays.specs.Lent.{count_word, times_of, words_of, state_in}
use Rattle.arrays.specs.inner.Kept.{Typed}
use Rattle.arrays.proofs.Back.{with_count, packed_back, state_back, count_back}

abbrev pub packed : State → State
packed s = state_in (times_of s) (words_of s)

-- a list that is too long is no sound state
unsound_long : (s : State) (m : List ℕ) → most_listed < s.core.count → state_sound s m ≡ false
unsound_long s m long = go (state_sound s m) refl
  where
    go : (b : Bool) → state_sound s m ≡ b → b ≡ false
    go true e = absurd (omega (arith, (sound_parts s m e).count))
    go false e = refl

module _ (s : State) (z : Typed s) where
  abbrev counted : ℕ → State
  counted n = record { latest = s.latest; core = with_count n s.core }

  sound_same : (m : List ℕ) → state_sound (counted (count_word s.core.count)) m ≡ state_sound s m
  sound_same m = go (leb s.core.count 65535) refl
    where
      go : (b : Bool) → leb s.core.count 65535 ≡ b → state_sound (counted (count_word s.core.count)) m ≡ state_sound s m
      go true e = ap (λ (n : ℕ). state_sound (counted n) m) (count_back s.core.count (leb-true s.core.count 65535 e))
      go false e =
          let long : 65535 < s.core.count = leb-false s.core.count 65535 e in
          let word : count_word s.core.count ≡ 65535 = rw e in
          ap (λ (n : ℕ). state_sound (counted n) m) word ∙ unsound_long (counted 65535) m (omega arith) ∙ sym (unsound_long s m (omega arith))

  pub packed_packet : (t : ℕ) (p counters m : List ℕ) (capacity : ℕ) → packet_refusal (packed s) t p counters m capacity ≡ packet_refusal s t p counters m capacity
  unfolding packet_refusal
  packed_packet t p counters m capacity =
      ap (λ (x : State). packet_refusal x t p counters m capacity) (packed_back s z)
      ∙ ap (λ (b : Bool). packet_wrong p (table_wrong counters (capacity_wrong capacity (time_wrong t (state_wrong (b && byte_sound counters p) (order_wrong s t 0)))))) (sound_same m)

  pub packed_clock : (t : ℕ) (m : List ℕ) (capacity : ℕ) → clock_refusal (packed s) t m capacity ≡ clock_refusal s t m capacity
  unfolding clock_refusal
  packed_clock t m capacity =
      ap (λ (x : State). clock_refusal x t m capacity) (packed_back s z)
      ∙ ap (λ (b : Bool). capacity_wrong capacity (time_wrong t (state_wrong b (order_wrong s t 0)))) (sound_same m)

  sound_packed : (m : List ℕ) → state_sound s m ≡ true → packed s ≡ s
  sound_packed m e = state_back s (record { typed = z; count = omega (arith, (sound_parts s m e).count) })

  pub packet_packed : (t : ℕ) (p counters m : List ℕ) (capacity : ℕ) → packet_refusal s t p counters m capacity ≡ 0 → packed s ≡ s
  packet_packed t p counters m capacity e = sound_packed m (packet_accepted s t p counters m capacity e).sound

  pub clock_packed : (t : ℕ) (m : List ℕ) (capacity : ℕ) → clock_refusal s t m capacity ≡ 0 → packed s ≡ s
  clock_packed t m capacity e = sound_packed m (clock_accepted s t m capacity e).sound
