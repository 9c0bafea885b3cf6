-- The two halves of a packet call's ladder, joined. Assumes nothing.
use mathlib.Core.Path.{◌≡◌, refl, sym, ap, ◌∙◌}
use mathlib.Core.Bool.{Bool, true, false}
use mathlib.Core.List.{List}
use Prim.Native.Nat.{ℕ, zero, suc}
use native.Mathlib.Omega.{arith}
use lib.Dec.{ltb, eqb}
use lib.ListN.{length, get_or}
use borrow.Author.Tests.{ltb-false, leb-true, eqb-true, le-ltb, le-leb, eq-eqb}
use Rattle.std.specs.Prelude.{Result, Ok, Err}
use Rattle.events.specs.Capacity.{least_capacity}
use Rattle.watches.specs.Tables.{latest_time}
use Rattle.header.specs.Header.{packet_size, pid_of}
use Rattle.calls.specs.declared.State.{State}
use Rattle.calls.specs.Sound.{time_sound}
use Rattle.calls.specs.Calls.{table_size, packet_wrong, table_wrong, capacity_wrong, time_wrong, packet_refusal}
use Rattle.checks.specs.declared.Refusal.{Refusal}
use Rattle.checks.specs.declared.Refusal.TheVariants.{PacketSize, TableSize, FewRecords, TimeTooLate, UnknownState, TimeBackwards}
use Rattle.checks.specs.Refusals.{refusal_number, number_in}
use Rattle.checks.specs.inner.Ladders.{sizes_refusal, Right, state_refusal}

-- no refusal has the number 0
pub number_given : (r : Refusal) → refusal_number r ≡ 0 → ⊥
number_given PacketSize e = omega arith
number_given TableSize e = omega arith
number_given FewRecords e = omega arith
number_given TimeTooLate e = omega arith
number_given UnknownState e = omega arith
number_given TimeBackwards e = omega arith

-- an outcome is told by its number
outcome_at : ℕ → Result (Unit {0}) Refusal
outcome_at zero = Ok tt
outcome_at (suc zero) = Err PacketSize
outcome_at (suc (suc zero)) = Err TableSize
outcome_at (suc (suc (suc zero))) = Err FewRecords
outcome_at (suc (suc (suc (suc zero)))) = Err TimeTooLate
outcome_at (suc (suc (suc (suc (suc zero))))) = Err UnknownState
outcome_at (suc (suc (suc (suc (suc (suc n)))))) = Err TimeBackwards

outcome_back : (x : Result (Unit {0}) Refusal) → outcome_at (number_in x) ≡ x
unfolding outcome_at
outcome_back (Ok x) = refl
outcome_back (Err PacketSize) = refl
outcome_back (Err TableSize) = refl
outcome_back (Err FewRecords) = refl
outcome_back (Err TimeTooLate) = refl
outcome_back (Err UnknownState) = refl
outcome_back (Err TimeBackwards) = refl

pub same_outcome : (x y : Result (Unit {0}) Refusal) → number_in x ≡ number_in y → x ≡ y
same_outcome x y e = sym (outcome_back x) ∙ ap outcome_at e ∙ outcome_back y

-- the first half, with any number behind it: it is passed, or given whatever follows
data Half (t : ℕ) (p counters : List ℕ) (capacity : ℕ) : Type 0 where
  passed : Right t p counters capacity → ((next : ℕ) → packet_wrong p (table_wrong counters (capacity_wrong capacity (time_wrong t next))) ≡ next) → Half t p counters capacity
  given : (k : ℕ) → (k ≡ 0 → ⊥) → ((next : ℕ) → packet_wrong p (table_wrong counters (capacity_wrong capacity (time_wrong t next))) ≡ k) → Half t p counters capacity

half : (t : ℕ) (p counters : List ℕ) (capacity : ℕ) → Half t p counters capacity
half t p counters capacity = go (eqb (length p) packet_size) refl (eqb (length counters) table_size) refl (ltb capacity least_capacity) refl (time_sound t) refl
  where
    go : (a : Bool) → eqb (length p) packet_size ≡ a → (b : Bool) → eqb (length counters) table_size ≡ b → (c : Bool) → ltb capacity least_capacity ≡ c → (d : Bool) → time_sound t ≡ d
        → Half t p counters capacity
    go true ea true eb false ec true ed =
        passed
        (record {
          packet = eqb-true (length p) packet_size ea;
          table = eqb-true (length counters) table_size eb;
          records = ltb-false capacity least_capacity ec;
          time = leb-true t latest_time ed;
        })
        (λ next. rw (ea, eb, ec, ed))
    go false ea b eb c ec d ed = given 1 (λ z. omega arith) (λ next. rw ea)
    go true ea false eb c ec d ed = given 2 (λ z. omega arith) (λ next. rw (ea, eb))
    go true ea true eb true ec d ed = given 3 (λ z. omega arith) (λ next. rw (ea, eb, ec))
    go true ea true eb false ec false ed = given 4 (λ z. omega arith) (λ next. rw (ea, eb, ec, ed))

pub sizes_right_lem : (t : ℕ) (p counters : List ℕ) (capacity : ℕ) → sizes_refusal t p counters capacity ≡ 0 → Right t p counters capacity
unfolding sizes_refusal
sizes_right_lem t p counters capacity e = go (half t p counters capacity)
  where
    go : Half t p counters capacity → Right t p counters capacity
    go (passed q f) = q
    go (given k n f) = absurd (n (sym (f 0) ∙ e))

module _ (s : State) (t : ℕ) (p counters m : List ℕ) (capacity : ℕ) where
  pub right_passed : Right t p counters capacity → packet_refusal s t p counters m capacity ≡ state_refusal s t m (get_or counters (pid_of p) 0)
  unfolding state_refusal packet_refusal
  right_passed q = rw (eq-eqb (length p) packet_size q.packet, eq-eqb (length counters) table_size q.table, le-ltb capacity least_capacity q.records, le-leb t latest_time q.time)

  pub sizes_given : (sizes_refusal t p counters capacity ≡ 0 → ⊥) → packet_refusal s t p counters m capacity ≡ sizes_refusal t p counters capacity
  unfolding sizes_refusal state_refusal packet_refusal
  sizes_given e = go (half t p counters capacity)
    where
      go : Half t p counters capacity → packet_refusal s t p counters m capacity ≡ sizes_refusal t p counters capacity
      go (passed q f) = absurd (e (f 0))
      go (given k n f) = f (state_refusal s t m (get_or counters (pid_of p) 0)) ∙ sym (f 0)
