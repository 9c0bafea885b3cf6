-- A log of accepted calls, over any engine whose state is the latest accepted time and a core that does not hold it: demand 3 and the
-- consequence of document 01, "Watches and lateness".
--
--   Call X            == a clock call at t, or a packet call at t with the packet x
--   time_of c          == the call's time
--   seen              == what one watch sees of a log: each call's time, then the acts of its packet
--   or_clock b t x     == the packet x at t, or where the test fails a clock call at the same time
use Rattle.std.specs.Prelude.{Bool, true, false, List, [], ◌∷◌, ◌++◌, map, ℕ}
use Rattle.lateness.specs.Gaps.{Act, Seen, tick, act}

pub data Call (X : Type 0) : Type 0 where
  clock : ℕ → Call X
  packet : ℕ → X → Call X

abbrev pub time_of : {X : Type 0} → Call X → ℕ
time_of (clock t) = t
time_of (packet t x) = t

module _ {K X : Type 0} (next : K → ℕ → X → K) where
  abbrev pub seen : (K → ℕ → X → List Act) → K → List (Call X) → List Seen
  seen acts k [] = []
  seen acts k (clock t ∷ cs) = tick t ∷ seen acts k cs
  seen acts k (packet t x ∷ cs) = tick t ∷ (map act (acts k t x) ++ seen acts (next k t x) cs)

abbrev pub or_clock : {X : Type 0} → Bool → ℕ → X → Call X
or_clock true t x = packet t x
or_clock false t x = clock t
