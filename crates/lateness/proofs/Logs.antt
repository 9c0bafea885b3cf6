-- The acts of a packet, taken at once. Assumes nothing.
use mathlib.Core.Path.{◌≡◌, refl}
use mathlib.Core.List.{List, [], ◌∷◌, ◌++◌, map}
use Prim.Native.Nat.{ℕ}
use Rattle.lateness.specs.Gaps.{Watch, Act, after, acted, Seen, act, live, Ordered}

pub live_acts : (ls : List ℕ) (p : ℕ) (az : List Act) (w : Watch) (os : List Seen) → live ls p w (map act az ++ os) ≡ live ls p (acted p w az) os
live_acts ls p [] w os = refl
live_acts ls p (a ∷ az) w os = live_acts ls p az (after p w a) os

pub ordered_acts : (p : ℕ) (az : List Act) (os : List Seen) → Ordered p os → Ordered p (map act az ++ os)
ordered_acts p [] os o = o
ordered_acts p (a ∷ az) os o = ordered_acts p az os o
