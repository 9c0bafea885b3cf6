-- P3 and P4 of document 01 for one watch, and more on gaps, from the definitions. Assumes nothing.
use mathlib.Core.Path.{◌≡◌, refl}
use mathlib.Core.List.{List, [], ◌∷◌}
use Prim.Native.Nat.{ℕ}
use Rattle.lateness.specs.Gaps.{gap, live, on, tick, act, begins, arrives, ends, lives, judged, view_of}

abbrev half : List ℕ
half = 13_500_000 ∷ []

pub record Table : Type 0 where
  pub silent_at_the_limit : gap half 0 13_500_000 ≡ []
  pub late_above_it : gap half 0 13_500_001 ≡ 13_500_000 ∷ []
  pub once_in_a_long_gap : live half 0 (on 0) (tick 20_000_000 ∷ tick 30_000_000 ∷ tick 40_000_000 ∷ act arrives ∷ []) ≡ 13_500_000 ∷ []
  pub live_silent_at_the_limit : live half 0 (on 0) (tick 13_500_000 ∷ act arrives ∷ tick 27_000_000 ∷ []) ≡ []
  pub second_gap : live half 0 (on 0) (tick 20_000_000 ∷ act arrives ∷ tick 40_000_000 ∷ []) ≡ 13_500_000 ∷ 33_500_000 ∷ []
  pub ended_late : live half 0 (on 0) (tick 13_500_001 ∷ act ends ∷ tick 90_000_000 ∷ []) ≡ 13_500_000 ∷ []
  pub three_limits : live (10 ∷ 20 ∷ 50 ∷ []) 0 (on 0) (tick 15 ∷ tick 51 ∷ []) ≡ 10 ∷ 20 ∷ 50 ∷ []
  pub two_lives : judged half (lives 0 (view_of (on 0)) (tick 5 ∷ act ends ∷ tick 9 ∷ act begins ∷ tick 13_500_010 ∷ [])) ≡ 13_500_009 ∷ []

pub table : Table
table =
    record {
      silent_at_the_limit = refl;
      late_above_it = refl;
      once_in_a_long_gap = refl;
      live_silent_at_the_limit = refl;
      second_gap = refl;
      ended_late = refl;
      three_limits = refl;
      two_lives = refl;
    }
