-- The table of document 01, "Severity by A/78", row by row at its limits and one tick above them, P9 among them; from the
-- definition. Assumes nothing.
use mathlib.Core.Path.{◌≡◌, refl}
use mathlib.Core.List.{List, [], ◌∷◌}
use Prim.Native.Nat.{ℕ, ◌+◌, ◌^◌}
use Rattle.severity.specs.Severity.{toa, poa, cm, qos, tnc, class_count, worst_of, severity_of}
use Rattle.severity.specs.declared.Verdict.{Verdict}

abbrev classed : ℕ → ℕ → ℕ → Verdict
classed set number worst = record { refusal = 0; set = set; number = number; worst = worst }

-- what is answered at three limits and one tick above each
abbrev around : ℕ → ℕ → ℕ → ℕ → List Verdict
around kind first second third =
    severity_of kind first ∷ severity_of kind (first + 1) ∷ severity_of kind second ∷ severity_of kind (second + 1)
    ∷ severity_of kind third ∷ severity_of kind (third + 1) ∷ []

-- nothing, then TNC, then QOS with TNC, then the set at absence
abbrev rises : Verdict → List Verdict
rises absence = classed 0 0 0 ∷ classed 1 1 1 ∷ classed 1 1 1 ∷ classed 3 2 2 ∷ classed 3 2 2 ∷ absence ∷ []

abbrev unlisted : Verdict
unlisted = record { refusal = 7; set = 0; number = 0; worst = 0 }

pub record Table : Type 0 where
  pub classes : toa ∷ poa ∷ cm ∷ qos ∷ tnc ∷ [] ≡ 16 ∷ 8 ∷ 4 ∷ 2 ∷ 1 ∷ []
  pub pat : around 0 2_700_000 5_400_000 13_500_000 ≡ rises (classed 31 5 16)
  pub pmt : around 1 10_800_000 21_600_000 54_000_000 ≡ rises (classed 15 4 8)
  pub eit_0 : around 2 13_500_000 27_000_000 67_500_000 ≡ rises (classed 15 4 8)
  pub eit_1 : around 3 81_000_000 162_000_000 405_000_000 ≡ rises (classed 7 3 4)
  pub eit_2_and_3 : around 4 1_620_000_000 3_240_000_000 8_100_000_000 ≡ rises (classed 7 3 4)
  pub stt : around 5 27_000_000 54_000_000 135_000_000 ≡ rises (classed 7 3 4)
  -- kind 6 is not listed, whatever the gap
  pub kind_6 : severity_of 6 0 ≡ unlisted
  pub kind_6_absent : severity_of 6 (2 ^ 62) ≡ unlisted
  -- a gap is any number of ticks
  pub no_gap : severity_of 0 0 ≡ classed 0 0 0
  pub longest_gap : severity_of 5 (2 ^ 64) ≡ classed 7 3 4
  -- classes that do not stand side by side
  pub classes_apart : class_count 17 ∷ worst_of 17 ∷ class_count 6 ∷ worst_of 6 ∷ [] ≡ 2 ∷ 16 ∷ 2 ∷ 4 ∷ []

pub table : Table
unfolding severity_of
table =
    record {
      classes = refl;
      pat = refl;
      pmt = refl;
      eit_0 = refl;
      eit_1 = refl;
      eit_2_and_3 = refl;
      stt = refl;
      kind_6 = refl;
      kind_6_absent = refl;
      no_gap = refl;
      longest_gap = refl;
      classes_apart = refl;
    }
