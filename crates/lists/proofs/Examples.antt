-- Text as numbers, so that `text` itself is pinned. Assumes nothing.
use mathlib.Core.Path.{◌≡◌, refl}
use mathlib.Core.List.{[], ◌∷◌}
use Rattle.lists.specs.Text.{text, character, tab, lf}

pub record Table : Type 0 where
  pub no_characters : text "" ≡ []
  pub in_order : text "az AZ\t09-\n" ≡ 97 ∷ 122 ∷ 32 ∷ 65 ∷ 90 ∷ 9 ∷ 48 ∷ 57 ∷ 45 ∷ 10 ∷ []
  pub first_one : character "f9" ≡ 102
  pub tab_and_lf : tab ∷ lf ∷ [] ≡ 9 ∷ 10 ∷ []

pub table : Table
table = record { no_characters = refl; in_order = refl; first_one = refl; tab_and_lf = refl }
