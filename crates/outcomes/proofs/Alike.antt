-- Equations of outcomes. Assumes nothing.
use mathlib.Core.Path.{◌≡◌, sym, ap₂, ◌∙◌}
use mathlib.Core.List.{List, [], ◌∷◌}
use Prim.Native.Nat.{ℕ}

-- two that equal a third are equal
pub both : {A : Type 0} {x y z : A} → x ≡ z → y ≡ z → x ≡ y
both p q = p ∙ sym q

-- lent memory, place after place
pub places_2 : {w w' x x' : List ℕ} → w ≡ w' → x ≡ x' → w ∷ x ∷ [] ≡ w' ∷ x' ∷ []
places_2 p q = ap₂ (λ w x. w ∷ x ∷ []) p q

pub places_3 : {w w' x x' y y' : List ℕ} → w ≡ w' → x ≡ x' → y ≡ y' → w ∷ x ∷ y ∷ [] ≡ w' ∷ x' ∷ y' ∷ []
places_3 p q r = ap₂ ◌∷◌ p (places_2 q r)

pub places_4 : {w w' x x' y y' z z' : List ℕ} → w ≡ w' → x ≡ x' → y ≡ y' → z ≡ z' → w ∷ x ∷ y ∷ z ∷ [] ≡ w' ∷ x' ∷ y' ∷ z' ∷ []
places_4 p q r s = ap₂ ◌∷◌ p (places_3 q r s)

pub places_5 : {v v' w w' x x' y y' z z' : List ℕ} → v ≡ v' → w ≡ w' → x ≡ x' → y ≡ y' → z ≡ z' → v ∷ w ∷ x ∷ y ∷ z ∷ [] ≡ v' ∷ w' ∷ x' ∷ y' ∷ z' ∷ []
places_5 o p q r s = ap₂ ◌∷◌ o (places_4 p q r s)
