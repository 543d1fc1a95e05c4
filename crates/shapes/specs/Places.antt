-- Where a position of a rope lies on the strip. Assumes nothing.
use Rattle.std.specs.Prelude.{◌≡◌, ℕ, suc, ◌+◌, ◌<◌}
use Rattle.shapes.specs.Shapes.{Shape, leaf, concat, size}

-- Position p lies at this place of the strip, in a leaf on this level; the topmost node has level 0.
-- The positions of the right child come behind those of the left.
pub data Placed : Shape → (p place level : ℕ) → Type 0 where
  here : {i s n p : ℕ} → p < n → Placed (leaf i s n) p (s + p) 0
  on_left : {i p place level : ℕ} {l r : Shape} → Placed l p place level → Placed (concat i l r) p place (suc level)
  on_right : {i p place level : ℕ} {l r : Shape} → Placed r p place level → Placed (concat i l r) (size l + p) place (suc level)

-- position p was found at this place, and so many nodes were met from the topmost to the leaf, both counted
pub record Found (t : Shape) (p place met : ℕ) : Type 0 where
  pub level : ℕ
  pub placed : Placed t p place level
  pub counted : met ≡ level + 1

-- that, and it has no other place and its leaf no other level
pub record FoundOnly (t : Shape) (p place met : ℕ) : Type 0 where
  pub found : Found t p place met
  pub only : (a n : ℕ) → Found t p a n → (a ≡ place) × (n ≡ met)
