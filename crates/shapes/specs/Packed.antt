-- The packed tree of k elements. Assumes nothing.
use Rattle.std.specs.Prelude.{◌≡◌, ℕ, ◌+◌, ◌-◌, ◌*◌, ◌/◌, ◌<◌, max, [], ◌∷◌, ◌++◌, replicate}
use Rattle.shapes.specs.Shapes.{Shape, leaf, concat, size, nodes, leaf_sizes, Started}
use Rattle.shapes.specs.Balance.{Balanced}

-- as many leaves of 64 as k elements need, and one at least
abbrev pub leaves_for : ℕ → ℕ
leaves_for k = max 1 ((k + 63) / 64)

-- the shape has m leaves, and each node over m leaves, m above 1, has m / 2 rounded up of them on its left
abbrev pub Halved : ℕ → Shape → Type 0
Halved m (leaf i s n) = m ≡ 1
Halved m (concat i l r) = (1 < m) × Halved (m - m / 2) l × Halved (m / 2) r

-- nodes are numbered from b on: the left subtree, the right subtree, then the node itself
abbrev pub Numbered : ℕ → Shape → Type 0
Numbered b (leaf i s n) = i ≡ b
Numbered b (concat i l r) = Numbered b l × Numbered (b + nodes l) r × (i ≡ b + nodes l + nodes r)

pub record Packed (k : ℕ) (t : Shape) : Type 0 where
  pub halved : Halved (leaves_for k) t
  -- all leaves but the last hold 64
  pub full : leaf_sizes t ≡ replicate (leaves_for k - 1) 64 ++ ((k - 64 * (leaves_for k - 1)) ∷ [])
  -- each leaf starts at the number of elements to its left
  pub started : Started 0 t
  pub numbered : Numbered 0 t

-- a shape is the packed tree of k elements, and no other is; it has k elements, and is balanced
pub record PackedAs (k : ℕ) (t : Shape) : Type 0 where
  pub packed : Packed k t
  pub only : (u : Shape) → Packed k u → u ≡ t
  pub whole : size t ≡ k
  pub balanced : Balanced t
