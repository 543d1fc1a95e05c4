-- What every tree keeps. Assumes nothing.
use Rattle.std.specs.Prelude.{◌≡◌, ℕ, ◌<◌, ◌≤◌, List, length}
use Rattle.shapes.specs.declared.node.Node.{Node}
use Rattle.shapes.specs.Shapes.{size, occurs, widest, end}
use Rattle.shapes.specs.Balance.{Balanced}
use Rattle.shapes.specs.Nodes.{last_shape, Sound}

-- The table of a tree's nodes, whose last node is the root.
pub record Grown (xs : List Node) : Type 0 where
  -- there is a node, and there are at most 1,023
  pub some : 0 < length xs
  pub few : length xs ≤ 1023
  -- children stand before their parents, and sizes and depths are right
  pub sound : Sound xs
  -- there is one root: every node occurs below it, and just once
  pub rooted : (k : ℕ) → k < length xs → occurs k (last_shape xs) ≡ 1
  pub balanced : Balanced (last_shape xs)
  -- at most 32,768 elements, in leaves of at most 64
  pub small : size (last_shape xs) ≤ 32768
  pub narrow : widest (last_shape xs) ≤ 64
  -- the largest end of a leaf is the number of elements
  pub ended : end (last_shape xs) ≡ size (last_shape xs)
