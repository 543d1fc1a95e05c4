-- What is done to a table of nodes, node by node: leaves are started anew, a packed tree is hung behind. Assumes nothing.
use Rattle.std.specs.Prelude.{◌≡◌, ℕ, ◌-◌, ◌*◌, ◌^◌, ◌<◌, ◌≤◌, List, [], ◌∷◌, ◌++◌, length, replicate}
use Rattle.shapes.specs.declared.node.Node.{Node}
use Rattle.shapes.specs.Shapes.{Shape, number, nodes, occurs, leaf_sizes, end, Started, restarted}
use Rattle.shapes.specs.Nodes.{node_at, Stands}
use Rattle.shapes.specs.Places.{Found}
use Rattle.shapes.specs.Packed.{Halved, Numbered}

-- a shape stands in a table with its topmost node at this number, no node occurs in it twice, and places on the strip fit 64 bits
pub record Hangs (xs : List Node) (at : ℕ) : Type 0 where
  pub shape : Shape
  pub stands : Stands xs shape
  pub named : number shape ≡ at
  pub once : (k : ℕ) → occurs k shape ≤ 1
  pub fits : end shape < 2 ^ 64

-- a position is found below the node at this number, whatever shape stands there
abbrev pub FoundAt : List Node → (at p place met : ℕ) → Type 0
FoundAt xs at p place met = (t : Shape) → Stands xs t → number t ≡ at → Found t p place met

-- a shape's leaves were started anew, where n elements stand to its left, and no node outside it has changed
pub record Restarts (t : Shape) (n : ℕ) (was after : List Node) : Type 0 where
  pub stands : Stands after (restarted n t)
  pub others : (k : ℕ) → occurs k t ≡ 0 → node_at after k ≡ node_at was k
  pub long : length after ≡ length was

-- the same of the shape at this number, whatever shape stands there
abbrev pub RestartsAt : (at n : ℕ) → (was after : List Node) → Type 0
RestartsAt at n was after = (t : Shape) → Stands was t → number t ≡ at → Restarts t n was after

-- behind the nodes of a table hangs a packed shape of m leaves for n elements, its first leaf at this start
pub record PacksBehind (start n m : ℕ) (was after : List Node) : Type 0 where
  pub shape : Shape
  pub added : List Node
  pub behind : after ≡ was ++ added
  pub long : length added ≡ nodes shape
  pub stands : Stands after shape
  pub halved : Halved m shape
  pub full : leaf_sizes shape ≡ replicate (m - 1) 64 ++ ((n - 64 * (m - 1)) ∷ [])
  pub started : Started start shape
  pub numbered : Numbered (length was) shape
