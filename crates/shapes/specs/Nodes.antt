-- What a table of nodes stands for. Assumes nothing.
use Rattle.std.specs.Prelude.{◌≡◌, ℕ, suc, ◌+◌, ◌-◌, ◌^◌, ◌<◌, max, List, [], ◌∷◌, ◌++◌, map, length, slice_index_or}
use Rattle.shapes.specs.declared.node.Node.{Node}
use Rattle.shapes.specs.declared.node.Node.TheVariants.{Leaf, Concat}
use Rattle.shapes.specs.Shapes.{Shape, leaf, concat, number, size, depth}

-- the node at a number of a table; a number that is not there gives an empty leaf
abbrev pub node_at : List Node → ℕ → Node
node_at xs k = slice_index_or xs k (Leaf 0 0)

abbrev pub size_of : Node → ℕ
size_of (Leaf start n) = n
size_of (Concat left right n levels) = n

abbrev pub depth_of : Node → ℕ
depth_of (Leaf start n) = 0
depth_of (Concat left right n levels) = levels

-- the node that stands for a shape, which names its children by their numbers
abbrev pub node_of : Shape → Node
node_of (leaf i s n) = Leaf s n
node_of (concat i l r) = Concat (number l) (number r) (size l + size r) (max (depth l) (depth r) + 1)

-- the node over two others of a table
abbrev pub concat_node : List Node → ℕ → ℕ → Node
concat_node xs l r =
    Concat l r (size_of (node_at xs l) + size_of (node_at xs r))
    (max (depth_of (node_at xs l)) (depth_of (node_at xs r)) + 1)

-- both nodes are there, and their sizes and depths come to numbers of 64 bits
pub record FitsOver (xs : List Node) (l r : ℕ) : Type 0 where
  pub left : l < length xs
  pub right : r < length xs
  pub size : size_of (node_at xs l) + size_of (node_at xs r) < 2 ^ 64
  pub depth : max (depth_of (node_at xs l)) (depth_of (node_at xs r)) + 1 < 2 ^ 64

-- the shape at a number; a number that is not there gives a leaf that has another
abbrev pub shape_at : List Shape → ℕ → Shape
shape_at ts k = slice_index_or ts k (leaf (suc k) 0 0)

-- the shape of a node that comes behind those of these shapes
abbrev pub shape_of : List Shape → Node → Shape
shape_of ts (Leaf start n) = leaf (length ts) start n
shape_of ts (Concat left right n levels) = concat (length ts) (shape_at ts left) (shape_at ts right)

abbrev pub shapes_behind : List Shape → List Node → List Shape
shapes_behind ts [] = ts
shapes_behind ts (x ∷ xs) = shapes_behind (ts ++ (shape_of ts x ∷ [])) xs

-- the shapes of the nodes of a table, in their order
abbrev pub shapes : List Node → List Shape
shapes xs = shapes_behind [] xs

-- the shape of the last node of a table
abbrev pub last_shape : List Node → Shape
last_shape xs = shape_at (shapes xs) (length xs - 1)

-- A table is sound: its nodes are those of its shapes. So children stand before their parents, and sizes and depths are right.
abbrev pub Sound : List Node → Type 0
Sound xs = xs ≡ map node_of (shapes xs)

-- A shape stands in a table: each of its nodes at its number, and each child before its parent.
abbrev pub At : List Node → Shape → Type 0
At xs t = (number t < length xs) × (node_at xs (number t) ≡ node_of t)

abbrev pub Stands : List Node → Shape → Type 0
Stands xs (leaf i s n) = At xs (leaf i s n)
Stands xs (concat i l r) = At xs (concat i l r) × (number l < i) × (number r < i) × Stands xs l × Stands xs r
