-- What drafts are: the shapes of their nodes, in the order in which they were made. Assumes nothing.
use Rattle.std.specs.Prelude.{◌≡◌, ℕ, ◌+◌, ◌<◌, ◌≤◌, Bool, false, not, ◌||◌, List, [], ◌∷◌, ◌++◌, map, length, sum_by, filter, ◌==◌, ◌≢◌}
use Rattle.shapes.specs.Shapes.{Shape, leaf, concat, number}
use Rattle.shapes.specs.declared.node.Node.{Node}
use Rattle.shapes.specs.Nodes.{shape_at, shapes, Sound}

-- node k is a child of this one
abbrev pub child : ℕ → Shape → Bool
child k (leaf i s n) = false
child k (concat i l r) = k == number l || k == number r

-- some node has k for a child
abbrev pub has_parent : List Shape → ℕ → Bool
has_parent [] k = false
has_parent (t ∷ ts) k = child k t || has_parent ts k

-- the shapes of the parentless nodes, in their order
abbrev pub parentless : List Shape → List Shape
parentless ts = filter (λ t. not (has_parent ts (number t))) ts

-- node k exists and has no parent
abbrev pub Parentless : List Shape → ℕ → Type 0
Parentless ts k = (k < length ts) × (has_parent ts k ≡ false)

-- for each node, in their order, whether it has a parent
abbrev pub parent_flags : List Shape → List Bool
parent_flags ts = map (λ t. has_parent ts (number t)) ts

-- the elements that a node brings itself: a leaf's
abbrev pub own : Shape → ℕ
own (leaf i s n) = n
own (concat i l r) = 0

-- how many elements the leaves of a draft have
abbrev pub elements : List Shape → ℕ
elements ts = sum_by own ts

-- the next node: a leaf for the next n elements, or two nodes one behind the other
abbrev pub next_leaf : List Shape → ℕ → Shape
next_leaf ts n = leaf (length ts) (elements ts) n

abbrev pub next_concat : List Shape → ℕ → ℕ → Shape
next_concat ts l r = concat (length ts) (shape_at ts l) (shape_at ts r)

-- Every draft is made from nothing, one node after the other: at most 1,023 nodes, and at most 32,768 elements in leaves of at most 64.
pub data Drafted : List Shape → Type 0 where
  nothing : Drafted []
  a_leaf : {ts : List Shape} (n : ℕ) → Drafted ts → n ≤ 64 → length ts < 1023 → elements ts + n ≤ 32768 → Drafted (ts ++ (next_leaf ts n ∷ []))
  a_concat : {ts : List Shape} (l r : ℕ) → Drafted ts → Parentless ts l → Parentless ts r → (l ≢ r) → length ts < 1023 → Drafted (ts ++ (next_concat ts l r ∷ []))

-- What a draft keeps: the table of its nodes, and for each whether it has a parent.
pub record Kept (xs : List Node) (flags : List Bool) : Type 0 where
  -- children stand before their parents, and sizes and depths are right
  pub sound : Sound xs
  -- the nodes were made from nothing, one after the other
  pub drafted : ∥ Drafted (shapes xs) ∥₁
  pub flagged : flags ≡ parent_flags (shapes xs)
