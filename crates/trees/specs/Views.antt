-- A tree by what it stands for. Assumes nothing.
use Rattle.std.specs.Prelude.{List, vec_items}
use Rattle.shapes.specs.declared.node.Node.{Node}
use Rattle.shapes.specs.Shapes.{Shape}
use Rattle.shapes.specs.Nodes.{last_shape}
use Rattle.trees.specs.declared.tree.Tree.{Tree}

-- its nodes, by their numbers
abbrev pub tree_nodes : Tree → List Node
tree_nodes t = vec_items t.nodes

-- its shape: that of the last node, the root
abbrev pub tree_shape : Tree → Shape
tree_shape t = last_shape (tree_nodes t)
