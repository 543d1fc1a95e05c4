-- A draft by what it stands for. Assumes nothing.
use Rattle.std.specs.Prelude.{List, vec_items}
use Rattle.shapes.specs.declared.node.Node.{Node}
use Rattle.shapes.specs.Shapes.{Shape}
use Rattle.shapes.specs.Nodes.{shapes}
use Rattle.drafts.specs.declared.draft.Draft.{Draft}

-- its nodes, by their numbers
abbrev pub draft_nodes : Draft → List Node
draft_nodes d = vec_items d.nodes

-- the shape of each node, in the order in which they were made
abbrev pub draft_shapes : Draft → List Shape
draft_shapes d = shapes (draft_nodes d)
