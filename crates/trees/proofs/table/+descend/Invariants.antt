use Rattle.shapes.specs.Nodes.{node_at, depth_of}
use Rattle.trees.proofs.table.+descend.Given as goal

-- the depth of the node falls
abbrev pub decreases-descend : goal.decreases-descend
decreases-descend l = depth_of (node_at l.nodes.now l.at)
