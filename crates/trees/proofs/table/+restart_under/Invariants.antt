use Rattle.shapes.specs.Nodes.{node_at, depth_of}
use Rattle.trees.proofs.table.+restart_under.Given as goal

-- the depth of the node falls
abbrev pub decreases-restart_under : goal.decreases-restart_under
decreases-restart_under l = depth_of (node_at l.nodes.now l.at)
