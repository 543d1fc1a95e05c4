use Rattle.trees.proofs.table.+pack_under.Given as goal

-- the number of leaves falls
abbrev pub decreases-pack_under : goal.decreases-pack_under
decreases-pack_under l = l.leaves
