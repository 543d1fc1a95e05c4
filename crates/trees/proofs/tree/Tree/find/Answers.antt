use Rattle.shapes.proofs.Growing.{found_under}
use Rattle.trees.proofs.tree.Tree.find.Goals as goal

pub returns : goal.returns
returns c = found_under c.args.self.now.grown _ _ _ _ _ c.nodes.ensures c.root.ensures c.descend.ensures
