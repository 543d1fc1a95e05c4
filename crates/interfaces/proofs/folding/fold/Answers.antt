use Rattle.interfaces.proofs.Folds.{fold_append}
use Rattle.interfaces.proofs.folding.fold.Goals as goal

pub returns-clause-concatenation : goal.returns-clause-concatenation
returns-clause-concatenation g c =
    let j = c.args.joining.now in
    let laws = g.met.J.Joining in
    fold_append (g.J.Joining.zero j) (g.J.Joining.joined j) (laws.assoc j) (laws.left j) (laws.right j)
