use Rattle.std.proofs.Common.{length, vec_items, sym, ap, subst, arith}
use Rattle.std.specs.Vec.{with_items}
use Rattle.std.proofs.lemmas.List.{with_items_is}
use Rattle.shapes.proofs.Growing.{Anew, grown_anew}
use Rattle.trees.specs.Views.{tree_nodes}
use Rattle.trees.proofs.tree.Tree.restart.Goals as goal
use Rattle.trees.proofs.tree.Tree.restart.Goals.{After-restart_under}

-- what is left once the leaves below the root are started anew
after : (c : After-restart_under) → Anew (tree_nodes c.args.self.now) (vec_items (with_items c.args.self.now.nodes c.restart_under.new.nodes))
after c =
    let t = c.args.self.now in
    let table = c.deref_mut.ensures.value in
    let ws = c.restart_under.new.nodes in
    subst (Anew (tree_nodes t)) (sym (with_items_is t.nodes ws (omega (arith, t.nodes.ok.0, ap length table, c.restart_under.auto.nodes)))) (grown_anew t.grown _ ws _ table c.root-root.ensures c.restart_under.ensures)

pub invariant_of-self-clause-grown : goal.invariant_of-self-clause-grown
invariant_of-self-clause-grown c = (after (goal.at.invariant_of-self-clause-grown c).After-restart_under).grown

pub returns-clause-alike : goal.returns-clause-alike
returns-clause-alike c = (after (goal.at.returns-clause-alike c).After-restart_under).alike

pub returns-clause-started : goal.returns-clause-started
returns-clause-started c = (after (goal.at.returns-clause-started c).After-restart_under).started
