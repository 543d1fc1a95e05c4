use Rattle.std.proofs.Common.{arith}
use Rattle.shapes.proofs.Hanging.{hangs_within}
use Rattle.shapes.proofs.Finding.{found_leaf, child_of, found_met}
use Rattle.trees.proofs.table.+descend.Goals as goal

pub returns-in-Leaf : goal.returns-in-Leaf
returns-in-Leaf t c = found_leaf c.requires.hangs c.in-Leaf.is c.requires.within

pub descend-place-requires : goal.descend-place-requires
descend-place-requires t c =
    let at = child_of c.requires.hangs c.in-Concat.is c.requires.within c.size.ensures c.child_at-child.ensures.left c.child_at-child.ensures.right in
    (omega (arith, c.decreases, at.less), (at.hangs, at.within))

pub overflow_add-result-in-Concat : goal.overflow_add-result-in-Concat
overflow_add-result-in-Concat t c =
    let at = child_of c.requires.hangs c.in-Concat.is c.requires.within c.size.ensures c.child_at-child.ensures.left c.child_at-child.ensures.right in
    omega (arith, found_met at.hangs c.descend-place.ensures, at.before, hangs_within c.requires.hangs, c.well_formed)

pub returns-in-Concat : goal.returns-in-Concat
returns-in-Concat t c =
    let at = child_of c.requires.hangs c.in-Concat.is c.requires.within c.size.ensures c.child_at-child.ensures.left c.child_at-child.ensures.right in
    at.found _ _ c.descend-place.ensures
