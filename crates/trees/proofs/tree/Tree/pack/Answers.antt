use Rattle.shapes.proofs.Growing.{grown_packed, packed_shape}
use Rattle.trees.proofs.tree.Tree.pack.Goals as goal

pub invariant_of-self-clause-grown : goal.invariant_of-self-clause-grown
invariant_of-self-clause-grown c = grown_packed c.pack_under.ensures.packs c.clear.ensures.items c.leaves_for.ensures c.if-elements-gt-MOST_ELEMENTS.false

pub returns-clause-packed : goal.returns-clause-packed
returns-clause-packed c = ((c.if-elements-gt-MOST_ELEMENTS.false, tt), packed_shape c.pack_under.ensures.packs c.clear.ensures.items c.leaves_for.ensures c.if-elements-gt-MOST_ELEMENTS.false)
