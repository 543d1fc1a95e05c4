use Rattle.std.proofs.Common.{◌-◌, vec_items, arith}
use Rattle.shapes.specs.Nodes.{FitsOver}
use Rattle.shapes.proofs.Packing.{joins}
use Rattle.trees.proofs.table.+pack_under.Goals as goal

pub unwrap-parent-requires : goal.unwrap-parent-requires
unwrap-parent-requires t c =
    let joined = joins (omega arith) (omega arith) (omega arith) c.pack_under.ensures.packs c.pack_under-2.ensures.packs (c.len-left.result - 1) (c.len-right.result - 1) (omega arith) (omega arith) in
    let fits : FitsOver (vec_items c.pack_under-2.new.nodes) (c.len-left.result - 1) (c.len-right.result - 1) = joined.fits in
    grind arith
