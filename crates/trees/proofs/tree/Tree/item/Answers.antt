use Rattle.std.proofs.Common.{◌<◌, length, sym, ◌∙◌, arith}
use Rattle.std.proofs.lemmas.List.{get_or_read}
use Rattle.shapes.proofs.Reading.{placed_within, placed_end, placed_reads}
use Rattle.trees.proofs.tree.Tree.item.Goals as goal

pub offset_bounds-elements-index : goal.offset_bounds-elements-index
offset_bounds-elements-index g c = omega (arith, placed_end c.in_ok-index.ensures.found.placed, c.args.self.now.grown.ended, c.requires)

pub bounds-elements-index : goal.bounds-elements-index
bounds-elements-index g c = omega (arith, placed_end c.in_ok-index.ensures.found.placed, c.args.self.now.grown.ended, c.requires)

pub returns-clause-item : goal.returns-clause-item
returns-clause-item g c =
    let placed = c.in_ok-index.ensures.found.placed in
    let xs = c.args.elements.now in
    let there : c.in_ok-index.field-0.index < length xs = omega (arith, placed_end placed, c.args.self.now.grown.ended, c.requires) in
    (placed_within placed, λ d. get_or_read xs _ _ there c.index-elements-index.is d ∙ sym (placed_reads xs placed (omega (arith, c.args.self.now.grown.ended, c.requires)) d))
