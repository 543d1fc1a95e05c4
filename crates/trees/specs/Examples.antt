-- A worked example, as a fact about the definitions. Assumes nothing.
use Rattle.std.specs.Prelude.{◌≡◌}
use Rattle.shapes.specs.Shapes.{Shape, leaf, concat, number, depth}
use Rattle.shapes.specs.Packed.{PackedAs}

-- three leaves: two on the left, one on the right
abbrev pub of_129 : Shape
of_129 = concat 4 (concat 2 (leaf 0 0 64) (leaf 1 64 64)) (leaf 3 128 1)

-- it is the packed tree of 129 elements, with root 4 and depth 2
pub record Packed129 : Type 0 where
  pub packed : PackedAs 129 of_129
  pub root : number of_129 ≡ 4
  pub deep : depth of_129 ≡ 2
