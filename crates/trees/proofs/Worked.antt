-- The worked example. Assumes nothing.
use Rattle.std.proofs.Common.{refl, arith}
use Rattle.shapes.proofs.Packing.{packed_as}
use Rattle.trees.specs.Examples.{of_129, Packed129}

pub packed_129 : Packed129
packed_129 = record {
  packed = packed_as 129 of_129 (record {
    halved = (omega arith, (omega arith, refl, refl), refl);
    full = refl;
    started = ((refl, refl), refl);
    numbered = ((refl, refl, refl), refl, refl);
  });
  root = refl;
  deep = refl;
}
