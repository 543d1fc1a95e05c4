-- The worked examples. Assumes nothing.
use Rattle.std.proofs.Common.{ℕ, [], ◌∷◌, ◌++◌, pos, neg_ℤ, codes, refl, ap, arith}
use Rattle.records.specs.declared.amount.Sign.TheVariants.{Minus}
use Rattle.records.specs.Amounts.{Says}
use Rattle.records.specs.Examples.{WorkedAmounts}
use Rattle.records.specs.Numerals.{Digit, number}
use Rattle.records.proofs.Amounts.{Found, said_some}

-- a space, the sign, and nothing before the point
bare_found : Found (codes "      -.50") Minus []
bare_found = record {
  spaces = 6;
  text = 45 ∷ [];
  ten = refl;
  point = refl;
  padded = refl;
  unpadded = λ e. omega (arith, e);
  split = refl;
  bare = λ e. absurd cc;
}

-- five spaces, a minus, no dollars, and cents that end in 0
minus : (tens : ℕ) → Digit tens → Says (codes "     -0." ++ (tens ∷ 48 ∷ [])) (neg_ℤ (pos (number (tens ∷ 48 ∷ []))))
minus tens digit = record {
  spaces = 5;
  sign = Minus;
  whole = 48 ∷ [];
  fraction = tens ∷ 48 ∷ [];
  layout = refl;
  ten = refl;
  whole_digits = ((omega arith, omega arith), tt);
  whole_some = omega arith;
  whole_six = omega arith;
  fraction_digits = (digit, ((omega arith, omega arith), tt));
  fraction_two = refl;
  value = ap (λ n. neg_ℤ (pos n)) (omega arith);
}

pub worked_amounts : WorkedAmounts
worked_amounts = record {
  fifty = minus 53 (omega arith, omega arith);
  nought = minus 48 (omega arith, omega arith);
  bare = λ z s. omega (arith, said_some s bare_found);
  refused = refl;
}
