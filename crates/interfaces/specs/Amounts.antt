-- Amounts that are joined by adding them up. Assumes nothing.
use Rattle.std.specs.Prelude.{ℤ, pos, ◌+ℤ◌}
use Rattle.std.proofs.lemmas.Int.{SFits-int_wrap}
use Rattle.std.specs.Int.{int_wrap, w64}
use Rattle.base.specs.declared.cents.Cents.{Cents}

-- the amount of a number of cents, modulo 2^64 in signed form
abbrev pub amount_of : ℤ → Cents
amount_of cents = record { cents = int_wrap w64 cents; fits = (SFits-int_wrap w64 cents).sfits }

-- no money
abbrev pub nothing : Cents
nothing = amount_of (pos 0)

-- the sum of two amounts, modulo 2^64 in signed form
abbrev pub sum : Cents → Cents → Cents
sum a b = amount_of (a.cents +ℤ b.cents)
