-- Amounts of the same number of cents are the same, and an amount's text is what a format prints. Assumes nothing.
use mathlib.Core.HLevel.{is_prop→PathP}
use Rattle.std.proofs.Common.{◌≡◌, ℕ, ◌/◌, ◌%◌, ◌^◌, ◌<◌, true, false, ◌∷◌, ◌++◌, ℤ, pos, negsuc, nat_abs, decimal, refl, arith}
use native.Mathlib.Bridge.{le_prop}
use lib.Signed.{lt_z, mag}
use Rattle.std.proofs.lemmas.Fmt.{decimal_digit}
use Rattle.std.proofs.lemmas.Int.{ints}
use Rattle.base.specs.declared.cents.Cents.{Cents}
use Rattle.base.specs.Money.{unsigned, dollars}

pub same_cents : (a b : Cents) → a.cents ≡ b.cents → a ≡ b
same_cents a b e = λ i. record { cents = e i; fits = is_prop→PathP (λ k. mag (e k) < 2 ^ 63) (λ k. le_prop) a.fits b.fits i }

-- the whole dollars, a point and two digits are the text of an amount
pub pieces : (n : ℕ) → decimal (n / 100) ++ (46 ∷ (decimal (n / 10 % 10) ++ decimal (n % 10))) ≡ unsigned n
pieces n =
    let tens : n / 10 % 10 < 10 = omega arith in
    let units : n % 10 < 10 = omega arith in
    rw (decimal_digit (n / 10 % 10) tens, decimal_digit (n % 10) units)

-- the digits of the cents are the last two of the number
pub tens_of : (n cents : ℕ) → cents ≡ n % 100 → cents / 10 ≡ n / 10 % 10
tens_of n cents e = omega arith

pub units_of : (n cents : ℕ) → cents ≡ n % 100 → cents % 10 ≡ n % 10
units_of n cents e = omega arith

pub below_zero : (z : ℤ) → lt_z z (pos 0) ≡ true → dollars z ≡ 45 ∷ unsigned (nat_abs z)
below_zero (pos n) h = absurd (grind (arith, ints))
below_zero (negsuc n) h = refl

pub from_zero : (z : ℤ) → lt_z z (pos 0) ≡ false → dollars z ≡ unsigned (nat_abs z)
from_zero (pos n) h = refl
from_zero (negsuc n) h = absurd (grind (arith, ints))
