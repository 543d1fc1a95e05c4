-- Digits at the right of a field, and the ten bytes of an amount. Assumes nothing.
use Rattle.std.proofs.Common.{◌≡◌, ℕ, ◌+◌, ◌-◌, ◌/◌, ◌%◌, ◌^◌, ◌<◌, ◌≤◌, ⊎_elim, List, [], ◌∷◌, ◌++◌, length, take, set, replicate, decimal, ◌∙◌, append_assoc, append-nil, arith, length-append}
use lib.ListN.{length-replicate}
use Rattle.std.proofs.lemmas.Bool.{cases_lt}
use Rattle.std.proofs.lemmas.Fmt.{decimal_digit, decimal_step, length-decimal-le}
use Rattle.std.proofs.lemmas.Grind.{replicate_next}
use Rattle.std.proofs.lemmas.List.{take-replicate, set_at}
use Rattle.base.specs.Money.{unsigned}
use Rattle.records.specs.Written.{right}

pub right_digits : (width fill at : ℕ) {number value : ℕ} {out : List ℕ} → number ≡ value → at + length (decimal number) ≡ width → out ≡ take at (replicate width fill) ++ decimal number → out ≡ right width fill (decimal value)
right_digits width fill at {number} is room after =
    let many : at ≡ width - length (decimal number) = omega arith in
    let fits : at ≤ width = omega arith in
    after ∙ rw (take-replicate {X = ℕ} at width fill fits, many, is)

-- two digits, with a zero in front where one would do
two_digits : (n : ℕ) → n < 100 → right 2 48 (decimal n) ≡ (48 + n / 10) ∷ (48 + n % 10) ∷ []
two_digits n few =
    ⊎_elim
    (λ h. let last : n % 10 ≡ n = omega arith in let none : n / 10 ≡ 0 = omega arith in rw (decimal_digit n h, last, none))
    (λ h. let fits : n < 2 ^ 64 = omega arith in let first : n / 10 < 10 = omega arith in rw (decimal_step n h fits, decimal_digit (n / 10) first))
    (cases_lt n 10)

-- at most six digits stand before the point of an amount
pub whole_six : (m : ℕ) → m ≤ 99999999 → length (decimal (m / 100)) ≤ 6
whole_six m few = length-decimal-le 6 (m / 100) (omega arith) (omega arith) (omega arith)

pub unsigned_long : (m : ℕ) → length (unsigned m) ≡ length (decimal (m / 100)) + 3
unsigned_long m = simp length-append

-- `front` is what stands before the point, and `behind` what stands behind it
module _ (m at : ℕ) (front behind : List ℕ) (room : at + length (decimal (m / 100)) ≡ 7) (is : front ≡ take at (replicate 7 32) ++ decimal (m / 100)) (cents : behind ≡ right 2 48 (decimal (m % 100))) where
  pub put_plain : front ++ (46 ∷ (behind ++ [])) ≡ right 10 32 (unsigned m)
  put_plain =
      let fits : at ≤ 7 = omega arith in
      let few : m % 100 < 100 = omega arith in
      let tens : m % 100 / 10 ≡ m / 10 % 10 = omega arith in
      let ones : m % 100 % 10 ≡ m % 10 = omega arith in
      let many : 10 - length (unsigned m) ≡ at = omega (arith, unsigned_long m) in
      rw (many, is, take-replicate {X = ℕ} at 7 32 fits, append-nil behind, cents, two_digits (m % 100) few, tens, ones, append_assoc)

  pub put_minus : 0 < at → set (front ++ (46 ∷ (behind ++ []))) (at - 1) 45 ≡ right 10 32 (45 ∷ unsigned m)
  put_minus some =
      let many : 10 - length (unsigned m) ≡ at - 1 + 1 = omega (arith, unsigned_long m) in
      let fewer : 10 - length (45 ∷ unsigned m) ≡ at - 1 = omega (arith, unsigned_long m) in
      rw (put_plain, many, fewer, replicate_next, append_assoc) (set_at (replicate (at - 1) 32) 32 (unsigned m) 45 (at - 1) (length-replicate (at - 1) 32))
