-- The ten bytes of an amount, and what they say. Assumes nothing.
use Rattle.std.specs.Prelude.{◌≡◌, ℕ, ◌+◌, ◌*◌, ◌≤◌, List, [], ◌∷◌, ◌++◌, length, replicate, ℤ, pos, neg_ℤ}
use Rattle.records.specs.declared.amount.Sign.{Sign}
use Rattle.records.specs.declared.amount.Sign.TheVariants.{Unsigned, Plus, Minus}
use Rattle.records.specs.Numerals.{Digits, number}

-- no byte, '+' or '-'
abbrev pub sign_bytes : Sign → List ℕ
sign_bytes Unsigned = []
sign_bytes Plus = 43 ∷ []
sign_bytes Minus = 45 ∷ []

-- the sign times n
abbrev pub signed : Sign → ℕ → ℤ
signed Unsigned n = pos n
signed Plus n = pos n
signed Minus n = neg_ℤ (pos n)

-- The bytes say an amount in cents: spaces, at most one sign, one to six digits, a point and two
-- digits, ten bytes in all.
-- The sign stands for the whole amount, so it counts where the dollars are 0.
pub record Says (bytes : List ℕ) (cents : ℤ) : Type 0 where
  pub spaces : ℕ
  pub sign : Sign
  pub whole : List ℕ
  pub fraction : List ℕ
  pub layout : bytes ≡ (replicate spaces 32 ++ (sign_bytes sign ++ whole)) ++ (46 ∷ fraction)
  pub ten : length bytes ≡ 10
  pub whole_digits : Digits whole
  pub whole_some : 1 ≤ length whole
  pub whole_six : length whole ≤ 6
  pub fraction_digits : Digits fraction
  pub fraction_two : length fraction ≡ 2
  pub value : cents ≡ signed sign (100 * number whole + number fraction)
