-- Digits, and the numbers that they say. Assumes nothing.
use Rattle.std.specs.Prelude.{◌≡◌, ℕ, ◌+◌, ◌-◌, ◌*◌, ◌≤◌, List, [], ◌∷◌}
use Rattle.std.specs.List.{AllByRecursion}

-- one of the bytes '0' to '9'
abbrev pub Digit : ℕ → Type 0
Digit b = (48 ≤ b) × (b ≤ 57)

abbrev pub Digits : List ℕ → Type 0
Digits ds = AllByRecursion Digit ds

-- the number that digits say, read from the left after the number n
abbrev pub number_after : ℕ → List ℕ → ℕ
number_after n [] = n
number_after n (d ∷ ds) = number_after (n * 10 + (d - 48)) ds

abbrev pub number : List ℕ → ℕ
number ds = number_after 0 ds

-- digits that say a number from low to high
pub record Numeral (low high : ℕ) (bytes : List ℕ) (value : ℕ) : Type 0 where
  pub digits : Digits bytes
  pub says : value ≡ number bytes
  pub least : low ≤ value
  pub most : value ≤ high

-- no value at all is said
abbrev pub Nothing : {A : Type 0} → (A → Type 0) → Type 0
Nothing {A} P = (a : A) → P a → ⊥
