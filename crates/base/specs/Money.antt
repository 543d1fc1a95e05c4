-- How an amount in cents is written: `20.00`, `-0.50`. Assumes nothing.
use Rattle.std.specs.Prelude.{ℕ, suc, ◌+◌, ◌/◌, ◌%◌, List, [], ◌∷◌, ◌++◌, ℤ, pos, negsuc, decimal}

-- the whole dollars with no needless zero, a point, and the cents in two digits
abbrev pub unsigned : ℕ → List ℕ
unsigned n = decimal (n / 100) ++ (46 ∷ (48 + n / 10 % 10) ∷ (48 + n % 10) ∷ [])

-- a minus stands before an amount below 0, and nothing before any other
abbrev pub dollars : ℤ → List ℕ
dollars (pos n) = unsigned n
dollars (negsuc n) = 45 ∷ unsigned (suc n)
