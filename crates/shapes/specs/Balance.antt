-- When a shape is balanced. Assumes nothing.
use Rattle.std.specs.Prelude.{ℕ, ◌+◌, ◌^◌, ◌≤◌}
use Rattle.shapes.specs.Shapes.{Shape, size, depth}

-- k is D(n), the least number with 2^k at least n
pub record LeastPower (n k : ℕ) : Type 0 where
  pub enough : n ≤ 2 ^ k
  pub least : (j : ℕ) → n ≤ 2 ^ j → k ≤ j

-- a shape of n elements is balanced when its depth is at most D(n) + 2
abbrev pub Balanced : Shape → Type 0
Balanced t = (k : ℕ) → LeastPower (size t) k → depth t ≤ k + 2
