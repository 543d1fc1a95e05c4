-- How a line is written, and which lines can be. Assumes nothing.
use Rattle.std.specs.Prelude.{ℕ, ◌-◌, ◌≤◌, List, ◌∷◌, ◌++◌, length, replicate, decimal, unsigned_abs}
use Rattle.base.specs.Money.{dollars}
use Rattle.lines.specs.declared.line.Line.{Line}
use Rattle.lines.specs.Lines.{letter_of}

-- a text at the right of a field, with a byte that fills what is left of it
abbrev pub right : ℕ → ℕ → List ℕ → List ℕ
right width fill text = replicate (width - length text) fill ++ text

-- numbers with zeros in front, the pool's letter, the amount with spaces in front, and commas between them
abbrev pub written : Line → List ℕ
written l =
    right 3 48 (decimal l.terminal.0)
    ++ (44 ∷ (right 2 48 (decimal l.race.0)
    ++ (44 ∷ letter_of l.pool ∷ 44 ∷ (right 2 48 (decimal l.runner.0)
    ++ (44 ∷ right 10 32 (dollars l.amount.cents))))))

-- each field can show its value
pub record Shows (l : Line) : Type 0 where
  pub terminal_least : 1 ≤ l.terminal.0
  pub terminal_most : l.terminal.0 ≤ 999
  pub race_least : 1 ≤ l.race.0
  pub race_most : l.race.0 ≤ 20
  pub runner_least : 1 ≤ l.runner.0
  pub runner_most : l.runner.0 ≤ 24
  pub amount_most : unsigned_abs l.amount.cents ≤ 99999999
