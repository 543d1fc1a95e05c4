-- Pools, the letter of each, and a line for people to read. Assumes nothing.
use Rattle.std.specs.Prelude.{ℕ, Bool, true, false, List, ◌∷◌, ◌++◌, decimal}
use Rattle.base.specs.Money.{dollars}
use Rattle.lines.specs.declared.line.Line.{Line}
use Rattle.lines.specs.declared.line.Pool.{Pool}
use Rattle.lines.specs.declared.line.Pool.TheVariants.{Win, Place}

-- whether two pools are the same
abbrev pub same_pool : Pool → Pool → Bool
same_pool Win Win = true
same_pool Win Place = false
same_pool Place Win = false
same_pool Place Place = true

-- 'W' or 'P'
abbrev pub letter_of : Pool → ℕ
letter_of Win = 87
letter_of Place = 80

-- the fields with commas between them, and nothing in front of a number
abbrev pub brief : Line → List ℕ
brief l =
    decimal l.terminal.0
    ++ (44 ∷ (decimal l.race.0
    ++ (44 ∷ letter_of l.pool ∷ 44 ∷ (decimal l.runner.0
    ++ (44 ∷ dollars l.amount.cents)))))
