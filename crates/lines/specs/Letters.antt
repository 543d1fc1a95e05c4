-- Which pool a letter stands for. Assumes nothing.
use Rattle.std.specs.Prelude.{◌≡◌, ℕ, Ok, Err, Result, ◌≢◌}
use Rattle.lines.specs.declared.line.Pool.{Pool}
use Rattle.lines.specs.declared.line.UnknownLetter.{UnknownLetter}
use Rattle.lines.specs.Lines.{letter_of}

-- a letter stands for the pool that has it, or for none, and then it is handed back
abbrev pub StandsFor : ℕ → Result Pool UnknownLetter → Type 0
StandsFor letter (Ok p) = letter ≡ letter_of p
StandsFor letter (Err unknown) = ((p : Pool) → letter ≢ letter_of p) × (unknown.0 ≡ letter)
