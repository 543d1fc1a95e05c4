-- The lines of a pool, and their total. Assumes nothing.
use Rattle.std.specs.Prelude.{List, ℤ, pos, ◌+ℤ◌, fold, filter}
use Rattle.std.specs.Int.{int_wrap, w64}
use Rattle.lines.specs.declared.line.Line.{Line}
use Rattle.lines.specs.declared.line.Pool.{Pool}
use Rattle.lines.specs.Lines.{same_pool}

-- the lines whose pool is p, in their order
abbrev pub lines_of : Pool → List Line → List Line
lines_of p ls = filter (λ l. same_pool p l.pool) ls

-- the sum of the amounts, as a number without bounds
abbrev pub sum : List Line → ℤ
sum ls = fold (λ z l. z +ℤ l.amount.cents) (pos 0) ls

-- the sum modulo 2^64, in signed form
abbrev pub total : List Line → ℤ
total ls = int_wrap w64 (sum ls)
