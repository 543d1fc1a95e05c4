-- The last line seen. Assumes nothing.
use Rattle.std.specs.Prelude.{Some, None, Option}
use Rattle.lines.specs.declared.line.Line.{Line}

-- A latest is the last line seen in some stretch of lines, or none where the stretch has no line.
-- The latest of two stretches, one behind the other, is that of the second, or that of the first where the second has none.
abbrev pub later : Option Line → Option Line → Option Line
later a None = a
later a (Some line) = Some line
