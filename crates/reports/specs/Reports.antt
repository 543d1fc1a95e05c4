-- The report on an input, byte for byte. Assumes nothing.
use Rattle.std.specs.Prelude.{ℕ, ◌≤◌, List, [], ◌∷◌, ◌++◌, length, ℤ, codes, decimal, Ok, Err, Result}
use Rattle.base.specs.Money.{dollars}
use Rattle.base.specs.Refusals.{number}
use Rattle.intake.specs.declared.faults.IntakeFault.{IntakeFault}
use Rattle.lines.specs.declared.line.Line.{Line}
use Rattle.lines.specs.declared.line.Pool.{Pool}
use Rattle.lines.specs.declared.line.Pool.TheVariants.{Win, Place}
use Rattle.intake.specs.Faults.{intake_refusal, record_number}
use Rattle.intake.specs.Inputs.{records}
use Rattle.intake.specs.Intake.{EachReads, Refused}
use Rattle.lines.specs.Lines.{letter_of}
use Rattle.reports.specs.declared.Summary.{Summary}
use Rattle.reports.specs.declared.Takings.{Takings}
use Rattle.reports.specs.Pools.{lines_of, total}

-- CR LF
abbrev pub line_end : List ℕ
line_end = 13 ∷ 10 ∷ []

-- a pool's letter, the number of its lines and their total, with commas between them
abbrev pub row : Pool → ℕ → ℤ → List ℕ
row p count cents = letter_of p ∷ 44 ∷ (decimal count ++ (44 ∷ dollars cents))

abbrev pub pool_row : Pool → List Line → List ℕ
pool_row p ls = row p (length (lines_of p ls)) (total (lines_of p ls))

-- a header and a row for each of the two pools, each ended by CR LF
abbrev pub with_header : List ℕ → List ℕ → List ℕ
with_header win place = codes "pool,lines,total" ++ (line_end ++ (win ++ (line_end ++ (place ++ line_end))))

abbrev pub table : List Line → List ℕ
table ls = with_header (pool_row Win ls) (pool_row Place ls)

-- the number of the record that is turned away, and that of the refusal, ended by CR LF
abbrev pub refusal_row : IntakeFault → List ℕ
refusal_row f = codes "refused," ++ (decimal (record_number f) ++ (44 ∷ (decimal (number (intake_refusal f)) ++ line_end)))

-- the text of what the pools have taken
abbrev pub takings_text : Takings → List ℕ
takings_text t = with_header (row t.win.pool t.win.lines t.win.total.cents) (row t.place.pool t.place.lines t.place.total.cents)

-- that, or the row that stands for a refused input
abbrev pub outcome_text : Result Takings IntakeFault → List ℕ
outcome_text (Ok t) = takings_text t
outcome_text (Err f) = refusal_row f

-- the text of a summary
abbrev pub text_of : Summary → List ℕ
text_of s = outcome_text s.0

-- The text reports on an input of which at most `room` records are taken:
-- it is the table of the input's lines, or the refusal of its first bad record and nothing else.
pub data Reports (room : ℕ) (input : List ℕ) : List ℕ → Type 0 where
  taken : (ls : List Line) → EachReads (records input) ls → length ls ≤ room → Reports room input (table ls)
  turned_away : (f : IntakeFault) → Refused room (records input) f → Reports room input (refusal_row f)
