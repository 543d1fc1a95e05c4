-- What the intake does with the records of an input. Assumes nothing.
use Rattle.std.specs.Prelude.{◌≡◌, ℕ, ◌+◌, ◌≤◌, List, [], ◌∷◌, ◌++◌, length, drop}
use Rattle.intake.specs.declared.faults.IntakeFault.{IntakeFault}
use Rattle.intake.specs.declared.faults.IntakeFault.TheVariants as fault
use Rattle.lines.specs.declared.faults.LineFault.{LineFault}
use Rattle.lines.specs.declared.line.Line.{Line}
use Rattle.records.specs.Records.{Reads, FirstFault}

-- each record is its line, in order
abbrev pub EachReads : List (List ℕ) → List Line → Type 0
EachReads [] [] = Unit {0}
EachReads [] (l ∷ ls) = ⊥
EachReads (r ∷ rs) [] = ⊥
EachReads (r ∷ rs) (l ∷ ls) = Reads r l × EachReads rs ls

-- the records are lines, as many as `count`
pub record AllRead (rs : List (List ℕ)) (count : ℕ) : Type 0 where
  pub lines : List Line
  pub read : EachReads rs lines
  pub counted : count ≡ length lines

-- all lines are put at the front of the strip, which has room for them, and what stands behind them is as it was
pub record Taken (rs : List (List ℕ)) (count : ℕ) (was after : List Line) : Type 0 where
  pub all : AllRead rs count
  pub room : count ≤ length was
  pub strip : after ≡ all.lines ++ drop count was

-- The record `row` is the first that is turned away, as record `number`, counted from 1: those before it are lines, and there is room for them.
pub record FirstBad (room : ℕ) (rs : List (List ℕ)) (number : ℕ) (row : List ℕ) : Type 0 where
  pub before : List (List ℕ)
  pub after : List (List ℕ)
  pub split : rs ≡ before ++ (row ∷ after)
  pub read : AllRead before (length before)
  pub fits : length before ≤ room
  pub counted : number ≡ length before + 1

-- a record that is no line
pub record BadLine (room : ℕ) (rs : List (List ℕ)) (number : ℕ) (f : LineFault) : Type 0 where
  pub row : List ℕ
  pub first : FirstBad room rs number row
  pub bad : FirstFault row f

-- a record that is a line for which there is no room
pub record NoRoom (room : ℕ) (rs : List (List ℕ)) (number : ℕ) : Type 0 where
  pub row : List ℕ
  pub line : Line
  pub first : FirstBad room rs number row
  pub reads : Reads row line
  pub full : number ≡ room + 1

abbrev pub Refused : ℕ → List (List ℕ) → IntakeFault → Type 0
Refused room rs (fault.Line number f) = BadLine room rs number f
Refused room rs (fault.Space number) = NoRoom room rs number
