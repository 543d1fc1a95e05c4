-- What is to be reported on an input. Assumes nothing.
use Rattle.std.specs.Prelude.{◌≡◌, ℕ, ◌≤◌, List, length, Ok, Err, Result}
use Rattle.lines.specs.declared.line.Line.{Line}
use Rattle.lines.specs.declared.line.Pool.{Pool}
use Rattle.lines.specs.declared.line.Pool.TheVariants as pool
use Rattle.intake.specs.declared.faults.IntakeFault.{IntakeFault}
use Rattle.intake.specs.Inputs.{records}
use Rattle.intake.specs.Intake as intake
use Rattle.reports.specs.declared.PoolTally.{PoolTally}
use Rattle.reports.specs.declared.Summary.{Summary}
use Rattle.reports.specs.declared.Takings.{Takings}
use Rattle.reports.specs.Pools.{lines_of, total}

-- the tally of a pool over some lines: how many of them are the pool's, and their total
pub record Tallied (p : Pool) (ls : List Line) (t : PoolTally) : Type 0 where
  pub pool : t.pool ≡ p
  pub counted : t.lines ≡ length (lines_of p ls)
  pub summed : t.total.cents ≡ total (lines_of p ls)

-- what the pools have taken of some lines: the tallies of both
pub record BothTallied (ls : List Line) (t : Takings) : Type 0 where
  pub win : Tallied pool.Win ls t.win
  pub place : Tallied pool.Place ls t.place

-- every record of the input is a line, there are at most `room`, and this is what they come to
pub record AllTallied (room : ℕ) (input : List ℕ) (t : Takings) : Type 0 where
  pub lines : List Line
  pub read : intake.EachReads (records input) lines
  pub few : length lines ≤ room
  pub tallies : BothTallied lines t

-- what comes of an input of which at most `room` records are taken: what its lines come to, or why it is refused
abbrev pub Outcome : ℕ → List ℕ → Result Takings IntakeFault → Type 0
Outcome room input (Ok t) = AllTallied room input t
Outcome room input (Err f) = intake.Refused room (records input) f

-- a summary says what comes of the input
abbrev pub Summarizes : ℕ → List ℕ → Summary → Type 0
Summarizes room input s = Outcome room input s.0
