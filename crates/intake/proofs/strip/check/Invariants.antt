use Rattle.std.proofs.Common.{◌≤◌}
use Rattle.intake.specs.Inputs.{records}
use Rattle.intake.proofs.Taking.{Sofar}
use Rattle.intake.proofs.strip.check.Given as goal

abbrev pub invariant-loop-row : goal.invariant-loop-row
invariant-loop-row l = Sofar (records l.input) (records l.row-iterator.rest.now) l.count × (l.count ≤ l.room)
