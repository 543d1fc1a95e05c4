use Rattle.intake.specs.Inputs.{records}
use Rattle.intake.proofs.Taking.{Put}
use Rattle.intake.proofs.strip.put.Given as goal

abbrev pub invariant-loop-place : goal.invariant-loop-place
invariant-loop-place l = Put (records l.input) (records l.place-iterator.iter.rest.now) l.place-iterator.count l.initial.strip l.strip
