-- Which refusal a fault of an input is, and of which record. Assumes nothing.
use Rattle.std.specs.Prelude.{ℕ}
use Rattle.base.specs.declared.refusal.Refusal.{Refusal}
use Rattle.base.specs.declared.refusal.Refusal.TheVariants as refusal
use Rattle.lines.specs.Faults.{line_refusal}
use Rattle.intake.specs.declared.faults.IntakeFault.{IntakeFault}
use Rattle.intake.specs.declared.faults.IntakeFault.TheVariants as intake

abbrev pub intake_refusal : IntakeFault → Refusal
intake_refusal (intake.Line number fault) = line_refusal fault
intake_refusal (intake.Space number) = refusal.Space

-- which record it is, counted from 1
abbrev pub record_number : IntakeFault → ℕ
record_number (intake.Line number fault) = number
record_number (intake.Space number) = number
