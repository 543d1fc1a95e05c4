-- Which refusal each fault is. Assumes nothing.
use Rattle.base.specs.declared.refusal.Refusal.{Refusal}
use Rattle.base.specs.declared.refusal.Refusal.TheVariants as refusal
use Rattle.lines.specs.declared.faults.AmountFault.{AmountFault}
use Rattle.lines.specs.declared.faults.AmountFault.TheVariants.{Form}
use Rattle.lines.specs.declared.faults.LineFault.{LineFault}
use Rattle.lines.specs.declared.faults.LineFault.TheVariants as line

abbrev pub amount_refusal : AmountFault → Refusal
amount_refusal Form = refusal.Field

abbrev pub line_refusal : LineFault → Refusal
line_refusal line.Shape = refusal.Shape
line_refusal (line.Field place) = refusal.Field
line_refusal (line.Amount place fault) = amount_refusal fault
