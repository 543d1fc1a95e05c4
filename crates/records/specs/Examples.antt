-- Worked examples of amounts. Assumes nothing.
use Rattle.std.specs.Prelude.{◌≡◌, pos, negsuc, codes}
use Rattle.base.specs.Refusals.{number}
use Rattle.lines.specs.declared.faults.AmountFault.TheVariants.{Form}
use Rattle.records.specs.Amounts.{Says}
use Rattle.records.specs.Numerals.{Nothing}
use Rattle.lines.specs.Faults.{amount_refusal}

-- minus fifty cents keeps its sign at 0 dollars, minus nothing is 0, and an amount with no digit of dollars is refused with 2
pub record WorkedAmounts : Type 0 where
  pub fifty : Says (codes "     -0.50") (negsuc 49)
  pub nought : Says (codes "     -0.00") (pos 0)
  pub bare : Nothing (Says (codes "      -.50"))
  pub refused : number (amount_refusal Form) ≡ 2
