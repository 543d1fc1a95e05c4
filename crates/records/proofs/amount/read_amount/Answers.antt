use Rattle.std.proofs.Common.{◌≡◌, ℕ, List, ℤ, Some, None, Option, MatchOption, MatchResult}
use Rattle.std.specs.Option.{ok_or}
use Rattle.base.specs.declared.cents.Cents.{Cents}
use Rattle.lines.specs.declared.faults.AmountFault.TheVariants.{Form}
use Rattle.records.specs.Amounts.{Says}
use Rattle.records.specs.Numerals.{Nothing}
use Rattle.records.proofs.Amounts.{says_once}
use Rattle.records.proofs.Worked.{worked_amounts}
use Rattle.records.proofs.amount.read_amount.Goals as goal

-- the amount that bytes say is the one that was read
only : {bytes : List ℕ} (o : Option Cents) → MatchOption o (Nothing (Says bytes)) (λ c. Says bytes c.cents) → (z : ℤ) → Says bytes z → MatchResult (ok_or o Form) (λ c. c.cents ≡ z) (λ _. ⊥)
only None none z s = none z s
only (Some c) says z s = says_once says s

pub returns-clause-only : goal.returns-clause-only
returns-clause-only c = rw c.ok_or.ensures.value (only _ c.amount_in.ensures)

pub returns-clause-examples : goal.returns-clause-examples
returns-clause-examples c = worked_amounts
