use Rattle.std.proofs.Common.{◌≡◌, ℕ, List, Ok, Err, Result, MatchResult, rules}
use Rattle.std.specs.Result.{IsErrAnd}
use Rattle.base.specs.declared.cents.Cents.{Cents}
use Rattle.lines.specs.declared.faults.AmountFault.{AmountFault}
use Rattle.lines.specs.declared.faults.AmountFault.TheVariants.{Form}
use Rattle.lines.specs.declared.faults.LineFault.{LineFault}
use Rattle.lines.specs.declared.faults.LineFault.TheVariants as fault
use Rattle.records.specs.declared.fields.Field.TheVariants as kind
use Rattle.records.specs.Amounts.{Says}
use Rattle.records.specs.Numerals.{Nothing}
use Rattle.records.specs.Records.{AmountSays, ReadAs}
use Rattle.records.proofs.reader.CentsFieldValue.read.Goals as goal

placed : (bytes : List ℕ) (place : ℕ) (o : Result Cents AmountFault) (r : Result Cents LineFault) → place ≡ 12 → MatchResult o (λ c. Says bytes c.cents) (λ f. (f ≡ Form) × Nothing (Says bytes)) → MatchResult o (λ c. r ≡ Ok c) (λ f. IsErrAnd r (λ g. g ≡ fault.Amount place f)) → ReadAs AmountSays bytes kind.Amount r
placed bytes place (Ok c) r at says is = rw is says
placed bytes place (Err f) (Ok d) at says is = absurd is
placed bytes place (Err f) (Err g) at says is = (cc, λ c s. says.1 c.cents s)

pub returns : goal.returns
returns c =
    let h = c.map_err.ensures.cases in
    let text = c.in-Amount.text in
    rw c.in-Amount.is (placed text.bytes.now text.place c.read_amount.result c.map_err.result (search rules) c.read_amount.ensures.says (search rules))
