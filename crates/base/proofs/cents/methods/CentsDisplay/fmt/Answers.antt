use Rattle.std.proofs.Common.{◌≡◌, ◌/◌, ◌%◌, ◌∷◌, ◌++◌, nat_abs, decimal, sym, ap, ◌∙◌, subst, w64, SFits, rules}
use Rattle.std.proofs.lemmas.Int.{to_z-of_z}
use Rattle.std.specs.Fmt.{HasWritten}
use Rattle.base.specs.Money.{unsigned, dollars}
use Rattle.base.proofs.Money.{pieces, tens_of, units_of, below_zero, from_zero}
use Rattle.base.proofs.cents.methods.CentsDisplay.fmt.Given as given
use Rattle.base.proofs.cents.methods.CentsDisplay.fmt.Goals as goal
use Rattle.base.proofs.cents.methods.CentsDisplay.fmt.Goals.{then-amount-lt0, else-amount-lt0}

-- what is printed is the amount's text
text : (g : given.Over) (c : goal.After-write g) → c.if-amount-lt0.sign.now ++ unsigned c.unsigned_abs.result ≡ dollars c.args.self.now.cents
text g c =
    let z = c.args.self.now.cents in
    let fits : SFits w64 z = search rules in
    let size : c.unsigned_abs.result ≡ nat_abs z = simp to_z-of_z at c.unsigned_abs.ensures.value in
    elim c.if-amount-lt0.branch [
      | then-amount-lt0 w ↦ ap (λ s. s.now ++ unsigned c.unsigned_abs.result) w.sign-is ∙ ap (λ n. 45 ∷ unsigned n) size ∙ sym (below_zero z (simp to_z-of_z at w.if-amount-lt0.true))
      | else-amount-lt0 w ↦ ap (λ s. s.now ++ unsigned c.unsigned_abs.result) w.sign-is ∙ ap unsigned size ∙ sym (from_zero z (simp to_z-of_z at w.if-amount-lt0.false))
    ]

pub returns-clause-writes : goal.returns-clause-writes
returns-clause-writes g c plain ok =
    let sign = c.if-amount-lt0.sign.now in
    let size = c.unsigned_abs.result in
    let parts = c.dollars_and_cents-whole.ensures in
    let cents = c.dollars_and_cents-whole.result.1 in
    let tens = tens_of size cents parts.1 in
    let units = units_of size cents parts.1 in
    let whole = ap (λ n. sign ++ (decimal n ++ (46 ∷ (decimal (cents / 10) ++ decimal (cents % 10))))) parts.0 in
    let digits = ap (λ d. sign ++ (decimal (size / 100) ++ (46 ∷ (decimal d ++ decimal (cents % 10))))) tens ∙ ap (λ d. sign ++ (decimal (size / 100) ++ (46 ∷ (decimal (size / 10 % 10) ++ decimal d)))) units in
    subst (λ bs. HasWritten g.W.Write.write_str_gives c.args.f.now bs c.write.new.self) (whole ∙ digits ∙ ap (λ t. sign ++ t) (pieces size) ∙ text g c) (c.write.ensures.writes plain ok)
