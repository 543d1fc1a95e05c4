use Rattle.std.proofs.Common.{◌/◌, length, decimal, ◌≡◌, ◌≤◌, true, false, ◌∷◌, pos, nat_abs, refl, sym, ap, ◌∙◌, arith, rules}
use lib.Signed.{lt_z}
use Rattle.std.proofs.lemmas.Int.{to_z-of_z}
use Rattle.base.specs.Money.{unsigned}
use Rattle.base.proofs.Money.{below_zero, from_zero}
use Rattle.records.specs.Written.{right}
use Rattle.records.proofs.RecordLayout.{right_digits, whole_six, put_plain, put_minus}
use Rattle.records.proofs.writer.amount_bytes.Goals as goal
use Rattle.records.proofs.writer.amount_bytes.Goals.{After-unsigned_abs-size}

size : (c : After-unsigned_abs-size) → c.unsigned_abs-size.result ≡ nat_abs c.args.amount.cents
size c = search (rules, to_z-of_z)

six : (c : After-unsigned_abs-size) → length (decimal (c.unsigned_abs-size.result / 100)) ≤ 6
six c = whole_six c.unsigned_abs-size.result (omega (arith, size c, c.requires))

pub overflow_sub-out : goal.overflow_sub-out
overflow_sub-out c =
    omega (arith, six (goal.at.overflow_sub-out c).After-unsigned_abs-size, c.put_right-at.ensures.place)

pub returns-then-value-lt0 : goal.returns-then-value-lt0
returns-then-value-lt0 c =
    let z = c.args.amount.cents in
    let at = (goal.at.returns-then-value-lt0 c).After-unsigned_abs-size in
    let less : lt_z z (pos 0) ≡ true = search (rules, to_z-of_z) in
    let two = right_digits 2 48 _ refl c.put_right.ensures.place c.put_right.ensures.after in
    put_minus _ _ _ _ c.put_right-at.ensures.place c.put_right-at.ensures.after two (omega (arith, six at, c.put_right-at.ensures.place))
    ∙ ap (λ n. right 10 32 (45 ∷ unsigned n)) (size at) ∙ ap (right 10 32) (sym (below_zero z less))

pub returns-else-value-lt0 : goal.returns-else-value-lt0
returns-else-value-lt0 c =
    let z = c.args.amount.cents in
    let at = (goal.at.returns-else-value-lt0 c).After-unsigned_abs-size in
    let less : lt_z z (pos 0) ≡ false = search (rules, to_z-of_z) in
    let two = right_digits 2 48 _ refl c.put_right.ensures.place c.put_right.ensures.after in
    put_plain _ _ _ _ c.put_right-at.ensures.place c.put_right-at.ensures.after two
    ∙ ap (λ n. right 10 32 (unsigned n)) (size at) ∙ ap (right 10 32) (sym (from_zero z less))
