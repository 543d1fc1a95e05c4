use Rattle.std.proofs.Common.{◌-◌, ◌≤◌, length, take, drop, sym, subst, arith, rules, length-take}
use Rattle.std.proofs.lemmas.List.{take_rest}
use Rattle.std.proofs.lemmas.Grind.{common_steps}
use Rattle.records.specs.Numerals.{Digits}
use Rattle.records.proofs.Amounts.{Found, said_digits, said_some, said_six, said_fraction_digits}
use Rattle.records.proofs.Digits.{number_short}
use Rattle.records.proofs.amount.amount_in.Goals as goal
use Rattle.records.proofs.amount.amount_in.Goals.{After-split_sign-sign, Else-not-contains}

-- what stands before the point, once the spaces and the sign are off
found : (c : After-split_sign-sign) → Found c.args.bytes.now c.split_sign-sign.result.0 c.split_sign-sign.result.1.now
found c = record {
  spaces = length (take 7 c.args.bytes.now) - length c.unpadded.result.now;
  text = c.unpadded.result.now;
  ten = omega arith;
  point = omega arith;
  padded = c.unpadded.ensures.layout;
  unpadded = c.unpadded.ensures.bare;
  split = c.split_sign-sign.ensures.layout;
  bare = c.split_sign-sign.ensures.bare;
}

-- one to six digits
few : (c : Else-not-contains) → (1 ≤ length c.split_sign-sign.result.1.now) × (length c.split_sign-sign.result.1.now ≤ 6)
few c = search rules

pub returns-then-not-contains : goal.returns-then-not-contains
returns-then-not-contains c = λ z s.
    let at = found (goal.at.returns-then-not-contains c).After-split_sign-sign in
    let some = said_some s at in
    let six = said_six s at in
    grind (arith, common_steps)

pub returns-in_err-whole : goal.returns-in_err-whole
returns-in_err-whole c =
    let at = found (goal.at.returns-in_err-whole c).After-split_sign-sign in
    rw c.from_residual.ensures (λ z s. c.in_err-whole.ensures (said_digits s at))

pub returns-in_err-fraction : goal.returns-in_err-fraction
returns-in_err-fraction c =
    let at = found (goal.at.returns-in_err-fraction c).After-split_sign-sign in
    rw c.from_residual-in_err-fraction.ensures
    (λ z s. c.in_err-fraction.ensures (subst Digits (sym (take_rest _ 8)) (said_fraction_digits s at)))

pub overflow_mul-whole : goal.overflow_mul-whole
overflow_mul-whole c =
    let whole = c.in_ok-whole.ensures in
    let six = (few (goal.at.overflow_mul-whole c).Else-not-contains).1 in
    record { fits = omega (arith, whole.1, number_short _ 6 whole.0 six) }

pub overflow_add-whole : goal.overflow_add-whole
overflow_add-whole c =
    let whole = c.in_ok-whole.ensures in
    let fraction = c.in_ok-fraction.ensures in
    let six = (few (goal.at.overflow_add-whole c).Else-not-contains).1 in
    let two = length-take (length c.args.bytes.now - 8) (drop 8 c.args.bytes.now) in
    record { fits = omega (arith, whole.1, fraction.1, number_short _ 6 whole.0 six, number_short _ 2 fraction.0 (omega (arith, two))) }
