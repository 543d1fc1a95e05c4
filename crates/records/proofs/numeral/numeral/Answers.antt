use Rattle.std.proofs.Common.{◌≡◌, ℕ, ◌-◌, ◌<◌, ◌≤◌, List, length, get_or, take, sym, subst, arith, rules}
use Rattle.std.proofs.ByRecursion.{All-more}
use Rattle.std.proofs.lemmas.List.{length-take-le}
use Rattle.records.specs.Numerals.{Digit, Digits, number}
use Rattle.records.proofs.Digits.{number_short, number_more}
use Rattle.records.proofs.numeral.numeral.Goals as goal

-- the number so far is below a hundred thousand
short : (digits : List ℕ) (i n : ℕ) → length digits ≤ 6 → i < length digits → Digits (take i digits) → n ≡ number (take i digits) → n < 100000
short digits i n few at all is =
    let long : length (take i digits) ≤ 5 = subst (λ k. k ≤ 5) (sym (length-take-le i digits (omega arith))) (omega arith) in
    omega (arith, number_short (take i digits) 5 all long)

pub overflow_mul-n : goal.overflow_mul-n
overflow_mul-n c =
    record { fits = omega (arith, short _ _ _ c.requires c.loop-d-test.true c.loop-d.invariant.0 c.loop-d.invariant.1) }

pub overflow_add-n : goal.overflow_add-n
overflow_add-n c =
    record { fits = omega (arith, c.in_ok-n.ensures.value, short _ _ _ c.requires c.loop-d-test.true c.loop-d.invariant.0 c.loop-d.invariant.1) }

pub loop-d-preserved : goal.loop-d-preserved
loop-d-preserved c =
    let digits = c.args.digits.now in
    let i = c.loop-d.d-index in
    let digit : Digit (get_or digits i 0) = search rules in
    let value : c.in_ok-n.field-0 ≡ get_or digits i 0 - 48 = search rules in (
      All-more Digit digits i 0 c.loop-d-test.true c.loop-d.invariant.0 digit,
      omega (arith, value, c.loop-d.invariant.1, number_more digits i c.loop-d-test.true),
    )
