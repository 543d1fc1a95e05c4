use Rattle.std.proofs.Common.{◌+◌, ◌*◌, ◌^◌, ◌≡◌, ap, ◌∙◌, ⊎_elim, pow-suc, add-one, arith, pow_mono}
use Rattle.std.proofs.lemmas.Bool.{cases_lt}
use Rattle.shapes.proofs.balance.least_power.Goals as goal

pub returns-in_default : goal.returns-in_default
returns-in_default c =
    let k = c.ilog2.result in
    let twice : 2 ^ (k + 1) ≡ 2 ^ k * 2 = ap (λ i. 2 ^ i) (add-one k) ∙ pow-suc 2 k in
    record {
      enough = omega arith;
      least = λ j enough. ⊎_elim (λ lt. omega arith) (λ ge. absurd (omega (arith, pow_mono {i = j} {j = k} ge))) (cases_lt k j);
    }
