use Rattle.std.proofs.Common.{◌≡◌, suc, ◌+◌, ◌-◌, ◌<◌, ◌∷◌, length, take, drop, sym, ap, ◌∙◌, arith, rules}
use borrow.Author.Tests.{eqb-false}
use Rattle.std.proofs.lemmas.List.{take_rest}
use Rattle.intake.specs.Inputs.{records}
use Rattle.intake.proofs.Cutting.{cut_at, cut_none}
use Rattle.intake.proofs.input.RecordsIterator.next.Goals as goal

pub returns-in-Some : goal.returns-in-Some
returns-in-Some c =
    let bs = c.args.self.now.rest.now in
    let end = c.in-Some.end in
    let found = c.in-Some.ensures in
    let tail = take_rest bs (end + 2) in
    let two : suc (suc end) ≡ end + 2 = omega arith in
    let all : end ≡ end - 0 = omega arith in
    record {
      steps = cut_at bs end found.0 found.1 ∙ ap (λ n. take end bs ∷ records (drop n bs)) two ∙ ap (λ l. take end bs ∷ records l) (sym tail) ∙ ap (λ n. take n bs ∷ records (take (length bs - (end + 2)) (drop (end + 2) bs))) all;
      goes = (search rules);
    }

pub returns-in-None : goal.returns-in-None
returns-in-None c =
    let bs = c.args.self.now.rest.now in
    let some : 0 < length bs = omega (arith, eqb-false (length bs) 0 (sym c.is_empty.ensures ∙ c.if-is_empty.false)) in
    record {
      steps = cut_none bs some c.in-None.ensures;
      goes = (search rules);
    }
