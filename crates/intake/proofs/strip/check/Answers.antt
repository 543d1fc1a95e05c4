use Rattle.std.proofs.Common.{sym, ap, ◌∙◌, subst, arith}
use Rattle.intake.specs.Inputs.{records}
use Rattle.intake.proofs.Taking.{Sofar, sofar_none, sofar_more, sofar_all, sofar_bad, all_counted}
use Rattle.intake.proofs.strip.check.Goals as goal

pub loop-row-init : goal.loop-row-init
loop-row-init c =
    let whole = ap (λ r. r.rest.now) c.into_iter-row-iterator.ensures.into_iter_gives ∙ c.of-row-items.ensures in
    (subst (λ rest. Sofar (records c.args.input.now) (records rest) 0) (sym whole) (sofar_none _), omega arith)

pub returns-in-Err : goal.returns-in-Err
returns-in-Err c = record {
  row = c.in-Some.row.now;
  first = sofar_bad c.loop-row.invariant.0 c.args.room _ _ c.in-Some.ensures.steps c.loop-row.invariant.1;
  bad = c.in-Err.ensures.says;
}

pub returns-then-count-room : goal.returns-then-count-room
returns-then-count-room c = record {
  row = c.in-Some.row.now;
  line = c.in_default.field-0;
  first = sofar_bad c.loop-row.invariant.0 c.args.room _ _ c.in-Some.ensures.steps c.loop-row.invariant.1;
  reads = c.in_default.ensures.says;
  full = omega arith;
}

pub loop-row-preserved : goal.loop-row-preserved
loop-row-preserved c = (sofar_more c.loop-row.invariant.0 _ _ _ c.in-Some.ensures.steps c.in_default.ensures.says, omega (arith, c.loop-row.invariant.1))

pub returns : goal.returns
returns c = let all = sofar_all c.loop-row.invariant.0 c.in-None.ensures.steps.0 in (all_counted all, all, c.loop-row.invariant.1)
