use Rattle.std.proofs.Common.{ap, ◌∙◌, arith}
use Rattle.intake.proofs.Taking.{put_none, put_more, put_all, sofar_few, sofar_fine}
use Rattle.intake.proofs.strip.put.Goals as goal

pub loop-place-init : goal.loop-place-init
loop-place-init c =
    let made = c.into_iter-place-iterator.ensures.into_iter_gives in
    let whole = ap (λ e. e.iter.rest.now) made ∙ ap (λ r. r.rest.now) c.enumerate-place-items.ensures.source ∙ c.of.ensures in
    let first = ap (λ e. e.count) made ∙ c.enumerate-place-items.ensures.count in
    rw (whole, first) (put_none _ _)

pub unreachable-requires : goal.unreachable-requires
unreachable-requires c = sofar_fine c.loop-place.invariant.sofar c.requires.all _ _ _ c.in-Some.ensures.steps.0 c.in_default.ensures.says

pub bounds-strip-place : goal.bounds-strip-place
bounds-strip-place c = let few = sofar_few c.loop-place.invariant.sofar c.requires.all _ _ c.in-Some.ensures.steps.0 in omega (arith, c.in-Some.ensures.steps.1, c.requires.room)

pub loop-place-preserved : goal.loop-place-preserved
loop-place-preserved c =
    let steps = c.in-Some.ensures.steps in
    let few = sofar_few c.loop-place.invariant.sofar c.requires.all _ _ steps.0 in
    rw (steps.2, steps.1) (put_more c.loop-place.invariant _ _ _ steps.0 c.in-Ok.ensures.says (omega (arith, steps.1, c.requires.room)))

pub returns : goal.returns
returns c = put_all c.loop-place.invariant c.in-None.ensures.steps.0.0 c.requires.all c.requires.room
