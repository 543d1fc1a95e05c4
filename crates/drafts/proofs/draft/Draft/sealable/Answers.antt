use Rattle.std.proofs.Common.{sym, ◌∙◌, arith}
use Rattle.shapes.proofs.Growing.{sealed_grown}
use Rattle.drafts.proofs.draft.Draft.sealable.Goals as goal

pub overflow_add-least_power : goal.overflow_add-least_power
overflow_add-least_power c = omega (arith, c.least_power.ensures.least 64 (omega (arith, c.size.type_inv)))

pub returns : goal.returns
returns c =
    let root = c.last_node-root.ensures in
    let one = sym c.count_parentless.ensures ∙ c.if-count_parentless-ne1.false in
    let sealed = sealed_grown c.args.self.now.kept one (c.size.ensures ∙ root.size) (c.depth.ensures ∙ root.depth) c.least_power.ensures c.if-depth-least_power.false in
    ((one, (sealed.0, tt)), sealed.1)
