use Rattle.std.proofs.Common.{not, cond, vec_items, rules, arith}
use Rattle.std.proofs.lemmas.Iterator.{YieldsList-from_slice, YieldsList-from_map}
use Rattle.std.proofs.lemmas.Iterator.Consumers.{YieldsList-at, fits_by_from_yields_list}
use Rattle.std.proofs.lemmas.List.Sums.{count_by-le-length}
use Rattle.drafts.proofs.draft.Draft.count_parentless.Goals as goal

pub sum-requires-clause-fits : goal.sum-requires-clause-fits
sum-requires-clause-fits c =
    let flags = vec_items c.args.self.now.parented in
    fits_by_from_yields_list (λ flag. cond (not flag) 1 0) flags c.map.result _
    (YieldsList-from_map _ _ (YieldsList-at c.map.ensures.source (YieldsList-from_slice flags cc)) c.map.ensures.closure (λ x r q k. search rules))
    (omega (arith, count_by-le-length not flags))
