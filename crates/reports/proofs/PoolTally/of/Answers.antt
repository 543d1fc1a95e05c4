use Rattle.std.proofs.Common.{◌≡◌, count_by, fold, sym, refl, ap, ◌∙◌, rules, tests}
use Rattle.std.proofs.lemmas.Iterator.{YieldsList-from_slice}
use Rattle.std.proofs.lemmas.Iterator.Consumers.{YieldsList-from_filter, fold_from_yields_List}
use Rattle.std.proofs.lemmas.List.Sums.{length-filter}
use Rattle.lines.specs.Lines.{same_pool}
use Rattle.base.proofs.Money.{same_cents}
use Rattle.reports.specs.Pools.{lines_of}
use Rattle.reports.proofs.Totals.{plus, adds_up}
use Rattle.reports.proofs.PoolTally.of.Goals as goal

pub returns : goal.returns
returns c =
    let count : c.count.result ≡ count_by (λ l. same_pool c.args.pool l.pool) c.args.lines.now = search rules in
    let ls = lines_of c.args.pool c.args.lines.now in
    let total : c.fold-total.result ≡ fold plus c.new.result ls =
    fold_from_yields_List {all = ls} _ plus c.new.result c.fold-total.result c.fold-total.ensures.ran
    (YieldsList-from_filter _ (λ l. same_pool c.args.pool l.pool) (YieldsList-from_slice c.args.lines.now (cc)) c.filter.ensures.closure (λ x r q k. search (rules, tests)))
    (λ a x b q k. (search rules, same_cents b (plus a x.now) (search rules))) in
    record {
      pool = refl;
      counted = count ∙ sym (length-filter _ c.args.lines.now);
      summed = ap (λ t. t.cents) total ∙ adds_up c.new.result ls (search rules);
    }
