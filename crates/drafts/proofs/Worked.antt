-- The worked examples. Assumes nothing.
use Rattle.std.proofs.Common.{◌≡◌, ℕ, zero, suc, ◌+◌, ◌-◌, ◌*◌, ◌<◌, ◌≤◌, false, List, [], ◌∷◌, ◌++◌, length, sym, refl, ◌∙◌, ⊎_elim, arith, pow_mono}
use Rattle.std.proofs.lemmas.List.{length_push}
use Rattle.std.proofs.lemmas.List.Sums.{sum_by_push}
use Rattle.std.proofs.lemmas.Bool.{cases_lt}
use Rattle.shapes.specs.Shapes.{Shape}
use Rattle.shapes.specs.Balance.{LeastPower}
use Rattle.shapes.specs.Drafts.{Drafted, nothing, a_leaf, a_concat, has_parent, parentless, own, elements, next_leaf, next_concat}
use Rattle.std.proofs.Math.Bool.{or-false}
use Rattle.shapes.proofs.Drafting.{has_parent_push, newest_parentless}
use Rattle.shapes.proofs.Growing.{balanced_by, root_balanced}
use Rattle.drafts.specs.Examples.{longer, chain, top, Chains}

-- eight is the least power of two that is six or seven at least
eight : (n : ℕ) → 4 < n → n ≤ 8 → LeastPower n 3
eight n above below = record {
  enough = below;
  least = λ j enough. ⊎_elim (λ lt. absurd (omega (arith, pow_mono {i = j} {j = 2} (omega arith)))) (λ ge. ge) (cases_lt j 3);
}

-- a draft grows by a leaf, and a node over what was last and the leaf
grows : (ts : List Shape) → Drafted ts → 0 < length ts → length ts < 1022 → elements ts < 32768 → Drafted (longer ts)
grows ts d some few small =
    let us = ts ++ (next_leaf ts 1 ∷ []) in
    let long : length us ≡ length ts + 1 = length_push ts (next_leaf ts 1) in
    let with_leaf : Drafted us = a_leaf 1 d (omega arith) (omega arith) (omega arith) in
    let last : has_parent us (length ts - 1) ≡ false = has_parent_push ts (next_leaf ts 1) (length ts - 1) ∙ or-false (has_parent ts (length ts - 1)) ∙ newest_parentless d (length ts - 1) (omega arith) in
    let new : has_parent us (length ts) ≡ false = newest_parentless with_leaf (length ts) (sym long) in
    a_concat (length ts - 1) (length ts) with_leaf (omega arith, last) (omega arith, new) (λ e. omega arith) (omega arith)

-- a chain of m leaves behind the first has two nodes for each
record Chained (m : ℕ) : Type 0 where
  drafted : Drafted (chain m)
  nodes : length (chain m) ≡ 2 * m + 1
  leaves : elements (chain m) ≡ m + 1

chained : (m : ℕ) → m < 500 → Chained m
chained zero h = record { drafted = a_leaf 1 nothing (omega arith) (omega arith) (omega arith); nodes = refl; leaves = refl }
chained (suc m) h =
    let c = chained m (omega arith) in
    let ts = chain m in
    let us = ts ++ (next_leaf ts 1 ∷ []) in
    let top_node = next_concat us (length ts - 1) (length ts) in
    record {
      drafted = grows ts c.drafted (omega (arith, c.nodes)) (omega (arith, c.nodes)) (omega (arith, c.leaves));
      nodes = omega (arith, c.nodes, length_push us top_node, length_push ts (next_leaf ts 1));
      leaves = omega (arith, c.leaves, sum_by_push own us top_node, sum_by_push own ts (next_leaf ts 1));
    }

six_root : parentless (chain 5) ≡ top (chain 5) ∷ []
six_root = refl

seven_root : parentless (chain 6) ≡ top (chain 6) ∷ []
seven_root = refl

pub chains : Chains
chains = record {
  six = (chained 5 (omega arith)).drafted;
  six_deep = refl;
  six_sealed = (refl, (root_balanced (chain 5) (top (chain 5)) six_root (balanced_by (top (chain 5)) 3 (eight 6 (omega arith) (omega arith)) (omega arith)), tt));
  seven = (chained 6 (omega arith)).drafted;
  seven_deep = refl;
  seven_refused = (refl, λ all. omega (arith, all (top (chain 6)) seven_root 3 (eight 7 (omega arith) (omega arith))));
}
