-- The way from a node down to the leaf of a position. Assumes nothing.
use Rattle.std.proofs.Common.{◌≡◌, ℕ, suc, ◌+◌, ◌-◌, ◌<◌, ◌≤◌, List, sym, refl, ◌∙◌, subst, ⊎_elim, add-one, arith}
use Rattle.std.proofs.lemmas.Bool.{cases_lt}
use Rattle.shapes.specs.declared.node.Node.{Node}
use Rattle.shapes.specs.declared.node.Node.TheVariants.{Leaf, Concat}
use Rattle.shapes.specs.Shapes.{Shape, leaf, concat, number, size}
use Rattle.shapes.specs.Nodes.{node_at, size_of, depth_of, Stands}
use Rattle.shapes.specs.Places.{Placed, here, on_left, on_right, Found, FoundOnly}
use Rattle.shapes.specs.Building.{Hangs, FoundAt}
use Rattle.shapes.proofs.Reading.{placed_level, placed_only}
use Rattle.shapes.proofs.Hanging.{Parts, hangs_leaf, hangs_concat, stands_only, depth_number}

pub found_leaf : {xs : List Node} {at s n p : ℕ} → Hangs xs at → node_at xs at ≡ Leaf s n → p < size_of (node_at xs at) → FoundAt xs at p (s + p) 1
found_leaf {xs} {at} {s} {n} {p} h e lt t stands named =
    let is : t ≡ leaf at s n = stands_only xs t h.shape stands h.stands (named ∙ sym h.named) ∙ hangs_leaf h e in
    let within : p < n = subst (λ x. p < size_of x) e lt in
    subst (λ u. Found u p (s + p) 1) (sym is) (record { level = 0; placed = here within; counted = refl })

module _ {xs : List Node} {at left right : ℕ} (parts : Parts xs at left right) where
  whole : (t : Shape) → Stands xs t → number t ≡ at → t ≡ concat at parts.l.shape parts.r.shape
  whole t stands named = stands_only xs t (concat at parts.l.shape parts.r.shape) stands parts.stands named

  found_left : (p place met : ℕ) → FoundAt xs left p place met → FoundAt xs at p place (met + 1)
  found_left p place met below t stands named =
      let f = below parts.l.shape parts.l.stands parts.l.named in
      subst (λ u. Found u p place (met + 1)) (sym (whole t stands named))
      (record { level = f.level + 1; placed = subst (λ k. Placed (concat at parts.l.shape parts.r.shape) p place k) (sym (add-one f.level)) (on_left f.placed); counted = omega (arith, f.counted) })

  found_right : (p place met before : ℕ) → before ≡ size_of (node_at xs left) → before ≤ p → FoundAt xs right (p - before) place met → FoundAt xs at p place (met + 1)
  found_right p place met before e le below t stands named =
      let f = below parts.r.shape parts.r.stands parts.r.named in
      let back : size parts.l.shape + (p - before) ≡ p = omega (arith, parts.left_size) in
      subst (λ u. Found u p place (met + 1)) (sym (whole t stands named))
      (record { level = f.level + 1; placed = subst (λ k. Placed (concat at parts.l.shape parts.r.shape) p place k) (sym (add-one f.level)) (subst (λ q. Placed (concat at parts.l.shape parts.r.shape) q place (suc f.level)) back (on_right f.placed)); counted = omega (arith, f.counted) })

-- the child in which a position lies, and its position there
pub record Child (xs : List Node) (at p child below : ℕ) : Type 0 where
  pub hangs : Hangs xs child
  pub less : depth_of (node_at xs child) < depth_of (node_at xs at)
  pub within : below < size_of (node_at xs child)
  pub before : child < at
  pub found : (place met : ℕ) → FoundAt xs child below place met → FoundAt xs at p place (met + 1)

pub child_of : {xs : List Node} {at left right n levels p before child below : ℕ} → Hangs xs at → node_at xs at ≡ Concat left right n levels → p < size_of (node_at xs at) → before ≡ size_of (node_at xs left) → (p < before → (child ≡ left) × (below ≡ p)) → (before ≤ p → (child ≡ right) × (below ≡ p - before)) → Child xs at p child below
child_of {xs} {at} {left} {right} {n} {levels} {p} {before} {child} {below} h is within e on_l on_r =
    let parts = hangs_concat h is in
    ⊎_elim
    (λ lt. subst (λ k. Child xs at p k below) (sym (on_l lt).0) (subst (Child xs at p left) (sym (on_l lt).1)
    (record { hangs = parts.l; less = parts.left_less; within = omega arith; before = parts.left_before; found = found_left parts p })))
    (λ ge. subst (λ k. Child xs at p k below) (sym (on_r ge).0) (subst (Child xs at p right) (sym (on_r ge).1)
    (record { hangs = parts.r; less = parts.right_less; within = omega (arith, parts.left_size, parts.right_size, parts.whole_size); before = parts.right_before; found = λ place met. found_right parts p place met before e ge })))
    (cases_lt p before)

-- no more nodes are met than stand before the first of them in the table, and that one
pub found_met : {xs : List Node} {at p place met : ℕ} → Hangs xs at → FoundAt xs at p place met → met ≤ at + 1
found_met {xs} {at} h found =
    let f = found h.shape h.stands h.named in
    omega (arith, f.counted, placed_level f.placed, depth_number xs h.shape h.stands, h.named)

pub found_only : (t : Shape) (p place met : ℕ) → Found t p place met → FoundOnly t p place met
found_only t p place met f = record {
  found = f;
  only = λ a n g. let one = placed_only t g.placed f.placed in (one.0, omega (arith, f.counted, g.counted, one.1));
}
