-- Shapes that stand in a table whose nodes change. Assumes nothing.
use Rattle.std.proofs.Common.{◌≡◌, ℕ, ◌+◌, ◌^◌, ◌<◌, ◌≤◌, max, cond, List, ◌++◌, length, sym, refl, ap, ◌∙◌, subst, arith}
use Rattle.std.proofs.lemmas.List.{length-append, get_or_append_left}
use Rattle.std.proofs.lemmas.Bool.{eq-eqb}
use Rattle.shapes.specs.declared.node.Node.{Node}
use Rattle.shapes.specs.declared.node.Node.TheVariants.{Leaf, Concat}
use Rattle.shapes.specs.Shapes.{Shape, leaf, concat, number, size, depth, same, occurs, end, restarted}
use Rattle.shapes.specs.Nodes.{node_at, node_of, size_of, depth_of, concat_node, shape_at, shapes, Stands}
use Rattle.shapes.specs.Building.{Hangs, Restarts, RestartsAt}
use Rattle.shapes.proofs.Reading.{restarted_size, restarted_depth, restarted_number, restarted_occurs}
use Rattle.shapes.proofs.Tables.{stands_root, stands_shape, not_here}

pub right_here : (k : ℕ) → same k k ≡ 1
right_here k = ap {B = ℕ} (λ b. cond b 1 0) (eq-eqb k k refl)

-- the topmost node of a shape occurs in it
pub occurs_root : (t : Shape) → 0 < occurs (number t) t
occurs_root (leaf i s n) = omega (arith, right_here i)
occurs_root (concat i l r) = omega (arith, right_here i)

-- the size and the depth that a node keeps are those of its shape
pub stands_size : (xs : List Node) (t : Shape) → Stands xs t → size_of (node_at xs (number t)) ≡ size t
stands_size xs (leaf i s n) h = ap size_of h.1
stands_size xs (concat i l r) h = ap size_of h.0.1

pub stands_depth : (xs : List Node) (t : Shape) → Stands xs t → depth_of (node_at xs (number t)) ≡ depth t
stands_depth xs (leaf i s n) h = ap depth_of h.1
stands_depth xs (concat i l r) h = ap depth_of h.0.1

-- the node over two shapes that stand there is that of their concatenation
pub concat_node_of : (xs : List Node) (i : ℕ) (l r : Shape) → Stands xs l → Stands xs r → concat_node xs (number l) (number r) ≡ node_of (concat i l r)
concat_node_of xs i l r hl hr =
    let sizes : size_of (node_at xs (number l)) + size_of (node_at xs (number r)) ≡ size l + size r = omega (arith, stands_size xs l hl, stands_size xs r hr) in
    let depths : max (depth_of (node_at xs (number l))) (depth_of (node_at xs (number r))) + 1 ≡ max (depth l) (depth r) + 1 = omega (arith, stands_depth xs l hl, stands_depth xs r hr) in
    ap (λ z. Concat (number l) (number r) z (max (depth_of (node_at xs (number l))) (depth_of (node_at xs (number r))) + 1)) sizes ∙ ap (λ d. Concat (number l) (number r) (size l + size r) d) depths

-- a shape stands where its nodes are as they were
pub stands_kept : (xs ys : List Node) (t : Shape) → Stands xs t → length xs ≤ length ys → ((k : ℕ) → 0 < occurs k t → k < length xs → node_at ys k ≡ node_at xs k) → Stands ys t
stands_kept xs ys (leaf i s n) h long same = (omega arith, same i (occurs_root (leaf i s n)) h.0 ∙ h.1)
stands_kept xs ys (concat i l r) h long same = (
  (omega arith, same i (occurs_root (concat i l r)) h.0.0 ∙ h.0.1),
  h.1,
  h.2,
  stands_kept xs ys l h.3 long (λ k got. same k (omega arith)),
  stands_kept xs ys r h.4 long (λ k got. same k (omega arith)),
)

pub stands_append : (xs ys : List Node) (t : Shape) → Stands xs t → Stands (xs ++ ys) t
stands_append xs ys t h = stands_kept xs (xs ++ ys) t h (omega (arith, length-append xs ys)) (λ k got lt. get_or_append_left xs ys (Leaf 0 0) k lt)

-- one shape only stands at a number
pub stands_only : (xs : List Node) (t u : Shape) → Stands xs t → Stands xs u → number t ≡ number u → t ≡ u
stands_only xs t u ht hu e = sym (stands_shape xs t ht) ∙ ap (shape_at (shapes xs)) e ∙ stands_shape xs u hu

-- nodes that occur stand within the table
pub occurs_within : (xs : List Node) (t : Shape) → Stands xs t → (k : ℕ) → length xs ≤ k → occurs k t ≡ 0
occurs_within xs (leaf i s n) h k ge = not_here k i (λ e. omega (arith, h.0))
occurs_within xs (concat i l r) h k ge = omega (arith, not_here k i (λ e. omega (arith, h.0.0)), occurs_within xs l h.3 k ge, occurs_within xs r h.4 k ge)

-- a shape is at most as deep as its number says, since children come before their parents
pub depth_number : (xs : List Node) (t : Shape) → Stands xs t → depth t ≤ number t
depth_number xs (leaf i s n) h = omega arith
depth_number xs (concat i l r) h = omega (arith, h.1, h.2, depth_number xs l h.3, depth_number xs r h.4)

-- A leaf is read at a number where a shape stands: the shape is that leaf.
is_leaf : (xs : List Node) (t : Shape) (at s n : ℕ) → node_at xs at ≡ Leaf s n → Stands xs t → number t ≡ at → t ≡ leaf at s n
is_leaf xs (leaf i b z) at s n e h named =
    let both : Leaf b z ≡ Leaf s n = sym h.1 ∙ ap (node_at xs) named ∙ e in
    let starts : b ≡ s = cc both in
    let sizes : z ≡ n = cc both in
    ap (λ k. leaf k b z) named ∙ ap (λ k. leaf at k z) starts ∙ ap (λ k. leaf at s k) sizes
is_leaf xs (concat i l r) at s n e h named =
    let both : node_of (concat i l r) ≡ Leaf s n = sym h.0.1 ∙ ap (node_at xs) named ∙ e in
    let no : ◌≡◌ {A = ℕ} 0 1 = cc both in
    absurd (omega arith)

-- A concatenation is read there: the shape is one, of what hangs at the numbers of its two children.
pub record Parts (xs : List Node) (at left right : ℕ) : Type 0 where
  pub l : Hangs xs left
  pub r : Hangs xs right
  pub stands : Stands xs (concat at l.shape r.shape)
  pub once : (k : ℕ) → occurs k (concat at l.shape r.shape) ≤ 1
  pub left_less : depth_of (node_at xs left) < depth_of (node_at xs at)
  pub right_less : depth_of (node_at xs right) < depth_of (node_at xs at)
  pub left_size : size_of (node_at xs left) ≡ size l.shape
  pub right_size : size_of (node_at xs right) ≡ size r.shape
  pub whole_size : size_of (node_at xs at) ≡ size l.shape + size r.shape
  pub in_table : at < length xs
  pub left_before : left < at
  pub right_before : right < at

parts_of : (xs : List Node) (t : Shape) (at left right n levels : ℕ) → node_at xs at ≡ Concat left right n levels → Stands xs t → number t ≡ at → ((k : ℕ) → occurs k t ≤ 1) → end t < 2 ^ 64 → Parts xs at left right
parts_of xs (leaf i b z) at left right n levels e h named once fits =
    let both : Leaf b z ≡ Concat left right n levels = sym h.1 ∙ ap (node_at xs) named ∙ e in
    let no : ◌≡◌ {A = ℕ} 0 1 = cc both in
    absurd (omega arith)
parts_of xs (concat i l r) at left right n levels e h named once fits =
    let both : node_of (concat i l r) ≡ Concat left right n levels = sym h.0.1 ∙ ap (node_at xs) named ∙ e in
    let el : number l ≡ left = cc both in
    let er : number r ≡ right = cc both in
    let there : Stands xs (concat at l r) = subst (λ k. Stands xs (concat k l r)) named h in
    let deep_left : depth_of (node_at xs left) ≡ depth l = subst (λ k. depth_of (node_at xs k) ≡ depth l) el (stands_depth xs l h.3) in
    let deep_right : depth_of (node_at xs right) ≡ depth r = subst (λ k. depth_of (node_at xs k) ≡ depth r) er (stands_depth xs r h.4) in
    let deep : depth_of (node_at xs at) ≡ max (depth l) (depth r) + 1 = stands_depth xs (concat at l r) there in
    record {
      l = record { shape = l; stands = h.3; named = el; once = λ k. omega (arith, once k); fits = omega arith };
      r = record { shape = r; stands = h.4; named = er; once = λ k. omega (arith, once k); fits = omega arith };
      stands = there;
      once = subst (λ j. (k : ℕ) → occurs k (concat j l r) ≤ 1) named once;
      left_less = omega arith;
      right_less = omega arith;
      left_size = subst (λ k. size_of (node_at xs k) ≡ size l) el (stands_size xs l h.3);
      right_size = subst (λ k. size_of (node_at xs k) ≡ size r) er (stands_size xs r h.4);
      whole_size = stands_size xs (concat at l r) there;
      in_table = there.0.0;
      left_before = omega (arith, h.1);
      right_before = omega (arith, h.2);
    }

pub hangs_leaf : {xs : List Node} {at s n : ℕ} → (h : Hangs xs at) → node_at xs at ≡ Leaf s n → h.shape ≡ leaf at s n
hangs_leaf {xs} {at} {s} {n} h e = is_leaf xs h.shape at s n e h.stands h.named

pub hangs_concat : {xs : List Node} {at left right n levels : ℕ} → Hangs xs at → node_at xs at ≡ Concat left right n levels → Parts xs at left right
hangs_concat {xs} {at} {left} {right} {n} {levels} h e = parts_of xs h.shape at left right n levels e h.stands h.named h.once h.fits

pub hangs_within : {xs : List Node} {at : ℕ} → Hangs xs at → at < length xs
hangs_within {xs} {at} h = omega (arith, stands_root xs h.shape h.stands, h.named)

pub hangs_size : {xs : List Node} {at : ℕ} → (h : Hangs xs at) → size_of (node_at xs at) ≡ size h.shape
hangs_size {xs} {at} h = subst (λ k. size_of (node_at xs k) ≡ size h.shape) h.named (stands_size xs h.shape h.stands)

-- both children are started anew, the right one behind the elements of the left
module _ {xs : List Node} {at left right : ℕ} (parts : Parts xs at left right) (ys : List Node) (n : ℕ) (first : RestartsAt left n xs ys) where
  l : Shape
  l = parts.l.shape

  r : Shape
  r = parts.r.shape

  on_left : Restarts l n xs ys
  unfolding l
  on_left = first parts.l.shape parts.l.stands parts.l.named

  -- the right child is as it was
  pub right_still : Hangs ys right
  unfolding l r
  right_still = record {
    shape = parts.r.shape;
    stands = stands_kept xs ys r parts.r.stands (omega (arith, on_left.long)) (λ k got lt. on_left.others k (omega (arith, parts.once k)));
    named = parts.r.named;
    once = parts.r.once;
    fits = parts.r.fits;
  }

  pub right_still_node : node_at ys right ≡ node_at xs right
  unfolding l r
  right_still_node = on_left.others right (omega (arith, parts.once right, subst (λ k. 0 < occurs k r) parts.r.named (occurs_root r)))

  restarts_both : (zs : List Node) → Restarts r (n + size l) ys zs → Restarts (concat at l r) n xs zs
  unfolding l r
  restarts_both zs after =
      let h = parts.stands in
      let once = parts.once in
      let here : occurs at (concat at l r) ≤ 1 = once at in
      let top = right_here at in
      let sizes = ap (λ k. k + size (restarted (n + size l) r)) (restarted_size n l) ∙ ap (λ k. size l + k) (restarted_size (n + size l) r) in
      let depths = ap (λ k. max k (depth (restarted (n + size l) r)) + 1) (restarted_depth n l) ∙ ap (λ k. max (depth l) k + 1) (restarted_depth (n + size l) r) in
      let node : node_of (concat at (restarted n l) (restarted (n + size l) r)) ≡ node_of (concat at l r) = cc (restarted_number n l, restarted_number (n + size l) r, sizes, depths) in
      let nl = restarted_number n l in
      let nr = restarted_number (n + size l) r in
      record {
        stands = (
          (omega (arith, h.0.0, on_left.long, after.long), after.others at (omega arith) ∙ on_left.others at (omega arith) ∙ h.0.1 ∙ sym node),
          omega (arith, h.1),
          omega (arith, h.2),
          stands_kept ys zs (restarted n l) on_left.stands (omega (arith, after.long)) (λ k got lt. after.others k (omega (arith, once k, restarted_occurs k n l))),
          after.stands,
        );
        others = λ k none. after.others k (omega arith) ∙ on_left.others k (omega arith);
        long = after.long ∙ on_left.long;
      }

  pub concat_restarts : (zs : List Node) (behind : ℕ) → behind ≡ n + size_of (node_at xs left) → RestartsAt right behind ys zs → RestartsAt at n xs zs
  unfolding l r right_still
  concat_restarts zs behind e second t stands named =
      let is : t ≡ concat at l r = stands_only xs t (concat at l r) stands parts.stands named in
      let after : Restarts r behind ys zs = second r right_still.stands parts.r.named in
      subst (λ u. Restarts u n xs zs) (sym is) (restarts_both zs (subst (λ k. Restarts r k ys zs) (e ∙ ap (λ k. n + k) parts.left_size) after))
