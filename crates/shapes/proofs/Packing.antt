-- Packed trees: there is just one for each number of elements, it is balanced, and it is what the recursion builds. Assumes nothing.
use Rattle.std.proofs.Common.{◌≡◌, ℕ, zero, suc, ◌+◌, ◌-◌, ◌*◌, ◌/◌, ◌^◌, ◌<◌, ◌≤◌, List, [], ◌∷◌, ◌++◌, length, take, drop, replicate, sum, sym, refl, ap, ◌∙◌, subst, ⊎_elim, arith, pow_pos}
use native.Mathlib.Nat.{pow-succ'}
use Rattle.std.proofs.lemmas.List.{append_assoc, length-append, length_push, get_or_push, replicate_more, replicate-append-replicate, take_at, drop_at}
use Rattle.std.proofs.lemmas.List.Folds.{sum_by-replicate}
use Rattle.std.proofs.lemmas.List.Sums.{sum_by-append, sum_by_push}
use Rattle.std.proofs.lemmas.Bool.{cases_lt, cases_eq}
use Rattle.shapes.specs.declared.node.Node.{Node}
use Rattle.shapes.specs.declared.node.Node.TheVariants.{Leaf}
use Rattle.shapes.specs.Shapes.{Shape, leaf, concat, number, size, depth, nodes, same, occurs, leaf_sizes, Started}
use Rattle.shapes.specs.Balance.{Balanced}
use Rattle.shapes.specs.Packed.{leaves_for, Halved, Numbered, Packed, PackedAs}
use Rattle.shapes.specs.Nodes.{concat_node, FitsOver, Stands}
use Rattle.shapes.specs.Building.{PacksBehind}
use Rattle.shapes.proofs.Tables.{not_here, stands_root}
use Rattle.shapes.proofs.Hanging.{right_here, stands_append, stands_size, stands_depth, concat_node_of}

sizes_size : (t : Shape) → sum (leaf_sizes t) ≡ size t
sizes_size (leaf i s n) = omega arith
sizes_size (concat i l r) = sum_by-append (λ x. x) (leaf_sizes l) (leaf_sizes r) ∙ omega (arith, sizes_size l, sizes_size r)

pub full_size : (t : Shape) (m x : ℕ) → leaf_sizes t ≡ replicate m 64 ++ (x ∷ []) → size t ≡ 64 * m + x
full_size t m x full = sym (sizes_size t) ∙ ap sum full ∙ sum_by_push (λ y. y) (replicate m 64) x ∙ omega (arith, sum_by-replicate (λ y. y) m 64)

pub halved_nodes : (m : ℕ) (t : Shape) → Halved m t → nodes t + 1 ≡ 2 * m
halved_nodes m (leaf i s n) h = omega arith
halved_nodes m (concat i l r) h = omega (arith, halved_nodes (m - m / 2) l h.1, halved_nodes (m / 2) r h.2)

halved_leaves : (m : ℕ) (t : Shape) → Halved m t → length (leaf_sizes t) ≡ m
halved_leaves m (leaf i s n) h = sym h
halved_leaves m (concat i l r) h = length-append (leaf_sizes l) (leaf_sizes r) ∙ omega (arith, halved_leaves (m - m / 2) l h.1, halved_leaves (m / 2) r h.2)

pub numbered_number : (b : ℕ) (t : Shape) → Numbered b t → number t + 1 ≡ b + nodes t
numbered_number b (leaf i s n) h = omega arith
numbered_number b (concat i l r) h = omega (arith, h.2)

-- the numbers from b on occur once each, and no other occurs
numbered_below : (b k : ℕ) (t : Shape) → Numbered b t → k < b → occurs k t ≡ 0
numbered_below b k (leaf i s n) h lt = not_here k i (λ e. omega arith)
numbered_below b k (concat i l r) h lt = omega (arith, not_here k i (λ e. omega (arith, h.2)), numbered_below b k l h.0 lt, numbered_below (b + nodes l) k r h.1 (omega arith))

numbered_above : (b k : ℕ) (t : Shape) → Numbered b t → b + nodes t ≤ k → occurs k t ≡ 0
numbered_above b k (leaf i s n) h ge = not_here k i (λ e. omega arith)
numbered_above b k (concat i l r) h ge = omega (arith, not_here k i (λ e. omega (arith, h.2)), numbered_above b k l h.0 (omega arith), numbered_above (b + nodes l) k r h.1 (omega arith))

pub numbered_once : (b k : ℕ) (t : Shape) → Numbered b t → b ≤ k → k < b + nodes t → occurs k t ≡ 1
numbered_once b k (leaf i s n) h ge lt = subst (λ j. same k j ≡ 1) (omega arith) (right_here k)
numbered_once b k (concat i l r) h ge lt =
    ⊎_elim
    (λ top. omega (arith, subst (λ j. same j i ≡ 1) (sym top) (right_here i), numbered_above b k l h.0 (omega (arith, h.2)), numbered_above (b + nodes l) k r h.1 (omega (arith, h.2))))
    (λ ne. ⊎_elim
    (λ in_left. omega (arith, not_here k i ne, numbered_once b k l h.0 ge in_left, numbered_below (b + nodes l) k r h.1 in_left))
    (λ in_right. omega (arith, not_here k i ne, numbered_above b k l h.0 in_right, numbered_once (b + nodes l) k r h.1 in_right (omega (arith, h.2))))
    (cases_lt k (b + nodes l)))
    (cases_eq k i)

-- leaves that are halved at each node lie no deeper than a power of two of them needs
halved_depth : (m : ℕ) (t : Shape) → Halved m t → (j : ℕ) → m ≤ 2 ^ j → depth t ≤ j
halved_depth m (leaf i s n) h j le = omega arith
halved_depth m (concat i l r) h zero le = absurd (omega (arith, h.0))
halved_depth m (concat i l r) h (suc j) le =
    let twice = pow-succ' 2 j in
    omega (arith, halved_depth (m - m / 2) l h.1 j (omega arith), halved_depth (m / 2) r h.2 j (omega arith))

pub packed_size : (k : ℕ) (t : Shape) → Packed k t → size t ≡ k
packed_size k t p = full_size t (leaves_for k - 1) (k - 64 * (leaves_for k - 1)) p.full ∙ omega arith

pub packed_balanced : (k : ℕ) (t : Shape) → Packed k t → Balanced t
packed_balanced k t p j power =
    let elements = packed_size k t p in
    omega (arith, halved_depth (leaves_for k) t p.halved j (omega (arith, power.enough, pow_pos j)))

-- lists of which one is put together, with first parts of one length
same_fronts : {A : Type 0} (xs xs' ys ys' : List A) → xs ++ ys ≡ xs' ++ ys' → length xs ≡ length xs' → (xs ≡ xs') × (ys ≡ ys')
same_fronts xs xs' ys ys' e long = (
  sym (take_at xs ys (length xs) refl) ∙ ap (take (length xs)) e ∙ take_at xs' ys' (length xs) (sym long),
  sym (drop_at xs ys (length xs) refl) ∙ ap (drop (length xs)) e ∙ drop_at xs' ys' (length xs) (sym long),
)

-- the halving, the sizes of the leaves, the starts and the numbers leave no choice
no_other : (m n b : ℕ) (t u : Shape) → Halved m t → Halved m u → leaf_sizes t ≡ leaf_sizes u → Started n t → Started n u → Numbered b t → Numbered b u → t ≡ u
no_other m n b (leaf i s k) (leaf j z q) ht hu e st su nt nu =
    let sizes : k ≡ q = cc e in
    ap (λ a. leaf a s k) (nt ∙ sym nu) ∙ ap (λ a. leaf j a k) (st ∙ sym su) ∙ ap (λ a. leaf j z a) sizes
no_other m n b (leaf i s k) (concat j v w) ht hu e st su nt nu = absurd (omega (arith, hu.0))
no_other m n b (concat i l r) (leaf j z q) ht hu e st su nt nu = absurd (omega (arith, ht.0))
no_other m n b (concat i l r) (concat j v w) ht hu e st su nt nu =
    let parts = same_fronts (leaf_sizes l) (leaf_sizes v) (leaf_sizes r) (leaf_sizes w) e (halved_leaves (m - m / 2) l ht.1 ∙ sym (halved_leaves (m - m / 2) v hu.1)) in
    let lefts : l ≡ v = no_other (m - m / 2) n b l v ht.1 hu.1 parts.0 st.0 su.0 nt.0 nu.0 in
    let rights : r ≡ w = no_other (m / 2) (n + size l) (b + nodes l) r w ht.2 hu.2 parts.1 st.1 (subst (λ x. Started (n + size x) w) (sym lefts) su.1) nt.1 (subst (λ x. Numbered (b + nodes x) w) (sym lefts) nu.1) in
    let tops : i ≡ j = nt.2 ∙ ap (λ x. b + nodes x + nodes r) lefts ∙ ap (λ x. b + nodes v + nodes x) rights ∙ sym nu.2 in
    ap (λ a. concat a l r) tops ∙ ap (λ x. concat j x r) lefts ∙ ap (λ x. concat j v x) rights

pub packed_as : (k : ℕ) (t : Shape) → Packed k t → PackedAs k t
packed_as k t p = record {
  packed = p;
  only = λ u q. no_other (leaves_for k) 0 0 u t q.halved p.halved (q.full ∙ sym p.full) q.started p.started q.numbered p.numbered;
  whole = packed_size k t p;
  balanced = packed_balanced k t p;
}

-- one leaf
pub packs_leaf : (start n : ℕ) (xs : List Node) → PacksBehind start n 1 xs (xs ++ (Leaf start n ∷ []))
packs_leaf start n xs = record {
  shape = leaf (length xs) start n;
  added = Leaf start n ∷ [];
  behind = refl;
  long = refl;
  stands = (omega (arith, length_push xs (Leaf start n)), get_or_push xs (Leaf start n) (Leaf 0 0) (length xs) refl);
  halved = refl;
  full = ap (λ k. k ∷ []) (omega arith);
  started = refl;
  numbered = refl;
}

-- the leaves of the left side are all full, and then come those of the right
full_both : (a b n : ℕ) → 0 < a → 0 < b → (replicate (a - 1) 64 ++ ((64 * a - 64 * (a - 1)) ∷ [])) ++ (replicate (b - 1) 64 ++ (((n - 64 * a) - 64 * (b - 1)) ∷ [])) ≡ replicate (a + b - 1) 64 ++ ((n - 64 * (a + b - 1)) ∷ [])
full_both a b n some more =
    ap (λ k. (replicate (a - 1) 64 ++ (k ∷ [])) ++ (replicate (b - 1) 64 ++ (((n - 64 * a) - 64 * (b - 1)) ∷ []))) whole
    ∙ ap (λ ks. ks ++ (replicate (b - 1) 64 ++ (((n - 64 * a) - 64 * (b - 1)) ∷ []))) (replicate_more (a - 1) 64)
    ∙ sym (append_assoc (replicate (a - 1 + 1) 64) (replicate (b - 1) 64) (((n - 64 * a) - 64 * (b - 1)) ∷ []))
    ∙ ap (λ ks. ks ++ (((n - 64 * a) - 64 * (b - 1)) ∷ [])) (replicate-append-replicate (a - 1 + 1) (b - 1) 64)
    ∙ ap (λ k. replicate k 64 ++ (((n - 64 * a) - 64 * (b - 1)) ∷ [])) together
    ∙ ap (λ k. replicate (a + b - 1) 64 ++ (k ∷ [])) rest
  where
    whole : 64 * a - 64 * (a - 1) ≡ 64
    whole = omega arith

    together : a - 1 + 1 + (b - 1) ≡ a + b - 1
    together = omega arith

    rest : (n - 64 * a) - 64 * (b - 1) ≡ n - 64 * (a + b - 1)
    rest = omega arith

-- the topmost node is the last one
packs_number : {start n m : ℕ} {xs ys : List Node} → (p : PacksBehind start n m xs ys) → number p.shape + 1 ≡ length ys
packs_number {start} {n} {m} {xs} {ys} p = omega (arith, ap length p.behind, length-append xs p.added, p.long, numbered_number (length xs) p.shape p.numbered)

-- two nodes of a table are put together under a new one: it stays within bounds, and hangs the packed shape of m leaves behind the nodes of xs
pub record Joins (start n m : ℕ) (xs zs : List Node) (i j : ℕ) : Type 0 where
  pub fits : FitsOver zs i j
  pub packs : PacksBehind start n m xs (zs ++ (concat_node zs i j ∷ []))

-- what was packed on the left and then on the right
module _ {start n m : ℕ} {xs ys zs : List Node} (many : 1 < m) (few : m ≤ 1024) (small : n ≤ 32768) (left : PacksBehind start (64 * (m - m / 2)) (m - m / 2) xs ys) (right : PacksBehind (start + 64 * (m - m / 2)) (n - 64 * (m - m / 2)) (m / 2) ys zs) where
  joins_tops : Joins start n m xs zs (number left.shape) (number right.shape)
  joins_tops =
      let l = left.shape in
      let r = right.shape in
      let a = m - m / 2 in
      let long_left : length ys ≡ length xs + nodes l = ap length left.behind ∙ length-append xs left.added ∙ ap (λ k. length xs + k) left.long in
      let long_right : length zs ≡ length ys + nodes r = ap length right.behind ∙ length-append ys right.added ∙ ap (λ k. length ys + k) right.long in
      let left_there : Stands zs l = subst (λ us. Stands us l) (sym right.behind) (stands_append ys right.added l left.stands) in
      let node = concat_node zs (number l) (number r) in
      let left_size : size l ≡ 64 * a = full_size l (a - 1) (64 * a - 64 * (a - 1)) left.full ∙ omega arith in
      let right_size = full_size r (m / 2 - 1) (n - 64 * a - 64 * (m / 2 - 1)) right.full in
      let left_low : depth l ≤ 10 = halved_depth a l left.halved 10 (omega arith) in
      let right_low : depth r ≤ 10 = halved_depth (m / 2) r right.halved 10 (omega arith) in
      record {
        fits = record {
          left = (stands_root zs l left_there).0;
          right = (stands_root zs r right.stands).0;
          size = omega (arith, stands_size zs l left_there, stands_size zs r right.stands);
          depth = omega (arith, stands_depth zs l left_there, stands_depth zs r right.stands);
        };
        packs = record {
          shape = concat (length zs) l r;
          added = left.added ++ (right.added ++ (node ∷ []));
          behind = ap (λ us. us ++ (node ∷ [])) (right.behind ∙ ap (λ us. us ++ right.added) left.behind) ∙ append_assoc (xs ++ left.added) right.added (node ∷ []) ∙ append_assoc xs left.added (right.added ++ (node ∷ []));
          long = length-append left.added (right.added ++ (node ∷ [])) ∙ omega (arith, length_push right.added node, left.long, right.long);
          stands = (
            (omega (arith, length_push zs node), get_or_push zs node (Leaf 0 0) (length zs) refl ∙ concat_node_of zs (length zs) l r left_there right.stands),
            omega (arith, numbered_number (length xs) l left.numbered),
            omega (arith, numbered_number (length ys) r right.numbered),
            stands_append zs (node ∷ []) l left_there,
            stands_append zs (node ∷ []) r right.stands,
          );
          halved = (many, left.halved, right.halved);
          full = ap (λ ks. ks ++ leaf_sizes r) left.full ∙ ap (λ ks. (replicate (a - 1) 64 ++ ((64 * a - 64 * (a - 1)) ∷ [])) ++ ks) right.full ∙ full_both a (m / 2) n (omega arith) (omega arith) ∙ ap (λ k. replicate (k - 1) 64 ++ ((n - 64 * (k - 1)) ∷ [])) (omega arith);
          started = (left.started, subst (λ k. Started (start + k) r) (sym left_size) right.started);
          numbered = (left.numbered, subst (λ k. Numbered k r) long_left right.numbered, omega arith);
        };
      }

  -- the topmost nodes are the last ones of each side
  pub joins : (i j : ℕ) → i + 1 ≡ length ys → j + 1 ≡ length zs → Joins start n m xs zs i j
  joins i j last_left last_right =
      let at_left : number left.shape ≡ i = omega (arith, packs_number left) in
      let at_right : number right.shape ≡ j = omega (arith, packs_number right) in
      subst (λ k. Joins start n m xs zs k j) at_left (subst (Joins start n m xs zs (number left.shape)) at_right joins_tops)

pub ruleset packing = (packs_leaf, joins)

-- how many nodes are hung behind
pub packs_long : {start n m : ℕ} {xs ys : List Node} → PacksBehind start n m xs ys → length ys + 1 ≡ length xs + 2 * m
packs_long {start} {n} {m} {xs} {ys} p = omega (arith, ap length p.behind, length-append xs p.added, p.long, halved_nodes m p.shape p.halved)

-- behind nothing it is the packed tree
pub packs_all : (k : ℕ) (xs : List Node) → (p : PacksBehind 0 k (leaves_for k) [] xs) → Packed k p.shape
packs_all k xs p = record { halved = p.halved; full = p.full; started = p.started; numbered = p.numbered }
