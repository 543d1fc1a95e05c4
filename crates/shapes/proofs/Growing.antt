-- The tables that are a tree's: a single leaf, a packed tree, a tree whose leaves were started anew, a sealed draft. Assumes nothing.
use Rattle.std.proofs.Common.{◌≡◌, ℕ, zero, suc, ◌+◌, ◌-◌, ◌*◌, ◌<◌, ◌≤◌, max, Bool, List, [], ◌∷◌, ◌++◌, length, replicate, sym, ap, ◌∙◌, subst, ⊎_elim, arith}
use mathlib.Core.Logic.{∥∥₁_elim}
use Rattle.std.proofs.Props.{props}
use Rattle.std.proofs.lemmas.Bool.{cases_lt}
use Rattle.shapes.specs.declared.node.Node.{Node}
use Rattle.shapes.specs.Shapes.{Shape, leaf, concat, number, size, depth, occurs, leaf_sizes, widest, end, Started, Alike, restarted}
use Rattle.shapes.specs.Balance.{LeastPower, Balanced}
use Rattle.shapes.specs.Packed.{leaves_for, Packed, PackedAs}
use Rattle.shapes.specs.Nodes.{node_at, size_of, shape_at, shapes, last_shape, Sound, Stands}
use Rattle.shapes.specs.Trees.{Grown}
use Rattle.shapes.specs.Building.{Hangs, FoundAt, Restarts, RestartsAt, PacksBehind}
use Rattle.shapes.specs.Places.{FoundOnly}
use Rattle.shapes.specs.Drafts.{parentless, Kept}
use Rattle.shapes.proofs.Tables.{length_shapes, sound_listed, listed_number, stands_at, stands_shape, stands_sound}
use Rattle.shapes.proofs.Reading.{started_end, restarted_size, restarted_depth, restarted_number, restarted_widest, restarted_occurs, restarted_started, restarted_alike}
use Rattle.shapes.proofs.Hanging.{occurs_within, hangs_size}
use Rattle.shapes.proofs.Finding.{found_only}
use Rattle.shapes.proofs.Packing.{numbered_number, numbered_once, packed_size, packed_balanced, packed_as, packs_all, packs_long}
use Rattle.shapes.proofs.Drafting.{root_size, root_end, root_once, narrow_at, drafted_few, drafted_small}
use Rattle.shapes.proofs.Keeping.{kept_root}

-- a table grows with a shape that has all its nodes, the last one on top
record Holds (xs : List Node) (t : Shape) : Type 0 where
  stands : Stands xs t
  last : number t + 1 ≡ length xs
  few : length xs ≤ 1023
  once : (k : ℕ) → k < length xs → occurs k t ≡ 1
  balanced : Balanced t
  small : size t ≤ 32768
  narrow : widest t ≤ 64
  ended : end t ≡ size t

holds_shape : {xs : List Node} {t : Shape} → Holds xs t → last_shape xs ≡ t
holds_shape {xs} {t} h = ap (shape_at (shapes xs)) at ∙ stands_shape xs t h.stands
  where
    at : length xs - 1 ≡ number t
    at = omega (arith, h.last)

holds_grown : {xs : List Node} {t : Shape} → Holds xs t → Grown xs
holds_grown {xs} {t} h =
    let is : t ≡ last_shape xs = sym (holds_shape h) in
    record {
      some = omega (arith, h.last);
      few = h.few;
      sound = stands_sound xs t h.stands (λ k lt. omega (arith, h.once k lt));
      rooted = subst (λ u. (k : ℕ) → k < length xs → occurs k u ≡ 1) is h.once;
      balanced = subst Balanced is h.balanced;
      small = subst (λ u. size u ≤ 32768) is h.small;
      narrow = subst (λ u. widest u ≤ 64) is h.narrow;
      ended = subst (λ u. end u ≡ size u) is h.ended;
    }

-- what stands in a sound table that is not empty: the shape of its last node
pub last_stands : (xs : List Node) → Sound xs → 0 < length xs → Stands xs (last_shape xs)
last_stands xs sound some = stands_at xs sound (length xs - 1) (omega arith)

pub last_number : (xs : List Node) → Sound xs → 0 < length xs → number (last_shape xs) ≡ length xs - 1
last_number xs sound some = listed_number (shapes xs) (sound_listed xs sound) (length xs - 1) (omega (arith, length_shapes xs))

-- what stands in a tree
pub grown_stands : {xs : List Node} → Grown xs → Stands xs (last_shape xs)
grown_stands {xs} g = last_stands xs g.sound g.some

pub grown_number : {xs : List Node} → Grown xs → number (last_shape xs) ≡ length xs - 1
grown_number {xs} g = last_number xs g.sound g.some

pub grown_hangs : {xs : List Node} → Grown xs → Hangs xs (length xs - 1)
grown_hangs {xs} g = record {
  shape = last_shape xs;
  stands = grown_stands g;
  named = grown_number g;
  once = λ k. ⊎_elim (λ lt. omega (arith, g.rooted k lt)) (λ ge. omega (arith, occurs_within xs (last_shape xs) (grown_stands g) k ge)) (cases_lt k (length xs));
  fits = omega (arith, g.ended, g.small);
}

-- the same, where the table and the number of its last node go by other terms
pub record Under (xs zs : List Node) (i : ℕ) : Type 0 where
  pub hangs : Hangs zs i
  pub stands : Stands zs (last_shape xs)
  pub named : number (last_shape xs) ≡ i
  pub whole : size_of (node_at zs i) ≡ size (last_shape xs)

pub grown_under : {xs : List Node} → Grown xs → (zs : List Node) (i : ℕ) → zs ≡ xs → i + 1 ≡ length xs → Under xs zs i
unfolding grown_hangs
grown_under {xs} g zs i table last =
    let at : length xs - 1 ≡ i = omega arith in
    subst (λ us. Under xs us i) (sym table) (subst (Under xs xs) at
    (record { hangs = grown_hangs g; stands = grown_stands g; named = grown_number g; whole = hangs_size (grown_hangs g) }))

-- what is found below the root is found in the whole
pub found_under : {xs : List Node} → Grown xs → (zs : List Node) (i p place met : ℕ) → zs ≡ xs → i + 1 ≡ length xs → FoundAt zs i p place met → FoundOnly (last_shape xs) p place met
found_under {xs} g zs i p place met table last found =
    let under = grown_under g zs i table last in
    found_only (last_shape xs) p place met (found (last_shape xs) under.stands under.named)

-- ---- packed trees

top : List ℕ → ℕ
top [] = 0
top (x ∷ xs) = max x (top xs)

top_append : (xs ys : List ℕ) → top (xs ++ ys) ≡ max (top xs) (top ys)
unfolding top
top_append [] ys = omega arith
top_append (x ∷ xs) ys = omega (arith, top_append xs ys)

widest_top : (t : Shape) → widest t ≡ top (leaf_sizes t)
unfolding top
widest_top (leaf i s n) = omega arith
widest_top (concat i l r) = omega (arith, widest_top l, widest_top r, top_append (leaf_sizes l) (leaf_sizes r))

top_full : (m : ℕ) → top (replicate m 64) ≤ 64
unfolding top
top_full zero = omega arith
top_full (suc m) = omega (arith, top_full m)

packed_narrow : (k : ℕ) (t : Shape) → Packed k t → widest t ≤ 64
unfolding top
packed_narrow k t p =
    let m = leaves_for k - 1 in
    omega (arith, widest_top t, ap top p.full, top_append (replicate m 64) ((k - 64 * m) ∷ []), top_full m)

module _ {k m : ℕ} {was xs : List Node} (packs : PacksBehind 0 k m was xs) (none : was ≡ []) (leaves : m ≡ leaves_for k) (small : k ≤ 32768) where
  p : PacksBehind 0 k (leaves_for k) [] xs
  p = subst (λ us. PacksBehind 0 k (leaves_for k) us xs) none (subst (λ n. PacksBehind 0 k n was xs) leaves packs)

  packed : Packed k p.shape
  packed = packs_all k xs p

  packed_holds : Holds xs p.shape
  packed_holds = record {
    stands = p.stands;
    last = omega (arith, numbered_number 0 p.shape p.numbered, ap length p.behind, p.long);
    few = omega (arith, packs_long p);
    once = λ j lt. numbered_once 0 j p.shape p.numbered (omega arith) (omega (arith, ap length p.behind, p.long));
    balanced = packed_balanced k p.shape packed;
    small = omega (arith, packed_size k p.shape packed);
    narrow = packed_narrow k p.shape packed;
    ended = started_end 0 p.shape p.started ∙ omega arith;
  }

  pub grown_packed : Grown xs
  grown_packed = holds_grown packed_holds

  pub packed_shape : PackedAs k (last_shape xs)
  packed_shape = subst (PackedAs k) (sym (holds_shape packed_holds)) (packed_as k p.shape packed)

-- ---- leaves started anew

pub record Anew (xs ys : List Node) : Type 0 where
  pub grown : Grown ys
  pub alike : Alike (last_shape xs) (last_shape ys)
  pub started : Started 0 (last_shape ys)

-- the table zs is xs, and i the number of its last node
pub grown_anew : {xs : List Node} → Grown xs → (zs ys : List Node) (i : ℕ) → zs ≡ xs → i + 1 ≡ length xs → RestartsAt i 0 zs ys → Anew xs ys
grown_anew {xs} g zs ys i table last restarts =
    let t = last_shape xs in
    let under = grown_under g zs i table last in
    let r : Restarts t 0 zs ys = restarts t under.stands under.named in
    let long : length ys ≡ length xs = r.long ∙ ap length table in
    let anew : Holds ys (restarted 0 t) = record {
      stands = r.stands;
      last = omega (arith, restarted_number 0 t, grown_number g, g.some);
      few = omega (arith, g.few);
      once = λ k lt. restarted_occurs k 0 t ∙ g.rooted k (omega arith);
      balanced = λ k power. omega (arith, restarted_depth 0 t, g.balanced k (subst (λ n. LeastPower n k) (restarted_size 0 t) power));
      small = omega (arith, restarted_size 0 t, g.small);
      narrow = omega (arith, restarted_widest 0 t, g.narrow);
      ended = started_end 0 (restarted 0 t) (restarted_started 0 t) ∙ omega arith;
    } in
    record {
      grown = holds_grown anew;
      alike = subst (Alike t) (sym (holds_shape anew)) (restarted_alike 0 t);
      started = subst (Started 0) (sym (holds_shape anew)) (restarted_started 0 t);
    }

-- ---- sealed drafts

-- a shape is balanced by the least power of its size
pub balanced_by : (t : Shape) (k : ℕ) → LeastPower (size t) k → depth t ≤ k + 2 → Balanced t
balanced_by t k power low j other = omega (arith, power.least j other.enough)

-- what holds of the one parentless node holds of whatever is the one parentless node
pub root_balanced : (ts : List Shape) (t : Shape) → parentless ts ≡ t ∷ [] → Balanced t → (u : Shape) → parentless ts ≡ u ∷ [] → Balanced u
root_balanced ts t root balanced u other =
    let both : t ∷ [] ≡ u ∷ [] = sym root ∙ other in
    let is : t ≡ u = cc both in
    subst Balanced is balanced

one_node : (ts : List Shape) → length (parentless ts) ≡ 1 → 0 < length ts
one_node [] e = absurd (omega arith)
one_node (u ∷ us) e = omega arith

-- a draft that is kept, with one parentless node: a tree where that is balanced
module _ {xs : List Node} {fs : List Bool} (k : Kept xs fs) (one : length (parentless (shapes xs)) ≡ 1) where
  pub sealed_some : 0 < length xs
  sealed_some = omega (arith, one_node (shapes xs) one, length_shapes xs)

  pub grown_sealed : Balanced (last_shape xs) → Grown xs
  grown_sealed balanced =
      let t = last_shape xs in
      let root = kept_root k one in
      ∥∥₁_elim k.drafted (hlevel props)
      (λ d. record {
        some = sealed_some;
        few = omega (arith, drafted_few d, length_shapes xs);
        sound = k.sound;
        rooted = λ i lt. root_once d t root i (omega (arith, length_shapes xs));
        balanced = balanced;
        small = omega (arith, root_size d t root, drafted_small d);
        narrow = narrow_at d (length xs - 1) (omega (arith, sealed_some, length_shapes xs));
        ended = root_end d t root;
      })

  -- what is balanced is told by the least power of the size, where size and depth go by other terms
  module _ {n deep p : ℕ} (sized : n ≡ size (last_shape xs)) (levels : deep ≡ depth (last_shape xs)) (power : LeastPower n p) where
    pub sealed_deep : p + 2 < deep → ((t : Shape) → parentless (shapes xs) ≡ t ∷ [] → Balanced t) → ⊥
    sealed_deep over all = omega (arith, all (last_shape xs) (kept_root k one) p (subst (λ m. LeastPower m p) sized power))

    sealed_last : deep ≤ p + 2 → Balanced (last_shape xs)
    sealed_last low j other = omega (arith, power.least j (omega (arith, other.enough)))

    pub sealed_grown : deep ≤ p + 2 → ((t : Shape) → parentless (shapes xs) ≡ t ∷ [] → Balanced t) × (Grown xs × (parentless (shapes xs) ≡ last_shape xs ∷ []))
    sealed_grown low = (root_balanced (shapes xs) (last_shape xs) (kept_root k one) (sealed_last low), (grown_sealed (sealed_last low), kept_root k one))
