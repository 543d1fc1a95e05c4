-- What a draft keeps, and keeps keeping. Assumes nothing.
use Rattle.std.proofs.Common.{◌≡◌, ℕ, ◌+◌, ◌-◌, ◌<◌, ◌≤◌, Bool, true, false, not, List, [], ◌∷◌, ◌++◌, length, get_or, set, MatchBool, count_by, sym, refl, ap, ◌∙◌, subst, ⊎_elim, arith}
use mathlib.Core.List.{is_set}
use mathlib.Core.Logic.{∥∥₁_elim}
use Rattle.std.proofs.Props.{props}
use native.Mathlib.Bridge.{le_prop}
use native.Mathlib.Nat.{ℕ_set}
use Rattle.std.proofs.lemmas.List.{length-map, get_or_past}
use Rattle.std.proofs.lemmas.Bool.{both_ways, cases_lt}
use Rattle.std.proofs.lemmas.List.Sums.{sum_by_push}
use Rattle.shapes.specs.declared.node.Node.{Node}
use Rattle.shapes.specs.declared.node.Node.TheVariants.{Leaf}
use Rattle.shapes.specs.Shapes.{Shape, leaf, number, size, shape_set}
use Rattle.shapes.specs.Nodes.{node_of, concat_node, FitsOver, shape_at, shapes, last_shape, Stands}
use Rattle.shapes.specs.Drafts.{has_parent, parentless, Parentless, parent_flags, own, elements, next_leaf, next_concat, Drafted, nothing, a_leaf, a_concat, Kept}
use Rattle.shapes.proofs.Tables.{shapes_push, length_shapes, sound_push, sound_listed, listed_number, stands_at, stands_root}
use Rattle.shapes.proofs.Hanging.{stands_size, stands_depth, depth_number, concat_node_of}
use Rattle.shapes.proofs.Drafting.{drafted_small, pair_small, flags_at, flags_leaf, flags_concat, count_parentless, last_root}

shapes_lists : IsSet (List Shape)
shapes_lists = is_set (shape_set ℕ_set)

pub kept_long : {xs : List Node} {fs : List Bool} → Kept xs fs → length fs ≡ length xs
kept_long {xs} k = ap length k.flagged ∙ length-map (shapes xs) (λ t. has_parent (shapes xs) (number t)) ∙ length_shapes xs

pub kept_small : {xs : List Node} {fs : List Bool} → Kept xs fs → elements (shapes xs) ≤ 32768
kept_small k = ∥∥₁_elim k.drafted le_prop (λ d. drafted_small d)

pub kept_flag : {xs : List Node} {fs : List Bool} → Kept xs fs → (i : ℕ) → i < length xs → get_or fs i true ≡ has_parent (shapes xs) i
kept_flag {xs} k i lt = ap (λ bs. get_or bs i true) k.flagged ∙ flags_at true (shapes xs) (sound_listed xs k.sound) i (omega (arith, length_shapes xs))

-- what the flag of a node tells; where there is no node, there is none
pub kept_parentless : (b : Bool) (xs : List Node) (fs : List Bool) (i : ℕ) → Kept xs fs → b ≡ not (get_or fs i true) → MatchBool b (Parentless (shapes xs) i) (Parentless (shapes xs) i → ⊥)
kept_parentless b xs fs i k is = rw is (⊎_elim there (λ ge. rw (get_or_past fs i true (omega (arith, kept_long k))) (λ p. omega (arith, p.0, length_shapes xs))) (cases_lt i (length xs)))
  where
    of : (c : Bool) → c ≡ has_parent (shapes xs) i → i < length xs → MatchBool (not c) (Parentless (shapes xs) i) (Parentless (shapes xs) i → ⊥)
    of true e lt = λ p. both_ways (has_parent (shapes xs) i) p.1 (sym e)
    of false e lt = (omega (arith, length_shapes xs), sym e)

    there : i < length xs → MatchBool (not (get_or fs i true)) (Parentless (shapes xs) i) (Parentless (shapes xs) i → ⊥)
    there lt = of (get_or fs i true) (kept_flag k i lt) lt

-- no node at all
pub kept_nothing : Kept [] []
kept_nothing = record { sound = refl; drafted = ∣ nothing ∣₁; flagged = refl }

-- ---- a leaf more

pub leaf_shapes : (xs : List Node) (n z : ℕ) → n ≡ elements (shapes xs) → shapes (xs ++ (Leaf n z ∷ [])) ≡ shapes xs ++ (next_leaf (shapes xs) z ∷ [])
leaf_shapes xs n z e = shapes_push xs (Leaf n z) ∙ ap (λ m. shapes xs ++ (leaf (length (shapes xs)) m z ∷ [])) e

pub leaf_counted : (xs : List Node) (n z : ℕ) → n ≡ elements (shapes xs) → n + z ≡ elements (shapes (xs ++ (Leaf n z ∷ [])))
leaf_counted xs n z e = sym (ap elements (leaf_shapes xs n z e) ∙ sum_by_push own (shapes xs) (next_leaf (shapes xs) z) ∙ ap (λ m. m + z) (sym e))

pub kept_leaf : {xs : List Node} {fs : List Bool} → Kept xs fs → (n z : ℕ) → n ≡ elements (shapes xs) → z ≤ 64 → length (shapes xs) < 1023 → elements (shapes xs) + z ≤ 32768 → Kept (xs ++ (Leaf n z ∷ [])) (fs ++ (false ∷ []))
kept_leaf {xs} {fs} k n z e narrow few small =
    let same = leaf_shapes xs n z e in
    ∥∥₁_elim k.drafted (hlevel props)
    (λ d. record {
      sound = sound_push xs (Leaf n z) k.sound refl;
      drafted = ∣ subst Drafted (sym same) (a_leaf z d narrow few small) ∣₁;
      flagged = ap (λ bs. bs ++ (false ∷ [])) k.flagged ∙ sym (flags_leaf d z) ∙ ap parent_flags (sym same);
    })

pub ruleset leaf_more = (kept_leaf, leaf_shapes, leaf_counted)

-- ---- two nodes put together

module _ {xs : List Node} {fs : List Bool} (k : Kept xs fs) (l r : ℕ) (left : Parentless (shapes xs) l) (right : Parentless (shapes xs) r) where
  at_left : number (shape_at (shapes xs) l) ≡ l
  at_left = listed_number (shapes xs) (sound_listed xs k.sound) l left.0

  at_right : number (shape_at (shapes xs) r) ≡ r
  at_right = listed_number (shapes xs) (sound_listed xs k.sound) r right.0

  stands_left : Stands xs (shape_at (shapes xs) l)
  stands_left = stands_at xs k.sound l (omega (arith, left.0, length_shapes xs))

  stands_right : Stands xs (shape_at (shapes xs) r)
  stands_right = stands_at xs k.sound r (omega (arith, right.0, length_shapes xs))

  pub concat_shapes : shapes (xs ++ (concat_node xs l r ∷ [])) ≡ shapes xs ++ (next_concat (shapes xs) l r ∷ [])
  concat_shapes = shapes_push xs (concat_node xs l r)

  pub concat_counted : elements (shapes (xs ++ (concat_node xs l r ∷ []))) ≡ elements (shapes xs)
  concat_counted = ap elements concat_shapes ∙ sum_by_push own (shapes xs) (next_concat (shapes xs) l r) ∙ omega arith

  is_node : concat_node xs l r ≡ node_of (next_concat (shapes xs) l r)
  is_node =
      ap (λ i. concat_node xs i r) (sym at_left) ∙ ap (λ i. concat_node xs (number (shape_at (shapes xs) l)) i) (sym at_right)
      ∙ concat_node_of xs (length (shapes xs)) (shape_at (shapes xs) l) (shape_at (shapes xs) r) stands_left stands_right

  pub kept_concat : (l ≡ r → ⊥) → length (shapes xs) < 1023 → Kept (xs ++ (concat_node xs l r ∷ [])) (set (set fs l true) r true ++ (false ∷ []))
  kept_concat other few =
      ∥∥₁_elim k.drafted (hlevel props)
      (λ d. record {
        sound = sound_push xs (concat_node xs l r) k.sound is_node;
        drafted = ∣ subst Drafted (sym concat_shapes) (a_concat l r d left right other few) ∣₁;
        flagged = ap (λ bs. set (set bs l true) r true ++ (false ∷ [])) k.flagged ∙ sym (flags_concat d l r left.0 right.0) ∙ ap parent_flags (sym concat_shapes);
      })

  -- the node over both stays within bounds
  pub concat_fits : (l ≡ r → ⊥) → length (shapes xs) < 1023 → FitsOver xs l r
  concat_fits other few =
      let L = shape_at (shapes xs) l in
      let R = shape_at (shapes xs) r in
      let both : size L + size R ≤ 32768 = ∥∥₁_elim k.drafted le_prop (λ d. omega (arith, pair_small d l r left right other, drafted_small d)) in
      let over : FitsOver xs (number L) (number R) = record {
        left = (stands_root xs L stands_left).0;
        right = (stands_root xs R stands_right).0;
        size = omega (arith, stands_size xs L stands_left, stands_size xs R stands_right);
        depth = omega (arith, stands_depth xs L stands_left, stands_depth xs R stands_right, depth_number xs L stands_left, depth_number xs R stands_right, (stands_root xs L stands_left).0, (stands_root xs R stands_right).0, length_shapes xs);
      } in
      subst (λ i. FitsOver xs i r) at_left (subst (FitsOver xs (number L)) at_right over)

pub ruleset concat_more = (kept_concat, concat_shapes, concat_counted)

-- ---- a draft that can be sealed

pub kept_count : {xs : List Node} {fs : List Bool} → Kept xs fs → count_by not fs ≡ length (parentless (shapes xs))
kept_count {xs} k = ap (count_by not) k.flagged ∙ count_parentless (shapes xs)

pub kept_root : {xs : List Node} {fs : List Bool} → Kept xs fs → length (parentless (shapes xs)) ≡ 1 → parentless (shapes xs) ≡ last_shape xs ∷ []
kept_root {xs} k one = ∥∥₁_elim k.drafted (shapes_lists _ _) (λ d. last_root d one ∙ ap (λ n. shape_at (shapes xs) (n - 1) ∷ []) (length_shapes xs))
