-- A rope's shape: a binary tree with runs of elements at its leaves. Assumes nothing.
use Rattle.std.specs.Prelude.{◌≡◌, ℕ, ◌+◌, ◌<◌, ◌≤◌, max, cond, ◌⊎◌, List, [], ◌∷◌, ◌++◌, take, drop, ◌==◌}

-- Each node has the number under which it stands in its table. (`shape_set` says that two shapes are the same in one way only; proofs use it.)
pub data Shape : Type 0 where
  -- a leaf: where its run starts on the strip, and how many elements the run has
  leaf : (number start size : ℕ) → Shape
  -- a concatenation: what stands on the left, and behind it what stands on the right
  concat : (number : ℕ) (left right : Shape) → Shape
  deriving IsSet as shape_set

-- the number of the topmost node
abbrev pub number : Shape → ℕ
number (leaf i s n) = i
number (concat i l r) = i

-- how many elements it has
abbrev pub size : Shape → ℕ
size (leaf i s n) = n
size (concat i l r) = size l + size r

-- a leaf has depth 0, another node one more than its deeper child
abbrev pub depth : Shape → ℕ
depth (leaf i s n) = 0
depth (concat i l r) = max (depth l) (depth r) + 1

-- how many nodes it has
abbrev pub nodes : Shape → ℕ
nodes (leaf i s n) = 1
nodes (concat i l r) = nodes l + nodes r + 1

-- 1 where two numbers are the same, and 0 where not
abbrev pub same : ℕ → ℕ → ℕ
same k i = cond (k == i) 1 0

-- how often node k occurs in it
abbrev pub occurs : ℕ → Shape → ℕ
occurs k (leaf i s n) = same k i
occurs k (concat i l r) = same k i + (occurs k l + occurs k r)

-- the sizes of its leaves, left to right
abbrev pub leaf_sizes : Shape → List ℕ
leaf_sizes (leaf i s n) = n ∷ []
leaf_sizes (concat i l r) = leaf_sizes l ++ leaf_sizes r

-- the largest size of a leaf
abbrev pub widest : Shape → ℕ
widest (leaf i s n) = n
widest (concat i l r) = max (widest l) (widest r)

-- the largest end of a leaf: the place behind the last element of its run
abbrev pub end : Shape → ℕ
end (leaf i s n) = s + n
end (concat i l r) = max (end l) (end r)

-- some leaf ends beyond n elements of a strip, or every leaf ends within them
abbrev pub EndsBeyond : ℕ → Shape → Type 0
EndsBeyond n (leaf i s k) = n < s + k
EndsBeyond n (concat i l r) = EndsBeyond n l ⊎ EndsBeyond n r

abbrev pub EndsWithin : ℕ → Shape → Type 0
EndsWithin n (leaf i s k) = s + k ≤ n
EndsWithin n (concat i l r) = EndsWithin n l × EndsWithin n r

-- n elements are too few: some leaf ends beyond them, and so not every leaf ends within them
pub record TooFew (n : ℕ) (t : Shape) : Type 0 where
  pub beyond : EndsBeyond n t
  pub not_within : EndsWithin n t → ⊥

-- n elements are too few just when n is below k
pub record Reaches (t : Shape) (k : ℕ) : Type 0 where
  pub beyond : (n : ℕ) → n < k → TooFew n t
  pub within : (n : ℕ) → k ≤ n → EndsWithin n t

-- the elements of a strip in the order of the leaves from left to right
abbrev pub reading : {A : Type 0} → List A → Shape → List A
reading xs (leaf i s n) = take n (drop s xs)
reading xs (concat i l r) = reading xs l ++ reading xs r

-- Each leaf starts at the number of elements to its left, where n stand to the left of the whole.
abbrev pub Started : ℕ → Shape → Type 0
Started n (leaf i s k) = s ≡ n
Started n (concat i l r) = Started n l × Started (n + size l) r

-- Two shapes are alike: the same nodes in the same places, with leaves of the same sizes. Only where leaves start may differ.
abbrev pub Alike : Shape → Shape → Type 0
Alike (leaf i s k) (leaf j z q) = (i ≡ j) × (k ≡ q)
Alike (leaf i s k) (concat j v w) = ⊥
Alike (concat i l r) (leaf j z q) = ⊥
Alike (concat i l r) (concat j v w) = (i ≡ j) × Alike l v × Alike r w

-- the same shape with its leaves started anew, where n elements stand to its left
abbrev pub restarted : ℕ → Shape → Shape
restarted n (leaf i s k) = leaf i n k
restarted n (concat i l r) = concat i (restarted n l) (restarted (n + size l) r)
