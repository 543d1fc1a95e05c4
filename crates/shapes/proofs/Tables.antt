-- A sound table of nodes and its shapes. Assumes nothing.
use Rattle.std.proofs.Common.{◌≡◌, ℕ, suc, ◌+◌, ◌<◌, ◌≤◌, cond, ◌⊎◌, List, [], ◌∷◌, ◌++◌, map, length, take, sym, refl, ap, ◌∙◌, subst, inl, inr, ⊎_elim, arith}
use Rattle.std.proofs.lemmas.List.{length_push, length-map, map_push, get_or_append_left, get_or_push, get_or_past, get_or-take, get_or-map, take-append-le, take_at, same_from_push, ext_get_or, length-take-le}
use Rattle.std.proofs.lemmas.Bool.{cases_lt, cases_eq, ne_eqb}
use Rattle.shapes.specs.declared.node.Node.{Node}
use Rattle.shapes.specs.declared.node.Node.TheVariants.{Leaf, Concat}
use Rattle.shapes.specs.Shapes.{Shape, leaf, concat, number, same, occurs}
use Rattle.shapes.specs.Nodes.{node_at, node_of, shape_at, shape_of, shapes_behind, shapes, Sound, At, Stands}
use Rattle.shapes.proofs.Lists.{by_push}

behind_push : (ts : List Shape) (xs : List Node) (x : Node) → shapes_behind ts (xs ++ (x ∷ [])) ≡ shapes_behind ts xs ++ (shape_of (shapes_behind ts xs) x ∷ [])
behind_push ts [] x = refl
behind_push ts (y ∷ xs) x = behind_push (ts ++ (shape_of ts y ∷ [])) xs x

-- one node more is one shape more
pub shapes_push : (xs : List Node) (x : Node) → shapes (xs ++ (x ∷ [])) ≡ shapes xs ++ (shape_of (shapes xs) x ∷ [])
shapes_push xs x = behind_push [] xs x

pub length_shapes : (xs : List Node) → length (shapes xs) ≡ length xs
length_shapes = by_push (λ xs. length (shapes xs) ≡ length xs) (λ xs x h. ap length (shapes_push xs x) ∙ length_push (shapes xs) (shape_of (shapes xs) x) ∙ ap (λ n. n + 1) h ∙ sym (length_push xs x)) refl

-- each shape is that of its node, behind the shapes before it
abbrev Each : List Node → Type 0
Each xs = (k : ℕ) → k < length xs → shape_at (shapes xs) k ≡ shape_of (take k (shapes xs)) (node_at xs k)

each_push : (xs : List Node) (x : Node) → Each xs → Each (xs ++ (x ∷ []))
each_push xs x ih k h =
    let ts = shapes xs in
    let s = shape_of ts x in
    let d = leaf (suc k) 0 0 in
    let long = length_shapes xs in
    rw (shapes_push xs x) (⊎_elim
    (λ lt. let kt : k < length ts = omega arith in
    get_or_append_left ts (s ∷ []) d k kt ∙ ih k lt
    ∙ sym (ap (λ us. shape_of us (node_at (xs ++ (x ∷ [])) k)) (take-append-le k ts (s ∷ []) (omega arith)) ∙ ap (shape_of (take k ts)) (get_or_append_left xs (x ∷ []) (Leaf 0 0) k lt)))
    (λ ge. let kx : length xs ≡ k = omega (arith, length_push xs x) in
    let kt : length ts ≡ k = omega arith in
    get_or_push ts s d k kt
    ∙ sym (ap (λ us. shape_of us (node_at (xs ++ (x ∷ [])) k)) (take_at ts (s ∷ []) k kt) ∙ ap (shape_of ts) (get_or_push xs x (Leaf 0 0) k kx)))
    (cases_lt k (length xs)))

pub at_shapes : (xs : List Node) → Each xs
at_shapes = by_push Each each_push (λ k h. absurd (omega arith))

-- a table that stays sound with one node more
pub sound_push : (xs : List Node) (x : Node) → Sound xs → x ≡ node_of (shape_of (shapes xs) x) → Sound (xs ++ (x ∷ []))
sound_push xs x sound e =
    ap (λ ys. ys ++ (x ∷ [])) sound ∙ ap (λ y. map node_of (shapes xs) ++ (y ∷ [])) e
    ∙ sym (ap (map node_of) (shapes_push xs x) ∙ map_push node_of (shapes xs) (shape_of (shapes xs) x))

-- What a shape says of those that it stands among: its number is its place, and its children stand before it.
abbrev pub Entry : List Shape → ℕ → Shape → Type 0
Entry ts k (leaf i s n) = i ≡ k
Entry ts k (concat i l r) = (i ≡ k) × (number l < k) × (number r < k) × (l ≡ shape_at ts (number l)) × (r ≡ shape_at ts (number r))

abbrev pub Listed : List Shape → Type 0
Listed ts = (k : ℕ) → k < length ts → Entry ts k (shape_at ts k)

kept : (ts : List Shape) (s t : Shape) (k : ℕ) → k ≤ length ts → Entry ts k t → Entry (ts ++ (s ∷ [])) k t
kept ts s (leaf i b n) k lt e = e
kept ts s (concat i l r) k lt e =
    let left : number l < length ts = omega arith in
    let right : number r < length ts = omega arith in
    (e.0, e.1, e.2, e.3 ∙ sym (get_or_append_left ts (s ∷ []) (leaf (suc (number l)) 0 0) (number l) left), e.4 ∙ sym (get_or_append_left ts (s ∷ []) (leaf (suc (number r)) 0 0) (number r) right))

pub listed_push : (ts : List Shape) (s : Shape) → Listed ts → Entry ts (length ts) s → Listed (ts ++ (s ∷ []))
listed_push ts s all e k h =
    let d = leaf (suc k) 0 0 in
    let E = Entry (ts ++ (s ∷ [])) k in
    ⊎_elim
    (λ lt. subst E (sym (get_or_append_left ts (s ∷ []) d k lt)) (kept ts s (shape_at ts k) k (omega arith) (all k lt)))
    (λ ge. let here : length ts ≡ k = omega (arith, length_push ts s) in
    subst E (sym (get_or_push ts s d k here)) (kept ts s s k (omega arith) (subst (λ n. Entry ts n s) here e)))
    (cases_lt k (length ts))

-- a number below the length is that of the shape there
pub listed_number : (ts : List Shape) → Listed ts → (k : ℕ) → k < length ts → number (shape_at ts k) ≡ k
listed_number ts all k lt = of (shape_at ts k) (all k lt)
  where
    of : (t : Shape) → Entry ts k t → number t ≡ k
    of (leaf i b n) e = e
    of (concat i l r) e = e.0

-- a shape of the right number stands before the end
within : (ts : List Shape) (k : ℕ) → k ≡ number (shape_at ts k) → k < length ts
within ts k e = ⊎_elim (λ lt. lt) (λ ge. absurd (omega (arith, e ∙ ap number (get_or_past ts k (leaf (suc k) 0 0) ge)))) (cases_lt k (length ts))

left_of : Node → ℕ
left_of (Leaf b n) = 0
left_of (Concat l r n d) = l

right_of : Node → ℕ
right_of (Leaf b n) = 0
right_of (Concat l r n d) = r

entry_push : (ts : List Shape) (x : Node) → x ≡ node_of (shape_of ts x) → Entry ts (length ts) (shape_of ts x)
unfolding left_of right_of
entry_push ts (Leaf b n) e = refl
entry_push ts (Concat l r n d) e =
    let el : l ≡ number (shape_at ts l) = ap left_of e in
    let er : r ≡ number (shape_at ts r) = ap right_of e in
    (refl, subst (λ k. k < length ts) el (within ts l el), subst (λ k. k < length ts) er (within ts r er), ap (shape_at ts) el, ap (shape_at ts) er)

SoundListed : List Node → Type 0
SoundListed xs = Sound xs → Listed (shapes xs)

sound_listed_push : (xs : List Node) (x : Node) → SoundListed xs → SoundListed (xs ++ (x ∷ []))
unfolding SoundListed
sound_listed_push xs x ih sound =
    let parts = same_from_push xs (map node_of (shapes xs)) x (node_of (shape_of (shapes xs) x)) (sound ∙ ap (map node_of) (shapes_push xs x) ∙ map_push node_of (shapes xs) (shape_of (shapes xs) x)) in
    subst Listed (sym (shapes_push xs x)) (listed_push (shapes xs) (shape_of (shapes xs) x) (ih parts.0) (entry_push (shapes xs) x parts.1))

-- the shapes of a sound table: each at its number, its children before it
pub sound_listed : (xs : List Node) → Sound xs → Listed (shapes xs)
unfolding SoundListed
sound_listed = by_push SoundListed sound_listed_push (λ sound k h. absurd (omega arith))

-- the node of the shape at a number
pub sound_at : (xs : List Node) → Sound xs → (k : ℕ) → k < length xs → node_at xs k ≡ node_of (shape_at (shapes xs) k)
sound_at xs sound k lt = ap (λ ys. node_at ys k) sound ∙ get_or-map node_of (shapes xs) k (leaf (suc k) 0 0) (Leaf 0 0) (omega (arith, length_shapes xs))

-- a shape that is listed stands in the table
stands_in : (xs : List Node) → Sound xs → (t : Shape) → number t < length xs → t ≡ shape_at (shapes xs) (number t) → Stands xs t
stands_in xs sound (leaf i s n) lt e = (lt, sound_at xs sound i lt ∙ ap node_of (sym e))
stands_in xs sound (concat i l r) lt e =
    let here : Entry (shapes xs) i (concat i l r) = subst (Entry (shapes xs) i) (sym e) (sound_listed xs sound i (omega (arith, length_shapes xs))) in
    ((lt, sound_at xs sound i lt ∙ ap node_of (sym e)), here.1, here.2, stands_in xs sound l (omega arith) here.3, stands_in xs sound r (omega arith) here.4)

-- every node of a sound table: its shape stands there
pub stands_at : (xs : List Node) → Sound xs → (k : ℕ) → k < length xs → Stands xs (shape_at (shapes xs) k)
stands_at xs sound k lt =
    let named = listed_number (shapes xs) (sound_listed xs sound) k (omega (arith, length_shapes xs)) in
    stands_in xs sound (shape_at (shapes xs) k) (omega arith) (ap (shape_at (shapes xs)) (sym named))

pub stands_root : (xs : List Node) (t : Shape) → Stands xs t → At xs t
stands_root xs (leaf i s n) h = h
stands_root xs (concat i l r) h = h.0

-- a shape that stands in a table is the one that the table has at its number
pub stands_shape : (xs : List Node) (t : Shape) → Stands xs t → shape_at (shapes xs) (number t) ≡ t
stands_shape xs (leaf i s n) h =
    let lt = h.0 in
    at_shapes xs i lt ∙ ap (shape_of (take i (shapes xs))) h.1 ∙ ap (λ k. leaf k s n) (length-take-le i (shapes xs) (omega (arith, length_shapes xs)))
stands_shape xs (concat i l r) h =
    let ts = shapes xs in
    let long = length_shapes xs in
    let lt = h.0.0 in
    at_shapes xs i lt ∙ ap (shape_of (take i ts)) h.0.1
    ∙ ap (λ k. concat k (shape_at (take i ts) (number l)) (shape_at (take i ts) (number r))) (length-take-le i ts (omega arith))
    ∙ ap (λ u. concat i u (shape_at (take i ts) (number r))) (get_or-take i ts (number l) (leaf (suc (number l)) 0 0) h.1 ∙ stands_shape xs l h.3)
    ∙ ap (λ u. concat i l u) (get_or-take i ts (number r) (leaf (suc (number r)) 0 0) h.2 ∙ stands_shape xs r h.4)

-- a node that occurs in a shape that stands there is at its number
record Found (xs : List Node) (k : ℕ) : Type 0 where
  shape : Shape
  named : number shape ≡ k
  stands : Stands xs shape

pub not_here : (k i : ℕ) → (k ≡ i → ⊥) → same k i ≡ 0
not_here k i ne = ap {B = ℕ} (λ b. cond b 1 0) (ne_eqb k i ne)

find : (xs : List Node) (k : ℕ) (t : Shape) → Stands xs t → 0 < occurs k t → Found xs k
find xs k (leaf i s n) h some = ⊎_elim (λ e. record { shape = leaf i s n; named = sym e; stands = h }) (λ ne. absurd (omega (arith, not_here k i ne))) (cases_eq k i)
find xs k (concat i l r) h some =
    ⊎_elim (λ e. record { shape = concat i l r; named = sym e; stands = h })
    (λ ne. ⊎_elim (λ none. find xs k r h.4 (omega (arith, not_here k i ne))) (λ got. find xs k l h.3 got) (upto (occurs k l)))
    (cases_eq k i)
  where
    upto : (n : ℕ) → (n ≡ 0) ⊎ (0 < n)
    upto n = ⊎_elim (λ lt. inr lt) (λ ge. inl (omega arith)) (cases_lt 0 n)

-- a table is sound in which a shape stands that has all its nodes
pub stands_sound : (xs : List Node) (t : Shape) → Stands xs t → ((k : ℕ) → k < length xs → 0 < occurs k t) → Sound xs
stands_sound xs t h all =
    ext_get_or (Leaf 0 0) xs (map node_of (shapes xs)) (sym (length-map (shapes xs) node_of ∙ length_shapes xs)) at
  where
    at : (k : ℕ) → k < length xs → node_at xs k ≡ node_at (map node_of (shapes xs)) k
    at k lt =
        let f = find xs k t h (all k lt) in
        let node : node_at xs k ≡ node_of f.shape = subst (λ n. node_at xs n ≡ node_of f.shape) f.named (stands_root xs f.shape f.stands).1 in
        let shape : shape_at (shapes xs) k ≡ f.shape = subst (λ n. shape_at (shapes xs) n ≡ f.shape) f.named (stands_shape xs f.shape f.stands) in
        node ∙ sym (get_or-map node_of (shapes xs) k (leaf (suc k) 0 0) (Leaf 0 0) (omega (arith, length_shapes xs)) ∙ ap node_of shape)
