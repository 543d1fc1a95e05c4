-- What always holds of drafts. Assumes nothing.
use Rattle.std.proofs.Common.{◌≡◌, ℕ, suc, ◌+◌, ◌-◌, ◌<◌, ◌≤◌, max, Bool, true, false, cond, not, ◌||◌, eqb, ltb, List, [], ◌∷◌, ◌++◌, map, length, get_or, set, count_by, filter, sym, refl, ap, ◌∙◌, subst, ⊎_elim, arith}
use mathlib.Core.Path.{fun_ext}
use Rattle.std.proofs.Math.Bool.{or-false, or_assoc}
use Rattle.std.proofs.lemmas.List.{length_push, length-map, length-set, map_push, get_or_append_left, get_or_push, get_or-map, get_or-set_same, get_or-set_other, ext_get_or, nil_from_length}
use Rattle.std.proofs.lemmas.List.Elements.{filter-append}
use Rattle.std.proofs.lemmas.List.Sums.{sum_by_push, sum_by-cons, length-filter}
use Rattle.std.proofs.lemmas.Bool.{cases_lt, cases_eq, eq-eqb, ne_eqb, lt-ltb, le-ltb, or_from, or_right}
use Rattle.shapes.specs.Shapes.{Shape, leaf, concat, number, size, same, occurs, widest, end}
use Rattle.shapes.specs.Nodes.{shape_at}
use Rattle.shapes.specs.Drafts.{child, has_parent, parentless, Parentless, parent_flags, own, elements, next_leaf, next_concat, Drafted, nothing, a_leaf, a_concat}
use Rattle.shapes.proofs.Tables.{Entry, Listed, listed_push, listed_number, not_here}
use Rattle.shapes.proofs.Hanging.{right_here}
use Rattle.shapes.proofs.Totals.{Counts, mark, Order, total, unmarked, unmarked_like, total_kept, unmarked_push, mark_one}

-- ---- the shapes of a draft, in their order

leaf_entry : (ts : List Shape) (n : ℕ) → Entry ts (length ts) (next_leaf ts n)
leaf_entry ts n = refl

concat_entry : (ts : List Shape) → Listed ts → (l r : ℕ) → l < length ts → r < length ts → Entry ts (length ts) (next_concat ts l r)
concat_entry ts all l r left right =
    let el = listed_number ts all l left in
    let er = listed_number ts all r right in
    (refl, omega arith, omega arith, ap (shape_at ts) (sym el), ap (shape_at ts) (sym er))

pub drafted_listed : {ts : List Shape} → Drafted ts → Listed ts
drafted_listed nothing = λ k h. absurd (omega arith)
drafted_listed (a_leaf {ts} n d small few fits) = listed_push ts (next_leaf ts n) (drafted_listed d) (leaf_entry ts n)
drafted_listed (a_concat {ts} l r d left right other few) = listed_push ts (next_concat ts l r) (drafted_listed d) (concat_entry ts (drafted_listed d) l r left.0 right.0)

pub drafted_few : {ts : List Shape} → Drafted ts → length ts ≤ 1023
drafted_few nothing = omega arith
drafted_few (a_leaf {ts} n d small few fits) = omega (arith, length_push ts (next_leaf ts n))
drafted_few (a_concat {ts} l r d left right other few) = omega (arith, length_push ts (next_concat ts l r))

pub drafted_small : {ts : List Shape} → Drafted ts → elements ts ≤ 32768
drafted_small nothing = omega arith
drafted_small (a_leaf {ts} n d small few fits) = omega (arith, sum_by_push own ts (next_leaf ts n))
drafted_small (a_concat {ts} l r d left right other few) = omega (arith, sum_by_push own ts (next_concat ts l r), drafted_small d)

-- ---- parents

pub has_parent_push : (ts : List Shape) (s : Shape) (k : ℕ) → has_parent (ts ++ (s ∷ [])) k ≡ (has_parent ts k || child k s)
has_parent_push [] s k = or-false (child k s)
has_parent_push (t ∷ ts) s k = ap (λ b. child k t || b) (has_parent_push ts s k) ∙ sym (or_assoc (child k t) (has_parent ts k) (child k s))

-- the children of a concatenation, by their numbers
pub has_parent_concat : (ts : List Shape) → Listed ts → (l r k : ℕ) → l < length ts → r < length ts → has_parent (ts ++ (next_concat ts l r ∷ [])) k ≡ ((has_parent ts k || eqb k l) || eqb k r)
has_parent_concat ts all l r k left right =
    has_parent_push ts (next_concat ts l r) k
    ∙ ap (λ n. has_parent ts k || (eqb k n || eqb k (number (shape_at ts r)))) (listed_number ts all l left)
    ∙ ap (λ n. has_parent ts k || (eqb k l || eqb k n)) (listed_number ts all r right)
    ∙ sym (or_assoc (has_parent ts k) (eqb k l) (eqb k r))

-- a node that is not yet there is no child
child_before : (ts : List Shape) (t : Shape) (k n : ℕ) → Entry ts n t → n ≤ k → child k t ≡ false
child_before ts (leaf i s z) k n e le = refl
child_before ts (concat i l r) k n e le = or_from (eqb k (number l)) (eqb k (number r)) (ne_eqb k (number l) (λ h. omega arith)) (ne_eqb k (number r) (λ h. omega arith))

pub new_parentless : {ts : List Shape} → Drafted ts → (k : ℕ) → length ts ≤ k → has_parent ts k ≡ false
new_parentless nothing k le = refl
new_parentless (a_leaf {ts} n d small few fits) k le =
    has_parent_push ts (next_leaf ts n) k ∙ or_from (has_parent ts k) false (new_parentless d k (omega (arith, length_push ts (next_leaf ts n)))) refl
new_parentless (a_concat {ts} l r d left right other few) k le =
    let before : length ts ≤ k = omega (arith, length_push ts (next_concat ts l r)) in
    has_parent_push ts (next_concat ts l r) k ∙ or_from (has_parent ts k) (child k (next_concat ts l r)) (new_parentless d k before) (child_before ts (next_concat ts l r) k (length ts) (concat_entry ts (drafted_listed d) l r left.0 right.0) before)

-- a new node is neither a child so far nor one of the two that are put together
new_unmarked : {ts : List Shape} → Drafted ts → (l r : ℕ) → l < length ts → r < length ts → ((has_parent ts (length ts) || eqb (length ts) l) || eqb (length ts) r) ≡ false
new_unmarked {ts} d l r left right =
    or_from (has_parent ts (length ts) || eqb (length ts) l) (eqb (length ts) r)
    (or_from (has_parent ts (length ts)) (eqb (length ts) l) (new_parentless d (length ts) (omega arith)) (ne_eqb (length ts) l (λ e. omega arith)))
    (ne_eqb (length ts) r (λ e. omega arith))

-- the node made last is parentless
pub newest_parentless : {ts : List Shape} → Drafted ts → (k : ℕ) → k + 1 ≡ length ts → has_parent ts k ≡ false
newest_parentless nothing k last = absurd (omega arith)
newest_parentless (a_leaf {ts} n d small few fits) k last =
    let here : length ts ≤ k = omega (arith, length_push ts (next_leaf ts n)) in
    has_parent_push ts (next_leaf ts n) k ∙ or-false (has_parent ts k) ∙ new_parentless d k here
newest_parentless (a_concat {ts} l r d left right other few) k last =
    let here : length ts ≤ k = omega (arith, length_push ts (next_concat ts l r)) in
    has_parent_push ts (next_concat ts l r) k
    ∙ or_from (has_parent ts k) (child k (next_concat ts l r)) (new_parentless d k here) (child_before ts (next_concat ts l r) k (length ts) (concat_entry ts (drafted_listed d) l r left.0 right.0) here)

-- ---- totals over the parentless nodes

counts_push : (b : ℕ) (us : List Shape) (u : Shape) → Counts b us → number u ≡ b + length us → Counts b (us ++ (u ∷ []))
counts_push b [] u c e = (omega arith, tt)
counts_push b (v ∷ us) u c e = (c.0, counts_push (suc b) us u c.1 (omega arith))

drafted_counts : {ts : List Shape} → Drafted ts → Counts 0 ts
drafted_counts nothing = tt
drafted_counts (a_leaf {ts} n d small few fits) = counts_push 0 ts (next_leaf ts n) (drafted_counts d) (omega arith)
drafted_counts (a_concat {ts} l r d left right other few) = counts_push 0 ts (next_concat ts l r) (drafted_counts d) (omega arith)

module _ (f : Shape → ℕ) (op : ℕ → ℕ → ℕ) (o : Order op) where
  abbrev over : List Shape → ℕ
  over ts = unmarked f op (has_parent ts) ts

  -- the new node is parentless, and the old ones are as P says
  over_push : (ts : List Shape) (s : Shape) (P : ℕ → Bool) → number s ≡ length ts → has_parent (ts ++ (s ∷ [])) (length ts) ≡ false → ((k : ℕ) → has_parent (ts ++ (s ∷ [])) k ≡ P k) → over (ts ++ (s ∷ [])) ≡ op (unmarked f op P ts) (f s)
  over_push ts s P named free is =
      unmarked_push f op o (has_parent (ts ++ (s ∷ []))) ts s
      ∙ ap (λ k. op (unmarked f op (has_parent (ts ++ (s ∷ []))) ts) (cond (has_parent (ts ++ (s ∷ [])) k) 0 (f s))) named
      ∙ ap (λ b. op (unmarked f op (has_parent (ts ++ (s ∷ []))) ts) (cond b 0 (f s))) free
      ∙ ap (λ n. op n (f s)) (unmarked_like f op (has_parent (ts ++ (s ∷ []))) P is ts)

  over_leaf : {ts : List Shape} → Drafted ts → (n : ℕ) → over (ts ++ (next_leaf ts n ∷ [])) ≡ op (over ts) (f (next_leaf ts n))
  over_leaf {ts} d n =
      let is : (k : ℕ) → has_parent (ts ++ (next_leaf ts n ∷ [])) k ≡ has_parent ts k = λ k. has_parent_push ts (next_leaf ts n) k ∙ or-false (has_parent ts k) in
      over_push ts (next_leaf ts n) (has_parent ts) refl (is (length ts) ∙ new_parentless d (length ts) (omega arith)) is

  -- two nodes go out of the total, and the one over them comes in
  over_concat : {ts : List Shape} → Drafted ts → (l r : ℕ) → Parentless ts l → Parentless ts r → (l ≡ r → ⊥) → (rest : ℕ) × (over ts ≡ op (f (shape_at ts l)) (op (f (shape_at ts r)) rest)) × (over (ts ++ (next_concat ts l r ∷ [])) ≡ op rest (f (next_concat ts l r)))
  over_concat {ts} d l r left right other =
      let P = has_parent ts in
      let Q = mark P l in
      let R = mark Q r in
      let c = drafted_counts d in
      let all = drafted_listed d in
      let at_l : l - 0 ≡ l = omega arith in
      let at_r : r - 0 ≡ r = omega arith in
      let free : Q r ≡ false = or_from (P r) (eqb r l) right.1 (ne_eqb r l (λ e. other (sym e))) in
      let out_l = mark_one f op o P l 0 ts (leaf (suc l) 0 0) c (omega arith) (omega (arith, left.0)) left.1 in
      let out_r = mark_one f op o Q r 0 ts (leaf (suc r) 0 0) c (omega arith) (omega (arith, right.0)) free in
      let is : (k : ℕ) → has_parent (ts ++ (next_concat ts l r ∷ [])) k ≡ R k = λ k. has_parent_concat ts all l r k left.0 right.0 in
      let new = new_unmarked d l r left.0 right.0 in (
        unmarked f op R ts,
        out_l ∙ ap (λ k. op (f (get_or ts k (leaf (suc l) 0 0))) (unmarked f op Q ts)) at_l ∙ ap (op (f (shape_at ts l))) (out_r ∙ ap (λ k. op (f (get_or ts k (leaf (suc r) 0 0))) (unmarked f op R ts)) at_r),
        over_push ts (next_concat ts l r) R refl (is (length ts) ∙ new) is,
      )

  -- where one node is parentless, the total is that of this node
  over_root : (ts : List Shape) (t : Shape) → parentless ts ≡ t ∷ [] → f t ≡ over ts
  over_root ts t e = sym (o.none (f t)) ∙ o.comm 0 (f t) ∙ sym (ap (total f op) e) ∙ total_kept f op o (has_parent ts) ts

sums : Order ◌+◌
sums = record { none = λ a. omega arith; comm = λ a b. omega arith; assoc = λ a b c. omega arith }

tops : Order max
tops = record { none = λ a. omega arith; comm = λ a b. omega arith; assoc = λ a b c. omega arith }

sizes_over : {ts : List Shape} → Drafted ts → over size ◌+◌ sums ts ≡ elements ts
sizes_over nothing = refl
sizes_over (a_leaf {ts} n d small few fits) = over_leaf size ◌+◌ sums d n ∙ omega (arith, sizes_over d, sum_by_push own ts (next_leaf ts n))
sizes_over (a_concat {ts} l r d left right other few) =
    let out = over_concat size ◌+◌ sums d l r left right other in
    out.2 ∙ omega (arith, out.1, sizes_over d, sum_by_push own ts (next_concat ts l r))

ends_over : {ts : List Shape} → Drafted ts → over end max tops ts ≡ elements ts
ends_over nothing = refl
ends_over (a_leaf {ts} n d small few fits) = over_leaf end max tops d n ∙ omega (arith, ends_over d, sum_by_push own ts (next_leaf ts n))
ends_over (a_concat {ts} l r d left right other few) =
    let out = over_concat end max tops d l r left right other in
    out.2 ∙ omega (arith, out.1, ends_over d, sum_by_push own ts (next_concat ts l r))

-- two parentless nodes have no more elements than the draft
pub pair_small : {ts : List Shape} → Drafted ts → (l r : ℕ) → Parentless ts l → Parentless ts r → (l ≡ r → ⊥) → size (shape_at ts l) + size (shape_at ts r) ≤ elements ts
pair_small d l r left right other =
    let out = over_concat size ◌+◌ sums d l r left right other in
    omega (arith, out.1, sizes_over d)

-- 1 where k is below n, else 0
below : ℕ → ℕ → ℕ
below k n = cond (ltb k n) 1 0

below_more : (k n m : ℕ) → m ≡ n + 1 → below k n + same k n ≡ below k m
unfolding below
below_more k n m e =
    ⊎_elim
    (λ at. omega (arith, ap {B = ℕ} (λ b. cond b 1 0) (le-ltb k n (omega arith)), ap {B = ℕ} (λ b. cond b 1 0) (lt-ltb k m (omega arith)), subst (λ j. same j n ≡ 1) (sym at) (right_here n)))
    (λ ne. ⊎_elim
    (λ lt. omega (arith, not_here k n ne, ap {B = ℕ} (λ b. cond b 1 0) (lt-ltb k n lt), ap {B = ℕ} (λ b. cond b 1 0) (lt-ltb k m (omega arith))))
    (λ ge. omega (arith, not_here k n ne, ap {B = ℕ} (λ b. cond b 1 0) (le-ltb k n ge), ap {B = ℕ} (λ b. cond b 1 0) (le-ltb k m (omega (arith, λ (h : k ≡ n). ne h)))))
    (cases_lt k n))
    (cases_eq k n)

occurs_over : (k : ℕ) {ts : List Shape} → Drafted ts → over (occurs k) ◌+◌ sums ts ≡ below k (length ts)
unfolding below
occurs_over k nothing = ap {B = ℕ} (λ b. cond b 1 0) (sym (le-ltb k 0 (omega arith)))
occurs_over k (a_leaf {ts} n d small few fits) = over_leaf (occurs k) ◌+◌ sums d n ∙ ap (λ m. m + same k (length ts)) (occurs_over k d) ∙ below_more k (length ts) (length (ts ++ (next_leaf ts n ∷ []))) (length_push ts (next_leaf ts n))
occurs_over k (a_concat {ts} l r d left right other few) =
    let out = over_concat (occurs k) ◌+◌ sums d l r left right other in
    out.2 ∙ omega (arith, out.1, occurs_over k d, below_more k (length ts) (length (ts ++ (next_concat ts l r ∷ []))) (length_push ts (next_concat ts l r)))

-- ---- a draft with one parentless node

module _ {ts : List Shape} (d : Drafted ts) (t : Shape) (root : parentless ts ≡ t ∷ []) where
  pub root_size : size t ≡ elements ts
  root_size = over_root size ◌+◌ sums ts t root ∙ sizes_over d

  pub root_end : end t ≡ size t
  root_end = over_root end max tops ts t root ∙ ends_over d ∙ sym root_size

  pub root_once : (k : ℕ) → k < length ts → occurs k t ≡ 1
  unfolding below
  root_once k lt = over_root (occurs k) ◌+◌ sums ts t root ∙ occurs_over k d ∙ ap {B = ℕ} (λ b. cond b 1 0) (lt-ltb k (length ts) lt)

-- ---- the last node is the root

last_kept : (us : List Shape) (s : Shape) → has_parent (us ++ (s ∷ [])) (number s) ≡ false → length (parentless (us ++ (s ∷ []))) ≡ 1 → parentless (us ++ (s ∷ [])) ≡ s ∷ []
last_kept us s free one =
    let p = λ (t : Shape). not (has_parent (us ++ (s ∷ [])) (number t)) in
    let kept_last : filter p (s ∷ []) ≡ s ∷ [] = ap (λ b. cond (not b) (s ∷ []) []) free in
    let whole : parentless (us ++ (s ∷ [])) ≡ filter p us ++ (s ∷ []) = filter-append p us (s ∷ []) ∙ ap (λ vs. filter p us ++ vs) kept_last in
    let none : filter p us ≡ [] = nil_from_length (filter p us) (omega (arith, ap length whole, length_push (filter p us) s)) in
    whole ∙ ap (λ vs. vs ++ (s ∷ [])) none

at_last : (us : List Shape) (s : Shape) → shape_at (us ++ (s ∷ [])) (length (us ++ (s ∷ [])) - 1) ≡ s
at_last us s = let n : length (us ++ (s ∷ [])) ≡ length us + 1 = length_push us s in get_or_push us s (leaf (suc (length (us ++ (s ∷ [])) - 1)) 0 0) (length (us ++ (s ∷ [])) - 1) (omega arith)

-- where one node is parentless, it is the one made last
pub last_root : {ts : List Shape} → Drafted ts → length (parentless ts) ≡ 1 → parentless ts ≡ shape_at ts (length ts - 1) ∷ []
last_root nothing one = absurd (omega arith)
last_root (a_leaf {ts} n d small few fits) one =
    let free = newest_parentless (a_leaf n d small few fits) (length ts) (sym (length_push ts (next_leaf ts n))) in
    last_kept ts (next_leaf ts n) free one ∙ ap (λ t. t ∷ []) (sym (at_last ts (next_leaf ts n)))
last_root (a_concat {ts} l r d left right other few) one =
    let free = newest_parentless (a_concat l r d left right other few) (length ts) (sym (length_push ts (next_concat ts l r))) in
    last_kept ts (next_concat ts l r) free one ∙ ap (λ t. t ∷ []) (sym (at_last ts (next_concat ts l r)))

-- ---- the flags that a draft keeps

pub flags_at : (b : Bool) (ts : List Shape) → Listed ts → (k : ℕ) → k < length ts → get_or (parent_flags ts) k b ≡ has_parent ts k
flags_at b ts all k lt = get_or-map (λ t. has_parent ts (number t)) ts k (leaf (suc k) 0 0) b lt ∙ ap (has_parent ts) (listed_number ts all k lt)

pub flags_leaf : {ts : List Shape} → Drafted ts → (n : ℕ) → parent_flags (ts ++ (next_leaf ts n ∷ [])) ≡ parent_flags ts ++ (false ∷ [])
flags_leaf {ts} d n =
    let is : has_parent (ts ++ (next_leaf ts n ∷ [])) ≡ has_parent ts = fun_ext (λ k. has_parent_push ts (next_leaf ts n) k ∙ or-false (has_parent ts k)) in
    ap (λ (P : ℕ → Bool). map (λ t. P (number t)) (ts ++ (next_leaf ts n ∷ []))) is
    ∙ map_push (λ t. has_parent ts (number t)) ts (next_leaf ts n)
    ∙ ap (λ b. parent_flags ts ++ (b ∷ [])) (new_parentless d (length ts) (omega arith))

marked_flags : (ts : List Shape) → Listed ts → (l r : ℕ) → l < length ts → r < length ts → map (λ t. (has_parent ts (number t) || eqb (number t) l) || eqb (number t) r) ts ≡ set (set (parent_flags ts) l true) r true
marked_flags ts all l r left right = ext_get_or false (map R ts) (set (set (parent_flags ts) l true) r true) long at
  where
    R : Shape → Bool
    R t = (has_parent ts (number t) || eqb (number t) l) || eqb (number t) r

    flagged : length (parent_flags ts) ≡ length ts
    flagged = length-map ts (λ t. has_parent ts (number t))

    long : length (map R ts) ≡ length (set (set (parent_flags ts) l true) r true)
    long = length-map ts R ∙ sym (length-set (set (parent_flags ts) l true) r true ∙ length-set (parent_flags ts) l true ∙ flagged)

    at : (k : ℕ) → k < length (map R ts) → get_or (map R ts) k false ≡ get_or (set (set (parent_flags ts) l true) r true) k false
    at k h =
        let lt : k < length ts = omega (arith, length-map ts R) in
        let named = listed_number ts all k lt in
        let is : get_or (map R ts) k false ≡ ((has_parent ts k || eqb k l) || eqb k r) = get_or-map R ts k (leaf (suc k) 0 0) false lt ∙ ap (λ j. (has_parent ts j || eqb j l) || eqb j r) named in
        is ∙ ⊎_elim
        (λ er. or_right (has_parent ts k || eqb k l) (eqb k r) (eq-eqb k r er) ∙ sym (ap (λ j. get_or (set (set (parent_flags ts) l true) r true) j false) er ∙ get_or-set_same (set (parent_flags ts) l true) r true false (omega (arith, flagged, length-set (parent_flags ts) l true))))
        (λ nr. ap (λ b. (has_parent ts k || eqb k l) || b) (ne_eqb k r nr) ∙ or-false (has_parent ts k || eqb k l) ∙ ⊎_elim
        (λ el. or_right (has_parent ts k) (eqb k l) (eq-eqb k l el) ∙ sym (get_or-set_other (set (parent_flags ts) l true) r k true false nr ∙ ap (λ j. get_or (set (parent_flags ts) l true) j false) el ∙ get_or-set_same (parent_flags ts) l true false (omega (arith, flagged))))
        (λ nl. ap (λ b. has_parent ts k || b) (ne_eqb k l nl) ∙ or-false (has_parent ts k) ∙ sym (get_or-set_other (set (parent_flags ts) l true) r k true false nr ∙ get_or-set_other (parent_flags ts) l k true false nl ∙ flags_at false ts all k lt))
        (cases_eq k l))
        (cases_eq k r)

pub flags_concat : {ts : List Shape} → Drafted ts → (l r : ℕ) → l < length ts → r < length ts → parent_flags (ts ++ (next_concat ts l r ∷ [])) ≡ set (set (parent_flags ts) l true) r true ++ (false ∷ [])
flags_concat {ts} d l r left right =
    let all = drafted_listed d in
    let P = has_parent ts in
    let is : has_parent (ts ++ (next_concat ts l r ∷ [])) ≡ (λ k. (P k || eqb k l) || eqb k r) = fun_ext (λ k. has_parent_concat ts all l r k left right) in
    let new = new_unmarked d l r left right in
    ap (λ (Q : ℕ → Bool). map (λ t. Q (number t)) (ts ++ (next_concat ts l r ∷ []))) is
    ∙ map_push (λ t. (P (number t) || eqb (number t) l) || eqb (number t) r) ts (next_concat ts l r)
    ∙ ap (λ b. map (λ t. (P (number t) || eqb (number t) l) || eqb (number t) r) ts ++ (b ∷ [])) new
    ∙ ap (λ bs. bs ++ (false ∷ [])) (marked_flags ts all l r left right)

count_map : (f : Shape → Bool) (ts : List Shape) → count_by not (map f ts) ≡ count_by (λ t. not (f t)) ts
count_map f [] = refl
count_map f (t ∷ ts) = sum_by-cons (λ b. cond (not b) 1 0) (f t) (map f ts) ∙ ap (λ n. cond (not (f t)) 1 0 + n) (count_map f ts) ∙ sym (sum_by-cons (λ u. cond (not (f u)) 1 0) t ts)

pub count_parentless : (ts : List Shape) → count_by not (parent_flags ts) ≡ length (parentless ts)
count_parentless ts = count_map (λ t. has_parent ts (number t)) ts ∙ sym (length-filter (λ t. not (has_parent ts (number t))) ts)

-- ---- leaves are short

Narrow : List Shape → Type 0
Narrow ts = (k : ℕ) → k < length ts → widest (shape_at ts k) ≤ 64

narrow_push : (ts : List Shape) (s : Shape) → Narrow ts → widest s ≤ 64 → Narrow (ts ++ (s ∷ []))
unfolding Narrow
narrow_push ts s all last k h =
    ⊎_elim
    (λ lt. subst (λ t. widest t ≤ 64) (sym (get_or_append_left ts (s ∷ []) (leaf (suc k) 0 0) k lt)) (all k lt))
    (λ ge. subst (λ t. widest t ≤ 64) (sym (get_or_push ts s (leaf (suc k) 0 0) k (omega (arith, length_push ts s)))) last)
    (cases_lt k (length ts))

drafted_narrow : {ts : List Shape} → Drafted ts → Narrow ts
unfolding Narrow
drafted_narrow nothing = λ k h. absurd (omega arith)
drafted_narrow (a_leaf {ts} n d small few fits) = narrow_push ts (next_leaf ts n) (drafted_narrow d) small
drafted_narrow (a_concat {ts} l r d left right other few) =
    narrow_push ts (next_concat ts l r) (drafted_narrow d) (omega (arith, drafted_narrow d l left.0, drafted_narrow d r right.0))

pub narrow_at : {ts : List Shape} → Drafted ts → (k : ℕ) → k < length ts → widest (shape_at ts k) ≤ 64
unfolding Narrow
narrow_at d = drafted_narrow d
