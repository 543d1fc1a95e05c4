-- What the calls of a draft ask: in rising number, each refusal and what must hold or else the call is refused so. Assumes nothing.
use Rattle.std.specs.Prelude.{◌≡◌, ℕ, ◌+◌, ◌<◌, ◌≤◌, List, [], ◌∷◌, length, ◌≢◌}
use Rattle.base.specs.declared.refusal.Refusal.TheVariants as refusal
use Rattle.base.specs.Refusals.{Conditions, unless, no_more}
use Rattle.shapes.specs.Shapes.{Shape}
use Rattle.shapes.specs.Balance.{Balanced}
use Rattle.shapes.specs.Drafts.{parentless, Parentless, elements}

-- a leaf of n elements: at most 64, a node left, and space for the elements
abbrev pub leaf_asks : List Shape → ℕ → Conditions
leaf_asks ts n = unless refusal.LeafSize (n ≤ 64) (unless refusal.Space ((length ts < 1023) × (elements ts + n ≤ 32768)) no_more)

-- a concatenation of l and r: two parentless nodes that are different, and a node left
abbrev pub concat_asks : List Shape → (l r : ℕ) → Conditions
concat_asks ts l r = unless refusal.Node (Parentless ts l × Parentless ts r × (l ≢ r)) (unless refusal.Space (length ts < 1023) no_more)

-- sealing: just one parentless node, and that it is balanced
abbrev pub seal_asks : List Shape → Conditions
seal_asks ts = unless refusal.Roots (length (parentless ts) ≡ 1) (unless refusal.Balance ((t : Shape) → parentless ts ≡ t ∷ [] → Balanced t) no_more)
