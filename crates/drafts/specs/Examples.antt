-- Worked examples, as facts about the definitions: two chains. Assumes nothing.
use Rattle.std.specs.Prelude.{◌≡◌, ℕ, zero, suc, ◌-◌, List, [], ◌∷◌, ◌++◌, length}
use Rattle.base.specs.declared.refusal.Refusal.TheVariants as refusal
use Rattle.base.specs.Refusals.{Refuses, Passes}
use Rattle.shapes.specs.Shapes.{Shape, depth}
use Rattle.shapes.specs.Nodes.{shape_at}
use Rattle.shapes.specs.Drafts.{Drafted, next_leaf, next_concat}
use Rattle.drafts.specs.Calls.{seal_asks}

-- a leaf of one element behind a draft, and a node over what was last and it
abbrev pub longer : List Shape → List Shape
longer ts =
    let us = ts ++ (next_leaf ts 1 ∷ []) in
    us ++ (next_concat us (length ts - 1) (length ts) ∷ [])

-- a chain of leaves of one element: one leaf, and so many more, each behind what was there before
abbrev pub chain : ℕ → List Shape
chain zero = next_leaf [] 1 ∷ []
chain (suc m) = longer (chain m)

-- its topmost node, which was made last
abbrev pub top : List Shape → Shape
top ts = shape_at ts (length ts - 1)

-- A chain of six, of depth 5, is sealed; one of seven, of depth 6, is refused for its balance.
pub record Chains : Type 0 where
  pub six : Drafted (chain 5)
  pub six_deep : depth (top (chain 5)) ≡ 5
  pub six_sealed : Passes (seal_asks (chain 5))
  pub seven : Drafted (chain 6)
  pub seven_deep : depth (top (chain 6)) ≡ 6
  pub seven_refused : Refuses (seal_asks (chain 6)) refusal.Balance
