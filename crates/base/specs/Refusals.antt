-- The table of refusals: the number of each, and which of several holds. Assumes nothing.
use Rattle.std.specs.Prelude.{ℕ, MatchBool, MatchResult, Result, ◌==◌}
use Rattle.base.specs.declared.refusal.Refusal.{Refusal}
use Rattle.base.specs.declared.refusal.Refusal.TheVariants.{Shape, Field, LeafSize, Node, Buffer, Space, Roots, Balance}

abbrev pub number : Refusal → ℕ
number Shape = 1
number Field = 2
number LeafSize = 3
number Node = 4
number Buffer = 7
number Space = 8
number Roots = 9
number Balance = 10

-- What a call asks, in rising number of the refusals, each at most once: the refusal, and what must hold or else the call is refused so.
pub data Conditions : Type 1 where
  no_more : Conditions
  unless : Refusal → Type 0 → Conditions → Conditions

-- A call is refused: what this refusal stands for does not hold, and everything before it does.
abbrev pub Refuses : Conditions → Refusal → Type 0
Refuses no_more e = ⊥
Refuses (unless r fine rest) e = MatchBool (number r == number e) (fine → ⊥) (fine × Refuses rest e)

-- Everything that the call asks holds, so it is not refused.
abbrev pub Passes : Conditions → Type 0
Passes no_more = Unit {0}
Passes (unless r fine rest) = fine × Passes rest

-- The answer of a call that asks these things: either all of them hold, and `Does` holds of the value that it answers;
-- or it refuses, by the first of them that does not hold.
abbrev pub Answered : {A : Type 0} → Conditions → Result A Refusal → (A → Type 0) → Type 0
Answered asks answer Does = MatchResult answer (λ a. Passes asks × Does a) (λ e. Refuses asks e)
