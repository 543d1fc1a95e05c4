-- What the values of a list come to when they are joined. Assumes nothing.
use Rattle.std.specs.Prelude.{◌≡◌, List, ◌++◌, fold}

-- the neutral value, joined on its right with each value in turn
abbrev pub fold_of : {V : Type 0} → V → (V → V → V) → List V → V
fold_of zero join values = fold join zero values

-- what one list behind another comes to: what the first does, joined with what the second does
abbrev pub Concatenates : {V : Type 0} → V → (V → V → V) → Type 0
Concatenates {V} zero join = (xs ys : List V) → fold_of zero join (xs ++ ys) ≡ join (fold_of zero join xs) (fold_of zero join ys)
