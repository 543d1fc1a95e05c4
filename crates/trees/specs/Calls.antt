-- What the calls of a tree ask and answer. Assumes nothing.
use Rattle.std.specs.Prelude.{◌≡◌, ℕ, ◌<◌, ◌≤◌, List, length, Some, None, Option, slice_index_or}
use Rattle.base.specs.declared.refusal.Refusal.TheVariants as refusal
use Rattle.base.specs.Refusals.{Conditions, unless, no_more}
use Rattle.shapes.specs.Shapes.{Shape, size, reading, EndsWithin, Started}

-- taking an element from a shelf: every leaf ends within its elements
abbrev pub get_asks : {T : Type 0} → List T → Shape → Conditions
get_asks xs t = unless refusal.Buffer (EndsWithin (length xs) t) no_more

-- the element at position p, none where p is not below the length
abbrev pub ItemAt : {T : Type 0} → List T → Shape → ℕ → Option T → Type 0
ItemAt xs t p None = size t ≤ p
ItemAt {T} xs t p (Some x) = (p < size t) × ((d : T) → x ≡ slice_index_or (reading xs t) p d)

-- where the leaves start as a packed tree's, as many elements as the tree has are read as they lie
abbrev pub ReadsAsItLies : {T : Type 0} → List T → Shape → Type 0
ReadsAsItLies xs t = Started 0 t → size t ≡ length xs → reading xs t ≡ xs

-- packing n elements
abbrev pub pack_asks : ℕ → Conditions
pack_asks n = unless refusal.Space (n ≤ 32768) no_more
