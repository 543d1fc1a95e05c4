-- A shelf by what it stands for, and what opening one asks. Assumes nothing.
use Rattle.std.specs.Prelude.{ℕ, ◌≤◌, List, length}
use Rattle.base.specs.declared.refusal.Refusal.TheVariants as refusal
use Rattle.base.specs.Refusals.{Conditions, unless, no_more}
use Rattle.shelves.specs.declared.Shelf.{Shelf}

-- its elements
abbrev pub held : {T : Type 0} → Shelf T → List T
held s = s.elements.now

-- opening one over a strip: at least as many places as elements
abbrev pub open_asks : {T : Type 0} → List T → ℕ → Conditions
open_asks strip count = unless refusal.Buffer (count ≤ length strip) no_more
