-- The records of an input. Assumes nothing.
use Rattle.std.specs.Prelude.{◌≡◌, ℕ, ◌+◌, ◌<◌, true, false, ◌&&◌, List, [], ◌∷◌, ◌++◌, length, Some, None, Option, ◌==◌, slice_index}
use Rattle.std.specs.Borrow.{Bor}

-- CR LF stands at a place
abbrev pub EndsAt : List ℕ → ℕ → Type 0
EndsAt bytes i = (i + 1 < length bytes) × (slice_index bytes i ≡ 13) × (slice_index bytes (i + 1) ≡ 10)

-- CR LF stands nowhere
abbrev pub NoEnd : List ℕ → Type 0
NoEnd bytes = (i : ℕ) → EndsAt bytes i → ⊥

-- An input is cut at each CR LF from the left, and an empty rest is no record.
-- Only the last record may lack its CR LF; an empty record has one.
pub data Cut : List ℕ → List (List ℕ) → Type 0 where
  none : Cut [] []
  last : {r : List ℕ} → NoEnd r → 0 < length r → Cut r (r ∷ [])
  more : {r rest : List ℕ} {rs : List (List ℕ)} → NoEnd r → Cut rest rs → Cut (r ++ (13 ∷ 10 ∷ rest)) (r ∷ rs)

-- an input is cut into these records, and into no others
pub record CutInto (input : List ℕ) (rs : List (List ℕ)) : Type 0 where
  pub cut : Cut input rs
  pub only : (ss : List (List ℕ)) → Cut input ss → ss ≡ rs

-- a byte goes in front of the first record
abbrev pub onto : ℕ → List (List ℕ) → List (List ℕ)
onto b [] = (b ∷ []) ∷ []
onto b (r ∷ rs) = (b ∷ r) ∷ rs

-- the records, computed; the contract of the intake says that the input is cut into them, and into no others
abbrev pub records : List ℕ → List (List ℕ)
records [] = []
records (b ∷ []) = (b ∷ []) ∷ []
records (b ∷ c ∷ rest) = elim (b == 13 && c == 10) [ true ↦ [] ∷ records rest | false ↦ onto b (records (c ∷ rest)) ]

-- what is handed out of what is left of an input, and what is left then
abbrev pub NextRecord : List ℕ → Option (Bor (List ℕ)) → List ℕ → Type 0
NextRecord rest None after = (records rest ≡ []) × (after ≡ rest)
NextRecord rest (Some row) after = records rest ≡ row.now ∷ records after
