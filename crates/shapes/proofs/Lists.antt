-- What the library lacks on lists. Assumes nothing.
use Rattle.std.proofs.Common.{List, [], ◌∷◌, ◌++◌, sym, subst}
use Rattle.std.proofs.lemmas.List.{append-nil, append_assoc}

-- what holds of the empty list, and of a list with one more element at its end, holds of every list
module _ {A : Type 0} (P : List A → Type 0) (step : (xs : List A) (x : A) → P xs → P (xs ++ (x ∷ []))) where
  onwards : (ys xs : List A) → P ys → P (ys ++ xs)
  onwards ys [] h = subst P (sym (append-nil ys)) h
  onwards ys (x ∷ xs) h = subst P (append_assoc ys (x ∷ []) xs) (onwards (ys ++ (x ∷ [])) xs (step ys x h))

  pub by_push : P [] → (xs : List A) → P xs
  by_push none xs = onwards [] xs none
