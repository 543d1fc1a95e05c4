-- What the laws of a joining give of folds. Assumes nothing.
use Rattle.std.proofs.Common.{◌≡◌, List, [], ◌∷◌, fold, sym, ap, ◌∙◌}
use Rattle.std.proofs.lemmas.List.Sums.{fold-append}
use Rattle.interfaces.specs.Folds.{fold_of, Concatenates}

module _ {V : Type 0} (zero : V) (join : V → V → V) (assoc : (a b c : V) → join (join a b) c ≡ join a (join b c)) (left : (a : V) → join zero a ≡ a) (right : (a : V) → join a zero ≡ a) where
  -- a fold that starts at any value
  pub fold_from : (a : V) (xs : List V) → fold join a xs ≡ join a (fold_of zero join xs)
  fold_from a [] = sym (right a)
  fold_from a (x ∷ xs) = fold_from (join a x) xs ∙ assoc a x (fold_of zero join xs) ∙ ap (join a) (sym (fold_from x xs) ∙ ap (λ b. fold join b xs) (sym (left x)))

  -- one list behind another
  pub fold_append : Concatenates zero join
  fold_append xs ys = fold-append join zero xs ys ∙ fold_from (fold_of zero join xs) ys
