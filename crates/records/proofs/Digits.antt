-- What digits say. Assumes nothing.
use Rattle.std.proofs.Common.{◌≡◌, ℕ, ◌+◌, ◌-◌, ◌*◌, ◌^◌, ◌<◌, ◌≤◌, List, [], ◌∷◌, ◌++◌, length, get_or, take, refl, ap, ◌∙◌, rules}
use Rattle.std.proofs.lemmas.List.{take_more}
use Rattle.std.proofs.lemmas.Str.Parse.{IsNumeralModel, numerals_by_fold, digits_value_short}
use Rattle.records.specs.Numerals.{Digits, number_after, number}

-- `Digits` and `number` are the library's words for a numeral in base ten
pub own : IsNumeralModel Digits number
own = numerals_by_fold Digits (search rules) number_after (search rules)

pub number_short : (ds : List ℕ) (k : ℕ) → Digits ds → length ds ≤ k → number ds < 10 ^ k
number_short ds k h l = digits_value_short own ds k h l

number_after_push : (n : ℕ) (ds : List ℕ) (d : ℕ) → number_after n (ds ++ (d ∷ [])) ≡ number_after n ds * 10 + (d - 48)
number_after_push n [] d = refl
number_after_push n (e ∷ ds) d = number_after_push (n * 10 + (e - 48)) ds d

pub number_more : (ds : List ℕ) (i : ℕ) → i < length ds → number (take (i + 1) ds) ≡ number (take i ds) * 10 + (get_or ds i 0 - 48)
number_more ds i h = ap number (take_more ds i 0 h) ∙ number_after_push 0 (take i ds) (get_or ds i 0)
