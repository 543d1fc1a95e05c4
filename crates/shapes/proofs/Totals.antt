-- A total over the parentless nodes of a draft, by any operation whose order does not matter. Assumes nothing.
use Rattle.std.proofs.Common.{◌≡◌, ℕ, suc, ◌+◌, ◌-◌, ◌<◌, ◌≤◌, Bool, true, false, cond, not, ◌||◌, eqb, List, [], ◌∷◌, ◌++◌, length, get_or, filter, sym, refl, ap, ◌∙◌, ⊎_elim, arith}
use Rattle.std.proofs.Math.Bool.{or-false}
use Rattle.std.proofs.lemmas.Bool.{cases_eq, eq-eqb, ne_eqb, or_right}
use Rattle.shapes.specs.Shapes.{Shape, number}

-- numbers that count up from b
abbrev pub Counts : ℕ → List Shape → Type 0
Counts b [] = Unit {0}
Counts b (u ∷ us) = (number u ≡ b) × Counts (suc b) us

-- one more number is marked
abbrev pub mark : (ℕ → Bool) → ℕ → ℕ → Bool
mark P l k = P k || eqb k l

mark_other : (P : ℕ → Bool) (l k : ℕ) → (k ≡ l → ⊥) → mark P l k ≡ P k
mark_other P l k ne = ap (λ b. P k || b) (ne_eqb k l ne) ∙ or-false (P k)

mark_same : (P : ℕ → Bool) (l : ℕ) → mark P l l ≡ true
mark_same P l = or_right (P l) (eqb l l) (eq-eqb l l refl)

pub record Order (op : ℕ → ℕ → ℕ) : Type 0 where
  pub none : (a : ℕ) → op 0 a ≡ a
  pub comm : (a b : ℕ) → op a b ≡ op b a
  pub assoc : (a b c : ℕ) → op (op a b) c ≡ op a (op b c)

module _ (f : Shape → ℕ) (op : ℕ → ℕ → ℕ) where
  -- the total of f over all shapes, and over those whose numbers are not marked
  abbrev pub total : List Shape → ℕ
  total [] = 0
  total (u ∷ us) = op (f u) (total us)

  abbrev pub unmarked : (ℕ → Bool) → List Shape → ℕ
  unmarked P [] = 0
  unmarked P (u ∷ us) = op (cond (P (number u)) 0 (f u)) (unmarked P us)

  pub unmarked_like : (P Q : ℕ → Bool) → ((k : ℕ) → P k ≡ Q k) → (us : List Shape) → unmarked P us ≡ unmarked Q us
  unmarked_like P Q e [] = refl
  unmarked_like P Q e (u ∷ us) = ap (λ b. op (cond b 0 (f u)) (unmarked P us)) (e (number u)) ∙ ap (λ n. op (cond (Q (number u)) 0 (f u)) n) (unmarked_like P Q e us)

module _ (f : Shape → ℕ) (op : ℕ → ℕ → ℕ) (o : Order op) where
  pub total_kept : (P : ℕ → Bool) (us : List Shape) → total f op (filter (λ u. not (P (number u))) us) ≡ unmarked f op P us
  total_kept P [] = refl
  total_kept P (u ∷ us) =
      elim (P (number u)) as (λ b. total f op (cond (not b) (u ∷ filter (λ v. not (P (number v))) us) (filter (λ v. not (P (number v))) us)) ≡ op (cond b 0 (f u)) (unmarked f op P us))
      [ true ↦ total_kept P us ∙ sym (o.none (unmarked f op P us)) | false ↦ ap (op (f u)) (total_kept P us) ]

  pub unmarked_push : (P : ℕ → Bool) (us : List Shape) (u : Shape) → unmarked f op P (us ++ (u ∷ [])) ≡ op (unmarked f op P us) (cond (P (number u)) 0 (f u))
  unmarked_push P [] u = o.comm (cond (P (number u)) 0 (f u)) 0
  unmarked_push P (v ∷ us) u = ap (op (cond (P (number v)) 0 (f v))) (unmarked_push P us u) ∙ sym (o.assoc (cond (P (number v)) 0 (f v)) (unmarked f op P us) (cond (P (number u)) 0 (f u)))

  -- to mark a number that comes no more changes nothing
  mark_past : (P : ℕ → Bool) (l b : ℕ) (us : List Shape) → Counts b us → l < b → unmarked f op (mark P l) us ≡ unmarked f op P us
  mark_past P l b [] c lt = refl
  mark_past P l b (u ∷ us) c lt =
      ap (λ m. op (cond m 0 (f u)) (unmarked f op (mark P l) us)) (mark_other P l (number u) (λ e. omega (arith, c.0)))
      ∙ ap (λ n. op (cond (P (number u)) 0 (f u)) n) (mark_past P l (suc b) us c.1 (omega arith))

  swapped : (a b c : ℕ) → op a (op b c) ≡ op b (op a c)
  swapped a b c = sym (o.assoc a b c) ∙ ap (λ n. op n c) (o.comm a b) ∙ o.assoc b a c

  -- to mark one takes its part out of the total
  pub mark_one : (P : ℕ → Bool) (l b : ℕ) (us : List Shape) (d : Shape) → Counts b us → b ≤ l → l < b + length us → P l ≡ false → unmarked f op P us ≡ op (f (get_or us (l - b) d)) (unmarked f op (mark P l) us)
  mark_one P l b [] d c ge lt free = absurd (omega arith)
  mark_one P l b (u ∷ us) d c ge lt free =
      ⊎_elim
      (λ e. let at : number u ≡ l = c.0 ∙ sym e in
      let first : 0 ≡ l - b = omega arith in
      ap (λ n. op (cond (P n) 0 (f u)) (unmarked f op P us)) at
      ∙ ap (λ m. op (cond m 0 (f u)) (unmarked f op P us)) free
      ∙ ap (op (f u)) (sym (mark_past P l (suc b) us c.1 (omega arith)))
      ∙ ap (op (f u)) (sym (o.none (unmarked f op (mark P l) us)))
      ∙ ap (λ m. op (f u) (op (cond m 0 (f u)) (unmarked f op (mark P l) us))) (sym (mark_same P l))
      ∙ ap (λ n. op (f u) (op (cond (mark P l n) 0 (f u)) (unmarked f op (mark P l) us))) (sym at)
      ∙ ap (λ k. op (f (get_or (u ∷ us) k d)) (op (cond (mark P l (number u)) 0 (f u)) (unmarked f op (mark P l) us))) first)
      (λ ne. let before : b < l = omega (arith, λ (h : l ≡ b). ne h) in
      let step : l - b ≡ suc (l - suc b) = omega arith in
      let q = cond (P (number u)) 0 (f u) in
      ap (op q) (mark_one P l (suc b) us d c.1 before (omega arith) free)
      ∙ swapped q (f (get_or us (l - suc b) d)) (unmarked f op (mark P l) us)
      ∙ ap (λ m. op (f (get_or us (l - suc b) d)) (op (cond m 0 (f u)) (unmarked f op (mark P l) us))) (sym (mark_other P l (number u) (λ e. omega (arith, c.0))))
      ∙ ap (λ k. op (f (get_or (u ∷ us) k d)) (op (cond (mark P l (number u)) 0 (f u)) (unmarked f op (mark P l) us))) (sym step))
      (cases_eq l b)
