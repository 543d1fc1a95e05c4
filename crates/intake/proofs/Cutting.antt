-- An input is cut into its records, and the first record ends at the first CR LF. Assumes nothing.
use Rattle.std.proofs.Common.{◌≡◌, ℕ, zero, suc, ◌+◌, ◌<◌, Bool, true, false, ◌&&◌, eqb, List, [], ◌∷◌, ◌++◌, length, get_or, take, drop, sym, refl, ap, ◌∙◌, subst, ⊎_elim, append_assoc, arith, length-append, eq-eqb, eqb-true}
use Rattle.std.proofs.lemmas.List.{get_or_append_left, get_or-append-add, get_or_at, take_at, drop_at}
use Rattle.std.proofs.lemmas.Bool.{and_parts, and_from, cases_lt}
use Rattle.intake.specs.Inputs.{EndsAt, NoEnd, Cut, none, last, more, onto, records}

-- whether a CR LF stands in front, and what the records are then
abbrev front : ℕ → ℕ → Bool
front b c = eqb b 13 && eqb c 10

abbrev at_front : ℕ → ℕ → List ℕ → Bool → List (List ℕ)
at_front b c rest t = elim t [ true ↦ [] ∷ records rest | false ↦ onto b (records (c ∷ rest)) ]

is_front : (b c : ℕ) → b ≡ 13 → c ≡ 10 → front b c ≡ true
is_front b c p q = and_from (eqb b 13) (eqb c 10) (eq-eqb b 13 p) (eq-eqb c 10 q)

front_is : (b c : ℕ) → front b c ≡ true → (b ≡ 13) × (c ≡ 10)
front_is b c e = let both = and_parts (eqb b 13) (eqb c 10) e in (eqb-true b 13 both.0, eqb-true c 10 both.1)

not_front : (b c : ℕ) (t : Bool) → front b c ≡ t → (b ≡ 13 → c ≡ 10 → ⊥) → front b c ≡ false
not_front b c true e h = let is = front_is b c e in absurd (h is.0 is.1)
not_front b c false e h = e

-- behind a byte more in front, and before it
behind : (b : ℕ) (bs : List ℕ) (i : ℕ) → EndsAt bs i → EndsAt (b ∷ bs) (suc i)
behind b bs i h =
    let next : suc i + 1 ≡ suc (i + 1) = omega arith in
    (omega (arith, h.0), h.1, ap (λ n. get_or (b ∷ bs) n 0) next ∙ h.2)

ahead : (b : ℕ) (bs : List ℕ) (i : ℕ) → EndsAt (b ∷ bs) (suc i) → EndsAt bs i
ahead b bs i h =
    let next : suc (i + 1) ≡ suc i + 1 = omega arith in
    (omega (arith, h.0), h.1, ap (λ n. get_or (b ∷ bs) n 0) next ∙ h.2)

-- the first record, where there is a CR LF
pub cut_at : (bs : List ℕ) (i : ℕ) → EndsAt bs i → ((j : ℕ) → j < i → EndsAt bs j → ⊥) → records bs ≡ take i bs ∷ records (drop (suc (suc i)) bs)
cut_at [] i h before = absurd (omega (arith, h.0))
cut_at (b ∷ []) i h before = absurd (omega (arith, h.0))
cut_at (b ∷ c ∷ rest) zero h before = ap (at_front b c rest) (is_front b c h.1 h.2)
cut_at (b ∷ c ∷ rest) (suc i) h before =
    ap (at_front b c rest) (not_front b c (front b c) refl (λ p q. before 0 (omega arith) (omega arith, p, q)))
    ∙ ap (onto b) (cut_at (c ∷ rest) i (ahead b (c ∷ rest) i h) (λ j lt e. before (suc j) (omega arith) (behind b (c ∷ rest) j e)))

-- and where there is none
pub cut_none : (bs : List ℕ) → 0 < length bs → NoEnd bs → records bs ≡ bs ∷ []
cut_none [] some no_end = absurd (omega arith)
cut_none (b ∷ []) some no_end = refl
cut_none (b ∷ c ∷ rest) some no_end =
    ap (at_front b c rest) (not_front b c (front b c) refl (λ p q. no_end 0 (omega arith, p, q)))
    ∙ ap (onto b) (cut_none (c ∷ rest) (omega arith) (λ j e. no_end (suc j) (behind b (c ∷ rest) j e)))

-- a byte in front of an input that does not make a CR LF
no_end_more : (b : ℕ) (r : List ℕ) → (b ≡ 13 → 0 < length r → get_or r 0 0 ≡ 10 → ⊥) → NoEnd r → NoEnd (b ∷ r)
no_end_more b r apart h zero e = apart e.1 (omega (arith, e.0)) e.2
no_end_more b r apart h (suc i) e = h i (ahead b r i e)

one_more : (b : ℕ) (bs : List ℕ) (rs : List (List ℕ)) → 0 < length bs → (b ≡ 13 → get_or bs 0 0 ≡ 10 → ⊥) → Cut bs rs → Cut (b ∷ bs) (onto b rs)
one_more b _ _ some apart none = absurd (omega arith)
one_more b _ _ some apart (last {r} no_end long) = last (no_end_more b r (λ p _ q. apart p q) no_end) (omega arith)
one_more b _ _ some apart (more {r} {rest} no_end cut) =
    more (no_end_more b r (λ p long q. apart p (get_or_append_left r (13 ∷ 10 ∷ rest) 0 0 long ∙ q)) no_end) cut

cut_two : (b c : ℕ) (rest : List ℕ) (t : Bool) → front b c ≡ t → Cut rest (records rest) → Cut (c ∷ rest) (records (c ∷ rest)) → Cut (b ∷ c ∷ rest) (at_front b c rest t)
cut_two b c rest true e cut _ =
    let is = front_is b c e in
    subst (λ x. Cut (x ∷ c ∷ rest) ([] ∷ records rest)) (sym is.0) (subst (λ y. Cut (13 ∷ y ∷ rest) ([] ∷ records rest)) (sym is.1) (more {r = []} (λ i h. omega (arith, h.0)) cut))
cut_two b c rest false e _ cut =
    one_more b (c ∷ rest) (records (c ∷ rest)) (omega arith) (λ p q. let z : ◌≡◌ {A = Bool} true false = sym (is_front b c p q) ∙ e in let n : ◌≡◌ {A = ℕ} 0 1 = cc in omega arith) cut

pub cut_records : (bs : List ℕ) → Cut bs (records bs)
cut_records [] = none
cut_records (b ∷ []) = last (λ i h. omega (arith, h.0)) (omega arith)
cut_records (b ∷ c ∷ rest) = cut_two b c rest (front b c) refl (cut_records rest) (cut_records (c ∷ rest))

-- no CR LF begins within a record that is followed by one
unended : (r rest : List ℕ) → NoEnd r → (j : ℕ) → j < length r → EndsAt (r ++ (13 ∷ 10 ∷ rest)) j → ⊥
unended r rest no_end j before ends =
    let first : get_or r j 0 ≡ 13 = sym (get_or_append_left r (13 ∷ 10 ∷ rest) 0 j before) ∙ ends.1 in
    ⊎_elim
    (λ inside. no_end j (inside, first, sym (get_or_append_left r (13 ∷ 10 ∷ rest) 0 (j + 1) inside) ∙ ends.2))
    (λ over.
    let at : length r ≡ j + 1 = omega arith in
    let second : ◌≡◌ {A = ℕ} 13 10 = sym (get_or_at r 13 (10 ∷ rest) 0 (j + 1) at) ∙ ends.2 in
    omega arith)
    (cases_lt (j + 1) (length r))

ended_at : (r rest : List ℕ) → EndsAt (r ++ (13 ∷ 10 ∷ rest)) (length r)
ended_at r rest = (
  omega (arith, length-append r (13 ∷ 10 ∷ rest)),
  get_or_at r 13 (10 ∷ rest) 0 (length r) refl,
  get_or-append-add r (13 ∷ 10 ∷ rest) 1 0,
)

-- an input is cut in one way only
pub cut_once : (bs : List ℕ) (rs : List (List ℕ)) → Cut bs rs → rs ≡ records bs
cut_once _ _ none = refl
cut_once _ _ (last {r} no_end some) = sym (cut_none r some no_end)
cut_once _ _ (more {r} {rest} {rs} no_end cut) =
    let two : length (r ++ (13 ∷ 10 ∷ [])) ≡ suc (suc (length r)) = length-append r (13 ∷ 10 ∷ []) ∙ omega arith in
    ap (λ ss. r ∷ ss) (cut_once rest rs cut)
    ∙ sym
    (cut_at (r ++ (13 ∷ 10 ∷ rest)) (length r) (ended_at r rest) (unended r rest no_end)
    ∙ ap (λ front. front ∷ records (drop (suc (suc (length r))) (r ++ (13 ∷ 10 ∷ rest)))) (take_at r (13 ∷ 10 ∷ rest) (length r) refl)
    ∙ ap (λ l. r ∷ records l) (ap (drop (suc (suc (length r)))) (sym (append_assoc r (13 ∷ 10 ∷ []) rest)) ∙ drop_at (r ++ (13 ∷ 10 ∷ [])) rest (suc (suc (length r))) two))
