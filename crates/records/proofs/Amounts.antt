-- The bytes of an amount are cut in one way only. Assumes nothing.
use Rattle.std.proofs.Common.{◌≡◌, ℕ, zero, suc, ◌+◌, ◌*◌, ◌≤◌, List, [], ◌∷◌, ◌++◌, length, get_or, take, drop, replicate, ℤ, sym, refl, ap, ◌∙◌, subst, append_assoc, arith, length-append}
use Rattle.std.proofs.lemmas.List.{take_at, drop_at, get_or_at}
use Rattle.records.specs.declared.amount.Sign.{Sign}
use Rattle.records.specs.declared.amount.Sign.TheVariants.{Unsigned, Plus, Minus}
use Rattle.records.specs.Amounts.{sign_bytes, signed, Says}
use Rattle.records.specs.Numerals.{Digit, Digits, number}

-- the first byte, and what a text does not begin with
abbrev pub first : List ℕ → ℕ
first text = get_or text 0 0

abbrev pub Lacks : ℕ → List ℕ → Type 0
Lacks b text = first text ≡ b → ⊥

pub head_same : {A : Type 0} {a b : A} {xs ys : List A} → a ∷ xs ≡ b ∷ ys → a ≡ b
head_same e = cc

pub tail_same : {A : Type 0} {a b : A} {xs ys : List A} → a ∷ xs ≡ b ∷ ys → xs ≡ ys
tail_same e = cc

-- spaces in front can be taken off in one way only
unpadded_once : (j k : ℕ) (s t : List ℕ) → Lacks 32 s → Lacks 32 t → replicate j 32 ++ s ≡ replicate k 32 ++ t → s ≡ t
unpadded_once zero zero s t p q e = e
unpadded_once zero (suc k) s t p q e = absurd (p (ap first e))
unpadded_once (suc j) zero s t p q e = absurd (q (sym (ap first e)))
unpadded_once (suc j) (suc k) s t p q e = unpadded_once j k s t p q (tail_same e)

-- a sign is taken off in one way only
abbrev pub Bare : Sign → List ℕ → Type 0
Bare sign rest = sign ≡ Unsigned → Lacks 43 rest × Lacks 45 rest

pub record Same (s : Sign) (xs : List ℕ) (t : Sign) (ys : List ℕ) : Type 0 where
  pub sign : s ≡ t
  pub rest : xs ≡ ys

first_digit : (ds : List ℕ) → Digits ds → 1 ≤ length ds → Digit (first ds)
first_digit [] all some = absurd (omega arith)
first_digit (d ∷ ds) all some = all.0

unsigned_once : (s t : Sign) (ds ys : List ℕ) → Digit (first ds) → Bare t ys → sign_bytes s ++ ds ≡ sign_bytes t ++ ys → Same s ds t ys
unsigned_once Unsigned Unsigned ds ys h b e = record { sign = refl; rest = e }
unsigned_once Unsigned Plus ds ys h b e = absurd (omega (arith, ap first e))
unsigned_once Unsigned Minus ds ys h b e = absurd (omega (arith, ap first e))
unsigned_once Plus Unsigned ds ys h b e = absurd ((b refl).0 (sym (ap first e)))
unsigned_once Plus Plus ds ys h b e = record { sign = refl; rest = tail_same e }
unsigned_once Plus Minus ds ys h b e = absurd (omega (arith, ap first e))
unsigned_once Minus Unsigned ds ys h b e = absurd ((b refl).1 (sym (ap first e)))
unsigned_once Minus Plus ds ys h b e = absurd (omega (arith, ap first e))
unsigned_once Minus Minus ds ys h b e = record { sign = refl; rest = tail_same e }

no_space : (s : Sign) (ds : List ℕ) → Digit (first ds) → Lacks 32 (sign_bytes s ++ ds)
no_space Unsigned ds h e = omega arith
no_space Plus ds h e = omega arith
no_space Minus ds h e = omega arith

-- what the reader finds in ten bytes with a point at 7: the spaces, the sign and what stands behind them
pub record Found (bytes : List ℕ) (sign : Sign) (digits : List ℕ) : Type 0 where
  pub spaces : ℕ
  pub text : List ℕ
  pub ten : length bytes ≡ 10
  pub point : get_or bytes 7 0 ≡ 46
  pub padded : take 7 bytes ≡ replicate spaces 32 ++ text
  pub unpadded : Lacks 32 text
  pub split : text ≡ sign_bytes sign ++ digits
  pub bare : Bare sign digits

-- the bytes before the point, as they are said
abbrev front : {bytes : List ℕ} {z : ℤ} → Says bytes z → List ℕ
front s = replicate s.spaces 32 ++ (sign_bytes s.sign ++ s.whole)

module _ {bytes : List ℕ} {z : ℤ} (s : Says bytes z) where
  front_seven : length (front s) ≡ 7
  front_seven =
      let long : length bytes ≡ length (front s) + length (46 ∷ s.fraction) = ap length s.layout ∙ length-append (front s) (46 ∷ s.fraction) in
      omega (arith, s.ten, s.fraction_two)

  pub said_point : get_or bytes 7 0 ≡ 46
  said_point = ap (λ l. get_or l 7 0) s.layout ∙ get_or_at (front s) 46 s.fraction 0 7 front_seven

  said_front : take 7 bytes ≡ front s
  said_front = ap (take 7) s.layout ∙ take_at (front s) (46 ∷ s.fraction) 7 front_seven

  said_fraction : drop 8 bytes ≡ s.fraction
  said_fraction =
      ap (drop 8) (s.layout ∙ sym (append_assoc (front s) (46 ∷ []) s.fraction))
      ∙ drop_at (front s ++ (46 ∷ [])) s.fraction 8 (length-append (front s) (46 ∷ []) ∙ omega (arith, front_seven))

  -- what was said is what the reader finds
  module _ {sign : Sign} {digits : List ℕ} (found : Found bytes sign digits) where
    pub said_same : Same s.sign s.whole sign digits
    said_same =
        let digit = first_digit s.whole s.whole_digits s.whole_some in
        let text = unpadded_once s.spaces found.spaces _ found.text (no_space s.sign s.whole digit) found.unpadded (sym said_front ∙ found.padded) in
        unsigned_once s.sign sign s.whole digits digit found.bare (text ∙ found.split)

    pub said_digits : Digits digits
    said_digits = subst Digits said_same.rest s.whole_digits

    pub said_some : 1 ≤ length digits
    said_some = subst (λ l. 1 ≤ length l) said_same.rest s.whole_some

    pub said_six : length digits ≤ 6
    said_six = subst (λ l. length l ≤ 6) said_same.rest s.whole_six

    pub said_fraction_digits : Digits (drop 8 bytes)
    said_fraction_digits = subst Digits (sym said_fraction) s.fraction_digits

    pub said_value : z ≡ signed sign (100 * number digits + number (drop 8 bytes))
    said_value =
        let signs = said_same.sign in
        let wholes = said_same.rest in
        let fractions = said_fraction in
        s.value ∙ cc

-- bytes that say an amount have the parts that the reader looks for
says_found : {bytes : List ℕ} {z : ℤ} (s : Says bytes z) → Found bytes s.sign s.whole
says_found s =
    let digit = first_digit s.whole s.whole_digits s.whole_some in
    record {
      spaces = s.spaces;
      text = sign_bytes s.sign ++ s.whole;
      ten = s.ten;
      point = said_point s;
      padded = said_front s;
      unpadded = no_space s.sign s.whole digit;
      split = refl;
      bare = λ _. (λ is. omega (arith, digit), λ is. omega (arith, digit));
    }

-- bytes say at most one amount
pub says_once : {bytes : List ℕ} {y z : ℤ} → Says bytes y → Says bytes z → y ≡ z
says_once s t = let found = says_found s in said_value s found ∙ sym (said_value t found)
