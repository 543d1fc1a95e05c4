-- A line that can be shown is written as a record that says it, and no record says any other line. Assumes nothing.
use Rattle.std.proofs.Common.{◌≡◌, ℕ, zero, suc, ◌+◌, ◌-◌, ◌*◌, ◌/◌, ◌%◌, ◌^◌, ◌<◌, ◌≤◌, List, [], ◌∷◌, ◌++◌, length, replicate, ℤ, pos, negsuc, nat_abs, decimal, sym, refl, ap, ◌∙◌, subst, append_assoc, arith, length-append}
use lib.ListN.{length-replicate}
use Rattle.std.proofs.lemmas.Fmt.{digits_decimal, digits_value-decimal, decimal_nonempty, length-decimal-le}
use Rattle.std.proofs.lemmas.List.{take_all}
use Rattle.base.specs.Money.{unsigned, dollars}
use Rattle.records.specs.declared.amount.Sign.{Sign}
use Rattle.records.specs.declared.amount.Sign.TheVariants.{Unsigned, Plus, Minus}
use Rattle.records.specs.declared.fields.Field.TheVariants.{Terminal, Race, Pool, Runner, Amount}
use Rattle.lines.specs.declared.line.Line.{Line}
use Rattle.records.specs.Amounts.{sign_bytes, signed, Says}
use Rattle.lines.specs.Lines.{letter_of}
use Rattle.records.specs.Records.{Shaped, TerminalSays, RaceSays, RunnerSays, AmountSays, bytes_of, Reads}
use Rattle.records.specs.Written.{right, written, Shows}
use Rattle.records.specs.Numerals.{Digits, number, Numeral}
use Rattle.records.proofs.Digits.{own, number_short}
use Rattle.records.proofs.RecordLayout.{whole_six, unsigned_long}
use Rattle.records.proofs.Reading.{each_field}

pub right_long : (width fill : ℕ) (text : List ℕ) → length text ≤ width → length (right width fill text) ≡ width
right_long width fill text fits = simp (length-append, length-replicate) (omega arith)

-- zeros in front change nothing
zeros_digits : (k : ℕ) (ds : List ℕ) → Digits ds → Digits (replicate k 48 ++ ds)
zeros_digits zero ds h = h
zeros_digits (suc k) ds h = ((omega arith, omega arith), zeros_digits k ds h)

zeros_number : (k : ℕ) (ds : List ℕ) → number (replicate k 48 ++ ds) ≡ number ds
zeros_number zero ds = refl
zeros_number (suc k) ds = zeros_number k ds

right_says : (width most n : ℕ) → n < 2 ^ 64 → 1 ≤ n → n ≤ most → Numeral 1 most (right width 48 (decimal n)) n
right_says width most n fits least top =
    let zeros = width - length (decimal n) in
    record {
      digits = zeros_digits zeros (decimal n) (digits_decimal own n fits);
      says = sym (zeros_number zeros (decimal n) ∙ digits_value-decimal own n fits);
      least = least;
      most = top;
    }

-- the digits of a number from 1 to `most`, at the right of as many bytes as `most` has digits
number_field : (width most n : ℕ) → 0 < width → most < 10 ^ width → most < 2 ^ 64 → 1 ≤ n → n ≤ most → (length (right width 48 (decimal n)) ≡ width) × Numeral 1 most (right width 48 (decimal n)) n
number_field width most n some room fits least top =
    let small : n < 2 ^ 64 = omega arith in (
      right_long width 48 (decimal n) (length-decimal-le width n some (omega arith) small),
      right_says width most n small least top,
    )

-- the ten bytes of an amount say it
module _ (m : ℕ) (few : m ≤ 99999999) where
  abbrev fraction : List ℕ
  fraction = (48 + m / 10 % 10) ∷ (48 + m % 10) ∷ []

  fraction_says : number fraction ≡ m / 10 % 10 * 10 + m % 10
  fraction_says = omega arith

  sum : 100 * number (decimal (m / 100)) + number fraction ≡ m
  sum = omega (arith, digits_value-decimal own (m / 100) (omega arith), fraction_says)

  amount_says : (sign : Sign) → length (sign_bytes sign) ≤ 1 → Says (right 10 32 (sign_bytes sign ++ unsigned m)) (signed sign m)
  amount_says sign one =
      let text : List ℕ = sign_bytes sign ++ unsigned m in
      let six = whole_six m few in
      let long : length text ≡ length (sign_bytes sign) + length (unsigned m) = length-append (sign_bytes sign) (unsigned m) in
      record {
        spaces = 10 - length text;
        sign = sign;
        whole = decimal (m / 100);
        fraction = fraction;
        layout = simp append_assoc;
        ten = right_long 10 32 text (omega (arith, unsigned_long m));
        whole_digits = digits_decimal own (m / 100) (omega arith);
        whole_some = decimal_nonempty (m / 100) (omega arith);
        whole_six = six;
        fraction_digits = ((omega arith, omega arith), ((omega arith, omega arith), tt));
        fraction_two = refl;
        value = ap (signed sign) (sym sum);
      }

pub dollars_says : (z : ℤ) → nat_abs z ≤ 99999999 → Says (right 10 32 (dollars z)) z
dollars_says (pos n) few = amount_says n few Unsigned (omega arith)
dollars_says (negsuc n) few = amount_says (suc n) few Minus (omega arith)

signed_size : (sign : Sign) (m : ℕ) → nat_abs (signed sign m) ≡ m
signed_size Unsigned m = refl
signed_size Plus m = refl
signed_size Minus zero = refl
signed_size Minus (suc m) = refl

says_few : {bytes : List ℕ} {z : ℤ} → Says bytes z → nat_abs z ≤ 99999999
says_few s =
    omega (
      arith,
      ap nat_abs s.value ∙ signed_size s.sign (100 * number s.whole + number s.fraction),
      number_short s.whole 6 s.whole_digits s.whole_six,
      number_short s.fraction 2 s.fraction_digits (omega (arith, s.fraction_two)),
    )

pub reads_shows : {row : List ℕ} {l : Line} → Reads row l → Shows l
reads_shows h = record {
  terminal_least = (h.fields Terminal).least;
  terminal_most = (h.fields Terminal).most;
  race_least = (h.fields Race).least;
  race_most = (h.fields Race).most;
  runner_least = (h.fields Runner).least;
  runner_most = (h.fields Runner).most;
  amount_most = says_few (h.fields Amount);
}

-- lists of two and of three
pub two : (P : List ℕ → Type 0) (xs : List ℕ) → length xs ≡ 2 → ((x y : ℕ) → P (x ∷ y ∷ [])) → P xs
two P [] e h = absurd (omega arith)
two P (x ∷ []) e h = absurd (omega arith)
two P (x ∷ y ∷ []) e h = h x y
two P (x ∷ y ∷ z ∷ xs) e h = absurd (omega arith)

pub three : (P : List ℕ → Type 0) (xs : List ℕ) → length xs ≡ 3 → ((x y z : ℕ) → P (x ∷ y ∷ z ∷ [])) → P xs
three P [] e h = absurd (omega arith)
three P (x ∷ xs) e h = two (λ ys. P (x ∷ ys)) xs (omega arith) (h x)

-- the fields with commas between them
abbrev pub joined : List ℕ → List ℕ → ℕ → List ℕ → List ℕ → List ℕ
joined t r b n a = t ++ (44 ∷ (r ++ (44 ∷ b ∷ 44 ∷ (n ++ (44 ∷ a)))))

-- what the fields of a record are, by how it is put together
record Fields (t r : List ℕ) (b : ℕ) (n a row : List ℕ) : Type 0 where
  shaped : Shaped row
  terminal : bytes_of Terminal row ≡ t
  race : bytes_of Race row ≡ r
  pool : bytes_of Pool row ≡ b ∷ []
  runner : bytes_of Runner row ≡ n
  amount : bytes_of Amount row ≡ a

joined_fields : (t r : List ℕ) (b : ℕ) (n a : List ℕ) → length t ≡ 3 → length r ≡ 2 → length n ≡ 2 → length a ≡ 10 → Fields t r b n a (joined t r b n a)
joined_fields t r b n a ht hr hn ha =
    three (λ t. Fields t r b n a (joined t r b n a)) t ht (λ x y z.
    two (λ r. Fields (x ∷ y ∷ z ∷ []) r b n a (joined (x ∷ y ∷ z ∷ []) r b n a)) r hr (λ u v.
    two (λ n. Fields (x ∷ y ∷ z ∷ []) (u ∷ v ∷ []) b n a (joined (x ∷ y ∷ z ∷ []) (u ∷ v ∷ []) b n a)) n hn (λ p q.
    record {
      shaped = record { long = omega arith; comma_3 = refl; comma_6 = refl; comma_8 = refl; comma_11 = refl };
      terminal = refl;
      race = refl;
      pool = refl;
      runner = refl;
      amount = take_all 10 a (omega arith);
    })))

pub written_reads : (l : Line) → Shows l → Reads (written l) l
written_reads l s =
    let terminal = number_field 3 999 l.terminal.0 (omega arith) (omega arith) (omega arith) s.terminal_least s.terminal_most in
    let race = number_field 2 20 l.race.0 (omega arith) (omega arith) (omega arith) s.race_least s.race_most in
    let runner = number_field 2 24 l.runner.0 (omega arith) (omega arith) (omega arith) s.runner_least s.runner_most in
    let amount = dollars_says l.amount.cents s.amount_most in
    let fields = joined_fields _ _ (letter_of l.pool) _ _ terminal.0 race.0 runner.0 amount.ten in
    record {
      shaped = fields.shaped;
      fields = each_field _ l
          (subst (λ bytes. TerminalSays bytes l.terminal) (sym fields.terminal) terminal.1)
          (subst (λ bytes. RaceSays bytes l.race) (sym fields.race) race.1)
          fields.pool
          (subst (λ bytes. RunnerSays bytes l.runner) (sym fields.runner) runner.1)
          (subst (λ bytes. AmountSays bytes l.amount) (sym fields.amount) amount);
    }
