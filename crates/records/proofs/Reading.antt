-- A record is one line at most, and a line or faulty and never both. Assumes nothing.
use Rattle.std.proofs.Common.{◌≡◌, ℕ, List, [], ◌∷◌, ◌++◌, get_or, pos, Ok, Err, Result, sym, refl, ap, ◌∙◌, subst, arith, lit<}
use Rattle.std.specs.List.{AllByRecursion}
use Rattle.std.proofs.ByRecursion.{All-push}
use Rattle.base.proofs.Money.{same_cents}
use Rattle.base.specs.declared.cents.Cents.{Cents}
use Rattle.lines.specs.declared.faults.LineFault.{LineFault}
use Rattle.lines.specs.declared.line.Line.{Line}
use Rattle.lines.specs.declared.line.Pool.{Pool}
use Rattle.lines.specs.declared.line.Pool.TheVariants.{Win, Place}
use Rattle.lines.specs.declared.line.Race.{Race}
use Rattle.lines.specs.declared.line.Runner.{Runner}
use Rattle.lines.specs.declared.line.Terminal.{Terminal}
use Rattle.lines.specs.Lines.{letter_of}
use Rattle.records.specs.declared.fields.Field.{Field}
use Rattle.records.specs.declared.fields.Field.TheVariants as field
use Rattle.records.specs.declared.fields.Fields.{Fields}
use Rattle.records.specs.Numerals.{Nothing}
use Rattle.records.specs.Records.{Shaped, TerminalSays, RaceSays, PoolSays, RunnerSays, AmountSays, FieldSays, Reads, Fine, FieldRead, bytes_of, all_fields, fault_of, FirstFault, no_shape, at_field}
use Rattle.records.proofs.Amounts.{head_same, tail_same, says_once}

pub excludes : {row : List ℕ} {f : LineFault} {l : Line} → FirstFault row f → Reads row l → ⊥
excludes (no_shape none) h = none h.shaped
excludes {l = l} (at_field left f right order shaped fine none) h = none (record { line = l; says = h.fields f })

same_letter : (p q : Pool) → letter_of p ≡ letter_of q → p ≡ q
same_letter Win Win e = refl
same_letter Win Place e = absurd (omega arith)
same_letter Place Win e = absurd (omega arith)
same_letter Place Place e = refl

pub reads_once : {row : List ℕ} (l m : Line) → Reads row l → Reads row m → l ≡ m
reads_once l m g h =
    let terminal_same : l.terminal.0 ≡ m.terminal.0 = (g.fields field.Terminal).says ∙ sym (h.fields field.Terminal).says in
    let race_same : l.race.0 ≡ m.race.0 = (g.fields field.Race).says ∙ sym (h.fields field.Race).says in
    let runner_same : l.runner.0 ≡ m.runner.0 = (g.fields field.Runner).says ∙ sym (h.fields field.Runner).says in
    let pool_same = same_letter l.pool m.pool (ap (λ b. get_or b 0 0) (sym (g.fields field.Pool) ∙ h.fields field.Pool)) in
    let amount_same = same_cents l.amount m.amount (says_once (g.fields field.Amount) (h.fields field.Amount)) in
    λ i. record {
      terminal = record { 0 = terminal_same i };
      race = record { 0 = race_same i };
      pool = pool_same i;
      runner = record { 0 = runner_same i };
      amount = amount_same i;
    }

-- the five fields, one by one
pub each_field : (row : List ℕ) (l : Line) → FieldSays row field.Terminal l → FieldSays row field.Race l → FieldSays row field.Pool l → FieldSays row field.Runner l → FieldSays row field.Amount l → (f : Field) → FieldSays row f l
each_field row l t r p n a field.Terminal = t
each_field row l t r p n a field.Race = r
each_field row l t r p n a field.Pool = p
each_field row l t r p n a field.Runner = n
each_field row l t r p n a field.Amount = a

-- what a field holds, and what its bytes say
abbrev pub Value : Field → Type 0
Value field.Terminal = Terminal
Value field.Race = Race
Value field.Pool = Pool
Value field.Runner = Runner
Value field.Amount = Cents

abbrev pub ValueSays : (f : Field) → List ℕ → Value f → Type 0
ValueSays field.Terminal = TerminalSays
ValueSays field.Race = RaceSays
ValueSays field.Pool = PoolSays
ValueSays field.Runner = RunnerSays
ValueSays field.Amount = AmountSays

-- a value that a field says is so of some line; the line's other values do not matter
blank : Line
blank = record {
  terminal = record { 0 = 0 };
  race = record { 0 = 0 };
  pool = Win;
  runner = record { 0 = 0 };
  amount = record { cents = pos 0; fits = lit< tt };
}

fine : {row : List ℕ} (f : Field) (v : Value f) → ValueSays f (bytes_of f row) v → Fine row f
unfolding blank
fine field.Terminal v h = record { line = record blank { terminal = v }; says = h }
fine field.Race v h = record { line = record blank { race = v }; says = h }
fine field.Pool v h = record { line = record blank { pool = v }; says = h }
fine field.Runner v h = record { line = record blank { runner = v }; says = h }
fine field.Amount v h = record { line = record blank { amount = v }; says = h }

not_fine : {row : List ℕ} (f : Field) → Nothing (ValueSays f (bytes_of f row)) → Fine row f → ⊥
not_fine field.Terminal none h = none h.line.terminal h.says
not_fine field.Race none h = none h.line.race h.says
not_fine field.Pool none h = none h.line.pool h.says
not_fine field.Runner none h = none h.line.runner h.says
not_fine field.Amount none h = none h.line.amount h.says

-- How far the reader has come in a record: the fields to the left are fine.
pub record Reached (row : List ℕ) (fields : Fields) (left : List Field) : Type 0 where
  pub shaped : Shaped row
  pub same : fields.row.now ≡ row
  pub fine : AllByRecursion (Fine row) left

pub reads_as : {row : List ℕ} {before after : Fields} {left : List Field} (f : Field) (v : Value f) → Reached row before left → FieldRead f (ValueSays f) before after (Ok v) → ValueSays f (bytes_of f row) v
reads_as f v at read = subst (λ r. ValueSays f (bytes_of f r) v) at.same read.says

pub reaches : {row : List ℕ} {before after : Fields} (left : List Field) (f : Field) (v : Value f) → Reached row before left → FieldRead f (ValueSays f) before after (Ok v) → Reached row after (left ++ (f ∷ []))
reaches {row} left f v at read = record {
  shaped = at.shaped;
  same = ap (λ r. r.now) read.same ∙ at.same;
  fine = All-push (Fine row) left f at.fine (fine f v (reads_as f v at read));
}

-- the first of a list that is not fine is one alone
first_once : {A : Type 0} (P : A → Type 0) (l m : List A) (x y : A) (xs ys : List A) → l ++ (x ∷ xs) ≡ m ++ (y ∷ ys) → AllByRecursion P l → (P x → ⊥) → AllByRecursion P m → (P y → ⊥) → x ≡ y
first_once P [] [] x y xs ys e p no_x q no_y = head_same e
first_once P [] (b ∷ m) x y xs ys e p no_x q no_y = absurd (no_x (subst P (sym (head_same e)) q.0))
first_once P (a ∷ l) [] x y xs ys e p no_x q no_y = absurd (no_y (subst P (head_same e) p.0))
first_once P (a ∷ l) (b ∷ m) x y xs ys e p no_x q no_y = first_once P l m x y xs ys (tail_same e) p.1 no_x q.1 no_y

-- a record has one first fault at most
fault_once : {row : List ℕ} {f g : LineFault} → FirstFault row f → FirstFault row g → f ≡ g
fault_once {row} (no_shape _) (no_shape _) = refl
fault_once {row} (no_shape none) (at_field _ _ _ _ shaped _ _) = absurd (none shaped)
fault_once {row} (at_field _ _ _ _ shaped _ _) (no_shape none) = absurd (none shaped)
fault_once {row} (at_field l f xs p _ fine none) (at_field m g ys q _ fine' none') = ap fault_of (first_once (Fine row) l m f g xs ys (sym p ∙ q) fine none fine' none')

-- what the reader answers for a fault
pub record Away (row : List ℕ) (f : LineFault) : Type 0 where
  pub says : FirstFault row f
  pub only : (l : Line) → Reads row l → ◌≡◌ {A = Result Line LineFault} (Err f) (Ok l)
  pub first : (g : LineFault) → FirstFault row g → ◌≡◌ {A = Result Line LineFault} (Err f) (Err g)

pub turned_away : {row : List ℕ} {f g : LineFault} → f ≡ g → FirstFault row f → Away row g
turned_away {row} same h =
    let there = subst (FirstFault row) same h in
    record { says = there; only = λ l reads. absurd (excludes there reads); first = λ g bad. ap Err (fault_once there bad) }

-- the reader stops at the first field that is not fine
pub stops : {row : List ℕ} {before after : Fields} (left : List Field) (f : Field) (right : List Field) {fault answer : LineFault} → all_fields ≡ left ++ (f ∷ right) → Reached row before left → FieldRead f (ValueSays f) before after (Err fault) → fault ≡ answer → Away row answer
stops left f right order at read same =
    turned_away (sym read.says.0 ∙ same)
    (at_field left f right order at.shaped at.fine (not_fine f (subst (λ r. Nothing (ValueSays f (bytes_of f r))) at.same read.says.1)))
