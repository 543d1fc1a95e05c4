-- The 22 bytes of a record, its five fields, and which line they say or which fault comes first. Assumes nothing.
use Rattle.std.specs.Prelude.{◌≡◌, ℕ, List, [], ◌∷◌, ◌++◌, length, take, drop, Some, None, Option, Result, MatchResult, slice_index_or}
use Rattle.std.specs.List.{AllByRecursion}
use Rattle.lines.specs.declared.faults.AmountFault.TheVariants.{Form}
use Rattle.lines.specs.declared.faults.LineFault.{LineFault}
use Rattle.lines.specs.declared.faults.LineFault.TheVariants as fault
use Rattle.records.specs.declared.fields.Field.{Field}
use Rattle.records.specs.declared.fields.Fields.{Fields}
use Rattle.records.specs.declared.fields.FieldText.{FieldText}
use Rattle.records.specs.declared.fields.Field.TheVariants as field
use Rattle.records.specs.declared.fields.Token.{Token}
use Rattle.records.specs.declared.fields.Token.TheVariants as token
use Rattle.lines.specs.declared.line.Line.{Line}
use Rattle.lines.specs.declared.line.Pool.{Pool}
use Rattle.lines.specs.declared.line.Race.{Race}
use Rattle.lines.specs.declared.line.Runner.{Runner}
use Rattle.lines.specs.declared.line.Terminal.{Terminal}
use Rattle.base.specs.declared.cents.Cents.{Cents}
use Rattle.lines.specs.Lines.{letter_of}
use Rattle.records.specs.Amounts.{Says}
use Rattle.records.specs.Numerals.{Nothing, Numeral}

-- 22 bytes, with a comma at each of 3, 6, 8 and 11
pub record Shaped (row : List ℕ) : Type 0 where
  pub long : length row ≡ 22
  pub comma_3 : slice_index_or row 3 0 ≡ 44
  pub comma_6 : slice_index_or row 6 0 ≡ 44
  pub comma_8 : slice_index_or row 8 0 ≡ 44
  pub comma_11 : slice_index_or row 11 0 ≡ 44

-- the place of a field's first byte in the record
abbrev pub place : Field → ℕ
place field.Terminal = 0
place field.Race = 4
place field.Pool = 7
place field.Runner = 9
place field.Amount = 12

-- how many bytes a field has
abbrev pub width : Field → ℕ
width field.Terminal = 3
width field.Race = 2
width field.Pool = 1
width field.Runner = 2
width field.Amount = 10

-- the bytes of a field
abbrev pub bytes_of : Field → List ℕ → List ℕ
bytes_of f row = take (width f) (drop (place f) row)

-- the field that stands to the right of another
abbrev pub following : Field → Option Field
following field.Terminal = Some field.Race
following field.Race = Some field.Pool
following field.Pool = Some field.Runner
following field.Runner = Some field.Amount
following field.Amount = None

-- how many fields are left where one comes next
abbrev pub fields_from : Option Field → ℕ
fields_from (Some field.Terminal) = 5
fields_from (Some field.Race) = 4
fields_from (Some field.Pool) = 3
fields_from (Some field.Runner) = 2
fields_from (Some field.Amount) = 1
fields_from None = 0

-- which field a token holds, and its text
abbrev pub field_of : Token → Field
field_of (token.Terminal _) = field.Terminal
field_of (token.Race _) = field.Race
field_of (token.Pool _) = field.Pool
field_of (token.Runner _) = field.Runner
field_of (token.Amount _) = field.Amount

abbrev pub text_of : Token → FieldText
text_of (token.Terminal text) = text
text_of (token.Race text) = text
text_of (token.Pool text) = text
text_of (token.Runner text) = text
text_of (token.Amount text) = text

-- the token of a field: of its kind, with its place and its bytes
abbrev pub TokenOf : List ℕ → Field → Token → Type 0
TokenOf row f t =
    (field_of t ≡ f) × ((text_of t).place ≡ place f) × ((text_of t).bytes.now ≡ bytes_of f row)

-- what is handed out where `f` comes next, and what comes next then
abbrev pub HandsOut : List ℕ → Option Field → Option Token → Option Field → Type 0
HandsOut row None None after = after ≡ None
HandsOut row None (Some t) after = ⊥
HandsOut row (Some f) None after = ⊥
HandsOut row (Some f) (Some t) after = TokenOf row f t × (after ≡ following f)

-- what the bytes of each field say
abbrev pub TerminalSays : List ℕ → Terminal → Type 0
TerminalSays bytes t = Numeral 1 999 bytes t.0

abbrev pub RaceSays : List ℕ → Race → Type 0
RaceSays bytes r = Numeral 1 20 bytes r.0

abbrev pub PoolSays : List ℕ → Pool → Type 0
PoolSays bytes p = bytes ≡ letter_of p ∷ []

abbrev pub RunnerSays : List ℕ → Runner → Type 0
RunnerSays bytes r = Numeral 1 24 bytes r.0

abbrev pub AmountSays : List ℕ → Cents → Type 0
AmountSays bytes c = Says bytes c.cents

-- what a field says of a line
abbrev pub FieldSays : List ℕ → Field → Line → Type 0
FieldSays row field.Terminal l = TerminalSays (bytes_of field.Terminal row) l.terminal
FieldSays row field.Race l = RaceSays (bytes_of field.Race row) l.race
FieldSays row field.Pool l = PoolSays (bytes_of field.Pool row) l.pool
FieldSays row field.Runner l = RunnerSays (bytes_of field.Runner row) l.runner
FieldSays row field.Amount l = AmountSays (bytes_of field.Amount row) l.amount

-- The record is the line: it has the shape, and each field says what the line has there.
pub record Reads (row : List ℕ) (line : Line) : Type 0 where
  pub shaped : Shaped row
  pub fields : (f : Field) → FieldSays row f line

-- a field in its form and range: what it says is so of some line
pub record Fine (row : List ℕ) (f : Field) : Type 0 where
  pub line : Line
  pub says : FieldSays row f line

-- the fields from left to right
abbrev pub all_fields : List Field
all_fields = field.Terminal ∷ field.Race ∷ field.Pool ∷ field.Runner ∷ field.Amount ∷ []

-- the fault of a record for the fault of a field: it carries the place of the field's first byte
abbrev pub fault_of : Field → LineFault
fault_of field.Terminal = fault.Field (place field.Terminal)
fault_of field.Race = fault.Field (place field.Race)
fault_of field.Pool = fault.Field (place field.Pool)
fault_of field.Runner = fault.Field (place field.Runner)
fault_of field.Amount = fault.Amount (place field.Amount) Form

-- The record is no line: it lacks the shape, or a field is not fine where all those to its left are.
pub data FirstFault (row : List ℕ) : LineFault → Type 0 where
  no_shape : (Shaped row → ⊥) → FirstFault row fault.Shape
  at_field : (left : List Field) (f : Field) (right : List Field) →
      all_fields ≡ left ++ (f ∷ right) → Shaped row → AllByRecursion (Fine row) left →
      (Fine row f → ⊥) → FirstFault row (fault_of f)

-- what the bytes of a field say, or its fault where they say nothing
abbrev pub ReadAs : {A : Type 0} →
    (List ℕ → A → Type 0) → List ℕ → Field → Result A LineFault → Type 0
ReadAs Says bytes f answer =
    MatchResult answer (Says bytes) (λ fault. (fault ≡ fault_of f) × Nothing (Says bytes))

-- Reading the next field: what it says or its fault is answered, and the field to its right
-- comes next.
pub record FieldRead {A : Type 0} (f : Field) (Says : List ℕ → A → Type 0)
    (before after : Fields) (answer : Result A LineFault) : Type 0 where
  pub next : after.next ≡ following f
  pub same : after.row ≡ before.row
  pub says : ReadAs Says (bytes_of f before.row.now) f answer
