use Rattle.std.proofs.Common.{[], ◌∷◌, Ok, refl, ap}
use Rattle.lines.specs.declared.line.Line.{Line}
use Rattle.records.specs.declared.fields.Field.TheVariants.{Terminal, Race, Pool, Runner, Amount}
use Rattle.records.specs.Records.{Reads, no_shape}
use Rattle.records.proofs.Reading.{Reached, reads_as, reaches, stops, each_field, excludes, turned_away, reads_once}
use Rattle.records.proofs.reader.read_line.Goals as goal
use Rattle.records.proofs.reader.read_line.Goals.{In-Some}

-- no field is read yet
start : (c : In-Some) → Reached c.args.row.now c.in-Some.fields []
start c = record { shaped = c.in-Some.ensures.0; same = c.in-Some.ensures.1; fine = tt }

pub returns-in_default : goal.returns-in_default
returns-in_default c =
    let t = turned_away refl (no_shape c.in_default.ensures) in
    record { says = t.says; only = t.only; first = t.first }

pub returns-in_default-answer : goal.returns-in_default-answer
returns-in_default-answer c =
    let at_terminal = start (goal.at.returns-in_default-answer c).In-Some in
    let t = stops [] Terminal (Race ∷ Pool ∷ Runner ∷ Amount ∷ []) refl at_terminal c.in_default-answer.ensures (cc) in
    record { says = t.says; only = t.only; first = t.first }

pub returns-in_default-answer-2 : goal.returns-in_default-answer-2
returns-in_default-answer-2 c =
    let at_terminal = start (goal.at.returns-in_default-answer-2 c).In-Some in
    let at_race = reaches [] Terminal c.in-Ok.terminal at_terminal c.in-Ok.ensures in
    let t = stops (Terminal ∷ []) Race (Pool ∷ Runner ∷ Amount ∷ []) refl at_race c.in_default-answer-2.ensures (cc) in
    record { says = t.says; only = t.only; first = t.first }

pub returns-in_default-answer-3 : goal.returns-in_default-answer-3
returns-in_default-answer-3 c =
    let at_terminal = start (goal.at.returns-in_default-answer-3 c).In-Some in
    let at_race = reaches [] Terminal c.in-Ok.terminal at_terminal c.in-Ok.ensures in
    let at_pool = reaches (Terminal ∷ []) Race c.in-Ok-answer.race at_race c.in-Ok-answer.ensures in
    let t = stops (Terminal ∷ Race ∷ []) Pool (Runner ∷ Amount ∷ []) refl at_pool c.in_default-answer-3.ensures (cc) in
    record { says = t.says; only = t.only; first = t.first }

pub returns-in_default-answer-4 : goal.returns-in_default-answer-4
returns-in_default-answer-4 c =
    let at_terminal = start (goal.at.returns-in_default-answer-4 c).In-Some in
    let at_race = reaches [] Terminal c.in-Ok.terminal at_terminal c.in-Ok.ensures in
    let at_pool = reaches (Terminal ∷ []) Race c.in-Ok-answer.race at_race c.in-Ok-answer.ensures in
    let at_runner = reaches (Terminal ∷ Race ∷ []) Pool c.in-Ok-answer-2.pool at_pool c.in-Ok-answer-2.ensures in
    let t = stops (Terminal ∷ Race ∷ Pool ∷ []) Runner (Amount ∷ []) refl at_runner c.in_default-answer-4.ensures (cc) in
    record { says = t.says; only = t.only; first = t.first }

pub returns-in_default-answer-5 : goal.returns-in_default-answer-5
returns-in_default-answer-5 c =
    let at_terminal = start (goal.at.returns-in_default-answer-5 c).In-Some in
    let at_race = reaches [] Terminal c.in-Ok.terminal at_terminal c.in-Ok.ensures in
    let at_pool = reaches (Terminal ∷ []) Race c.in-Ok-answer.race at_race c.in-Ok-answer.ensures in
    let at_runner = reaches (Terminal ∷ Race ∷ []) Pool c.in-Ok-answer-2.pool at_pool c.in-Ok-answer-2.ensures in
    let at_amount = reaches (Terminal ∷ Race ∷ Pool ∷ []) Runner c.in-Ok-answer-3.runner at_runner c.in-Ok-answer-3.ensures in
    let t = stops (Terminal ∷ Race ∷ Pool ∷ Runner ∷ []) Amount [] refl at_amount c.in_default-answer-5.ensures (cc) in
    record { says = t.says; only = t.only; first = t.first }

pub returns : goal.returns
returns c =
    let at_terminal = start (goal.at.returns c).In-Some in
    let at_race = reaches [] Terminal c.in-Ok.terminal at_terminal c.in-Ok.ensures in
    let at_pool = reaches (Terminal ∷ []) Race c.in-Ok-answer.race at_race c.in-Ok-answer.ensures in
    let at_runner = reaches (Terminal ∷ Race ∷ []) Pool c.in-Ok-answer-2.pool at_pool c.in-Ok-answer-2.ensures in
    let at_amount = reaches (Terminal ∷ Race ∷ Pool ∷ []) Runner c.in-Ok-answer-3.runner at_runner c.in-Ok-answer-3.ensures in
    let line : Line = record {
      terminal = c.in-Ok.terminal;
      race = c.in-Ok-answer.race;
      pool = c.in-Ok-answer-2.pool;
      runner = c.in-Ok-answer-3.runner;
      amount = c.in-Ok-answer-4.amount;
    } in
    let reads : Reads c.args.row.now line = record {
      shaped = at_terminal.shaped;
      fields = each_field c.args.row.now line
          (reads_as Terminal line.terminal at_terminal c.in-Ok.ensures)
          (reads_as Race line.race at_race c.in-Ok-answer.ensures)
          (reads_as Pool line.pool at_pool c.in-Ok-answer-2.ensures)
          (reads_as Runner line.runner at_runner c.in-Ok-answer-3.ensures)
          (reads_as Amount line.amount at_amount c.in-Ok-answer-4.ensures);
    } in
    record { says = reads; only = λ l h. ap Ok (reads_once line l reads h); first = λ f bad. absurd (excludes bad reads) }
