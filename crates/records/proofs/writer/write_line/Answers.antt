use Rattle.std.proofs.Common.{◌≡◌, [], ◌∷◌, ◌++◌, sym, ◌∙◌, subst, append-nil}
use Rattle.records.specs.Records.{Reads}
use Rattle.records.specs.Written.{written}
use Rattle.records.proofs.RecordLayout.{right_digits}
use Rattle.records.proofs.Writing.{reads_shows, written_reads}
use Rattle.records.proofs.writer.write_line.Goals as goal

pub returns-then-not-can_be_shown-clause-reads : goal.returns-then-not-can_be_shown-clause-reads
returns-then-not-can_be_shown-clause-reads c = λ row h. c.if-not-can_be_shown.ensures (reads_shows h)

pub returns : goal.returns
returns c =
    let l = c.args.line.now in
    let terminal = right_digits 3 48 _ c.from-4.ensures c.put_right-3.ensures.place c.put_right-3.ensures.after in
    let race = right_digits 2 48 _ c.from-3.ensures c.put_right-2.ensures.place c.put_right-2.ensures.after in
    let runner = right_digits 2 48 _ c.from.ensures c.put_right.ensures.place c.put_right.ensures.after in
    let amount = append-nil c.copy_from_slice.new.self ∙ c.copy_from_slice.ensures.after ∙ c.amount_bytes.ensures in
    let bytes : c.put_right-3.new.out ++ (44 ∷ (c.put_right-2.new.out ++ (44 ∷ c.from-2.result ∷ 44 ∷ (c.put_right.new.out ++ (44 ∷ (c.copy_from_slice.new.self ++ [])))))) ≡ written l =
    rw (terminal, race, c.from-2.ensures, runner, amount) in
    record { written = bytes; reads = subst (λ row. Reads row l) (sym bytes) (written_reads l c.if-not-can_be_shown.ensures) }
