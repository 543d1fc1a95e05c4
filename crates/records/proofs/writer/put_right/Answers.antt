use Rattle.std.proofs.Common.{length, arith}
use Rattle.std.proofs.lemmas.Fmt.{length-decimal-le}
use Rattle.records.proofs.writer.put_right.Goals as goal

pub write_digits-requires : goal.write_digits-requires
write_digits-requires c =
    (length-decimal-le (length c.args.out.now) c.args.number c.requires.some c.requires.room (omega arith), omega arith)
