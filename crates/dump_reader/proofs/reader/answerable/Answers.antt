use Rattle.std.proofs.Common.{Ok}
use Rattle.dump_reader.specs.Answerable.{questions_verdict}
use Rattle.dump_reader.proofs.Going.{goes_on}
use Rattle.dump_reader.proofs.reader.answerable.Goals as goal

pub returns-in-Err : goal.returns-in-Err
returns-in-Err c =
    let dump = c.args.reading.dump in
    goes_on c.in-Err.error (questions_verdict dump dump.questions) (λ fine. Ok dump) c.in-Err.ensures
