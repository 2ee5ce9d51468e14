use Rattle.std.specs.String.{string_bytes}
use Rattle.answers.specs.Read.{IsReading}
use Rattle.answers.proofs.answer_owned.Goals as goal

pub returns : goal.returns
returns c =
    let is : IsReading (string_bytes c.args.question) c.read-read.result = rw c.as_str.ensures.value at c.read-read.ensures in
    c.answer_read.ensures (string_bytes c.args.question) is
