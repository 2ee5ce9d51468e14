use Rattle.std.proofs.Common.{sym}
use Rattle.text.proofs.Through.{ascii_stays}
use Rattle.text.proofs.machine.Machine.block.Goals as goal

pub returns-then-is_ascii : goal.returns-then-is_ascii
returns-then-is_ascii c = ascii_stays _ c.args.bytes.now (sym c.if-is_start.ensures) c.if-is_ascii.ensures.cases
