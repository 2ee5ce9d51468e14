use Rattle.std.proofs.Common.{arith}
use Rattle.std.proofs.lemmas.Grind.{common_steps}
use Rattle.perf_data.proofs.Saying.{texts_say}
use Rattle.perf_data.proofs.perf_file.cmdline.Goals as goal

pub returns-clause-law : goal.returns-clause-law
returns-clause-law g c = texts_say _ _ _ (grind (arith, common_steps))
