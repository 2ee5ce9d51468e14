use Rattle.std.proofs.Common.{arith}
use Rattle.std.proofs.lemmas.Grind.{common_steps}
use Rattle.perf_data.proofs.Saying.{text_says}
use Rattle.perf_data.proofs.perf_file.feature_string.Goals as goal

pub returns-in_err-text-clause-law : goal.returns-in_err-text-clause-law
returns-in_err-text-clause-law g c = text_says c.args.feature.0 _ _ _ (grind (arith, common_steps))

pub returns-clause-law : goal.returns-clause-law
returns-clause-law g c = text_says c.args.feature.0 _ _ _ (grind (arith, common_steps))
