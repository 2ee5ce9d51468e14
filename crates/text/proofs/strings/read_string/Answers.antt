use Rattle.std.proofs.Common.{arith, rules}
use Rattle.std.proofs.lemmas.Grind.{common_steps}
use Rattle.text.proofs.HeaderLaw.{reads_header_text}
use Rattle.text.proofs.HeaderFaults.{refused_if}
use Rattle.text.proofs.strings.read_string.Goals as goal

pub returns-in_default-clause-law : goal.returns-in_default-clause-law
returns-in_default-clause-law c = reads_header_text c.args.order c.args.section.now _ (search rules)

pub returns-in_err-field-clause-law : goal.returns-in_err-field-clause-law
returns-in_err-field-clause-law c = reads_header_text c.args.order c.args.section.now _ (search rules)

pub returns-in_err-text-clause-law : goal.returns-in_err-text-clause-law
returns-in_err-text-clause-law c = reads_header_text c.args.order c.args.section.now _ (grind (arith, common_steps))

pub returns-in_err-text-clause-faults : goal.returns-in_err-text-clause-faults
returns-in_err-text-clause-faults c = refused_if c.args.order c.args.section.now c.from_residual-in_err-text.result (grind (arith, common_steps))

pub returns-clause-law : goal.returns-clause-law
returns-clause-law c = reads_header_text c.args.order c.args.section.now _ (grind (arith, common_steps))
