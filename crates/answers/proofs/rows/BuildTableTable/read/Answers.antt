use Rattle.section_store.specs.Sections.{features_of}
use Rattle.answers.proofs.Tables.{builds_told}
use Rattle.answers.proofs.rows.BuildTableTable.read.Goals as goal

pub returns : goal.returns
returns c = builds_told c.args.self.0.order _ _ c.build_ids.result ((features_of c.args.self.0).at 2) c.build_ids.ensures.entries
