use Rattle.section_store.specs.Sections.{features_of}
use Rattle.answers.proofs.Tables.{meta_told}
use Rattle.answers.proofs.rows.MetaTableTable.read.Goals as goal

pub returns : goal.returns
returns c = meta_told c.args.self.0.order _ _ c.meta_info.result ((features_of c.args.self.0).at 129) c.meta_info.ensures.entries
