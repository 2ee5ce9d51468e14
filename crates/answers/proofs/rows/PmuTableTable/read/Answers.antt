use Rattle.section_store.specs.Sections.{features_of}
use Rattle.answers.proofs.Tables.{pmu_told}
use Rattle.answers.proofs.rows.PmuTableTable.read.Goals as goal

pub returns : goal.returns
returns c = pmu_told c.args.self.0.order _ _ c.pmu_mappings.result ((features_of c.args.self.0).at 16) c.pmu_mappings.ensures.entries
