use Rattle.std.proofs.Common.{ap, ◌∙◌}
use Rattle.image.specs.Ask.{in_order}
use Rattle.image.specs.Held.{Features}
use Rattle.section_store.specs.Sections.{features_of}
use Rattle.section_store.proofs.section_in.Goals as goal

pub returns : goal.returns
returns c =
    c.section_of.ensures.asked
    ∙ (ap (λ o. in_order o ((features_of c.new.result).at c.args.number)) c.new.ensures.order
    ∙ ap (λ (f : Features). in_order c.args.order (f.at c.args.number)) c.new.ensures.sections)
