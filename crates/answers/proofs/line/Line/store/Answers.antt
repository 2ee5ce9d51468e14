use Rattle.std.proofs.Common.{◌≡◌, ℕ, ◌≤◌, List, rules, sym, ap, ◌∙◌}
use Rattle.hexadecimal.specs.Hex.{items}
use Rattle.section_store.specs.Sections.{section_of, unless_long}
use Rattle.answers.specs.Lines.{short_section}
use Rattle.answers.proofs.line.Line.store.Goals as goal

own_section : (n : ℕ) (bytes : List ℕ) → n ≤ 255 → section_of n bytes n ≡ unless_long bytes
own_section n bytes h = search rules

pub returns-in-Some-clause-section : goal.returns-in-Some-clause-section
returns-in-Some-clause-section c h =
    ap (λ f. f.at c.args.feature.0) c.new.ensures.sections
    ∙ (own_section _ _ h
    ∙ (ap unless_long c.deref.ensures.value ∙ sym (ap (λ s. short_section (items s)) c.in-Some.is)))
