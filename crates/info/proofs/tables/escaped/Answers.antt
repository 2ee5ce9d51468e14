use Rattle.std.proofs.Common.{◌≡◌, IfOk, vec_items, false, sym, ap, ◌∙◌, subst, IsUtf8}
use Rattle.std.proofs.lemmas.Iterator.{items_from_collect}
use Rattle.text.proofs.Cursors.{shown_road}
use Rattle.text.specs.Showing.{to_come}
use Rattle.text.proofs.Scalars.{utf8_from_table}
use Rattle.info.specs.Plain.{printed}
use Rattle.info.proofs.Checked.{checked_or}
use Rattle.info.proofs.tables.escaped.Goals as goal

pub returns : goal.returns
returns c =
    let all = items_from_collect c.collect.result c.collect.ensures.ran (shown_road c.new.result) in
    let got : vec_items c.in_ok-shown.shown ≡ to_come c.new.result = subst (λ r. IfOk r (λ w. vec_items w ≡ to_come c.new.result)) c.in_ok-shown.was all in
    let bytes : c.deref.result.now ≡ to_come c.new.result = c.deref.ensures.value ∙ got in
    let formed : IsUtf8 c.deref.result.now = subst IsUtf8 (sym bytes) (utf8_from_table _ c.new.ensures.formed) in
    let text = ap (λ b. b.now) c.unwrap_or.ensures ∙ checked_or _ _ _ _ formed c.from_utf8.ensures.cases in
    c.in_ok-to_string.ensures.ok ∙ ap (printed false) (text ∙ bytes ∙ c.new.ensures.form)
