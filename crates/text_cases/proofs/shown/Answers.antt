use Rattle.std.proofs.lemmas.Iterator.{items_from_collect}
use Rattle.text.proofs.Cursors.{shown_road}
use Rattle.text_cases.proofs.shown.Goals as goal

pub returns : goal.returns
returns c =
    simp (← c.new.ensures.form) (items_from_collect c.collect.result c.collect.ensures.ran (shown_road c.new.result))
