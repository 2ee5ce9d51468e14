use Rattle.std.proofs.Common.{flat_map, sym, ap, ◌∙◌, map-id, []}
use Rattle.std.proofs.Output.{has_written_append, has_written_of_eq}
use Rattle.std.proofs.lemmas.Iterator.{YieldsList-from_chars}
use Rattle.std.proofs.lemmas.Iterator.Consumers.{YieldsList-end}
use Rattle.std.proofs.lemmas.List.{flat_map_more}
use Rattle.std.specs.Result.{is_ok}
use Rattle.info.specs.Plain.{char_text}
use Rattle.info.proofs.printable.write_text.Goals as goal

pub loop-c-preserved : goal.loop-c-preserved
loop-c-preserved g c = λ plain.
    let so_far = c.loop-c.invariant plain in
    let one_more = c.write_char.ensures so_far.plain (ap is_ok c.in_ok-write_char.was) in
    let text = flat_map_more (char_text c.args.in_word) [] c.loop-c.yielded c.in-Some.c in
    has_written_of_eq _ _ _ _ _ text (has_written_append _ _ _ _ _ _ so_far one_more)

pub returns : goal.returns
returns g c = λ plain ok.
    let end = YieldsList-end (YieldsList-from_chars c.args.text.now c.utf8.text cc) c.loop-c.yielded _ c.loop-c.yielded_by _ _ c.in-None.is c.next.ensures.steps in
    let whole = sym (map-id c.loop-c.yielded) ∙ end.0 in
    has_written_of_eq _ _ _ _ _ (ap (flat_map (char_text c.args.in_word)) whole) (c.loop-c.invariant plain)
