use Rattle.std.proofs.Common.{◌≡◌, List, [], ◌∷◌, ◌++◌, map, sym, ap, ◌∙◌}
use Rattle.std.specs.String.{string_bytes}
use Rattle.std.specs.List.{flat_map}
use Rattle.std.proofs.lemmas.List.{append-nil}
use Rattle.std.proofs.lemmas.List.Folds.{flat_map-map}
use Rattle.simpleperf.specs.Lists.{to_come}
use Rattle.answers.proofs.Appended.{in_a_row}
use Rattle.answers.proofs.symbols.write_list.Goals as goal

-- nothing is left
all_of : {V : Type 0} (v : V) (xs ahead next all : List V) → xs ++ ahead ≡ next → ahead ≡ [] → all ≡ v ∷ next → v ∷ xs ≡ all
all_of v xs ahead next all e none first =
    ap (λ ys. v ∷ ys) (sym (append-nil xs) ∙ (ap (λ ys. xs ++ ys) (sym none) ∙ e)) ∙ sym first

pub returns : goal.returns
returns g c =
    let text = g.K.Item.Told.text in
    let mark = c.args.mark.now in (
      c.in-Some.first ∷ c.loop-item.yielded,
      all_of _ _ _ _ _ (c.loop-item.invariant.1 ∙ ap (to_come g.K.Listed.reading) c.into_iter-item-iterator.ensures.into_iter_gives) c.in-None.ensures.steps.0 c.in-Some.ensures.steps,
      in_a_row _ _ _ (text c.in-Some.first) (flat_map (λ u. mark ++ u) (map text c.loop-item.yielded)) c.in_ok-write.ensures
          (c.loop-item.invariant.0 ∙ ap (λ t. string_bytes c.write.new.out ++ t) (sym (flat_map-map (λ u. mark ++ u) text c.loop-item.yielded))),
    )
