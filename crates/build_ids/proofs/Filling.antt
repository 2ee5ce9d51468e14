-- The rows of a section, one record after another.
use Rattle.std.proofs.Common.{◌≡◌, ℕ, ◌+◌, List, [], ◌∷◌, ◌++◌, drop, Some, None, Option, sym, ap, ◌∙◌, append_assoc, append-nil}
use Rattle.std.proofs.lemmas.List.{drop-drop}
use Rattle.wire.specs.declared.order.ByteOrder.{ByteOrder}
use Rattle.image.specs.declared.section.Section.{Section}
use Rattle.table.specs.declared.row.Row.{Row}
use Rattle.build_ids.specs.Events.{Event, event, records}
use Rattle.build_ids.specs.Table.{keep}
use Rattle.build_ids.specs.Rows.{row_of, rows_from}
use Rattle.build_ids.proofs.Reading.{records-end, records-more}

-- what a cursor at the offset gives is at the offset
pub here : {s t : Section} {at on : ℕ} (x : Option Event) → t ≡ s → at ≡ on → event t.order (drop on t.bytes.now) ≡ x → event s.order (drop at s.bytes.now) ≡ x
here x r e h = (λ i. event (sym r i).order (drop (e i) (sym r i).bytes.now)) ∙ h

module _ (o : ByteOrder) (s : List ℕ) (so_far : List Row) (at : ℕ) (is : rows_from 0 (records o s) ≡ so_far ++ rows_from at (records o (drop at s))) where
  pub rows_end : event o (drop at s) ≡ None → rows_from 0 (records o s) ≡ so_far
  rows_end h = is ∙ (ap (λ es. so_far ++ rows_from at es) (records-end o (drop at s) h) ∙ append-nil so_far)

  module _ (e : Event) (h : event o (drop at s) ≡ Some e) where
    abbrev rest : List Row
    rest = rows_from (at + e.size) (records o (drop (at + e.size) s))

    step : rows_from 0 (records o s) ≡ so_far ++ keep (row_of at e) rest
    step =
        is ∙ ap (λ es. so_far ++ rows_from at es) (records-more o (drop at s) e h ∙ ap (λ t. e ∷ records o t) (drop-drop e.size at s))

    pub rows_kept : (row : Row) → Some row ≡ row_of at e → rows_from 0 (records o s) ≡ (so_far ++ row ∷ []) ++ rest
    rows_kept row k = step ∙ (ap (λ r. so_far ++ keep r rest) (sym k) ∙ sym (append_assoc so_far (row ∷ []) rest))

    pub rows-passed : None ≡ row_of at e → rows_from 0 (records o s) ≡ so_far ++ rest
    rows-passed k = step ∙ ap (λ r. so_far ++ keep r rest) (sym k)
