use Rattle.std.proofs.Common.{ℕ, ◌+◌, length, Some, Ok, Err, Option, Result, sym, ap, ◌∙◌, arith}
use Rattle.std.proofs.lemmas.List.{length-drop}
use Rattle.wire.specs.declared.refusal.Fault.{Fault}
use Rattle.text.specs.Strings.{before_nul}
use Rattle.text.proofs.Headers.{nul_within}
use Rattle.table.specs.declared.row.Row.{Row}
use Rattle.mappings.specs.MetaInfo.{Piece, checked, first_pair, pair_row}
use Rattle.mappings.proofs.Pieces.{piece}
use Rattle.mappings.proofs.Pairs.{lone, two, formed, unformed}
use Rattle.mappings.proofs.meta_info.read_pair.Goals as goal

-- the row of a key and a value, and that row unless the value is ill formed
abbrev found : Piece → Piece → Result (Option Row) Fault
found key value = Ok (Some (pair_row key value))

abbrev valued : Piece → Piece → Result (Option Row) Fault
valued key value = checked value (found key value)

pub returns-then-value_at-section : goal.returns-then-value_at-section
returns-then-value_at-section c =
    let is = c.before_nul-key.ensures ∙ ap before_nul c.tail.ensures in
    sym (ap (first_pair pair_row) (lone c.args.section.bytes.now c.args.at _ (omega arith) is (omega arith)))

pub returns-then-not-well_formed : goal.returns-then-not-well_formed
returns-then-not-well_formed c =
    let key = c.before_nul-key.result.now in
    let value = c.before_nul-value.result.now in
    let from : ℕ = c.args.at + length key + 1 in
    let key-is = c.before_nul-key.ensures ∙ ap before_nul c.tail.ensures in
    let value-is = c.before_nul-value.ensures ∙ ap before_nul c.tail-2.ensures in
    ap Err c.ill_formed.ensures
    ∙ unformed (piece c.args.at key) (valued (piece c.args.at key) (piece from value)) c.if-not-well_formed.ensures.test
    ∙ sym (ap (first_pair pair_row) (two c.args.section.bytes.now c.args.at key (omega arith) key-is value (omega arith) value-is))

pub returns-then-not-well_formed-2 : goal.returns-then-not-well_formed-2
returns-then-not-well_formed-2 c =
    let key = c.before_nul-key.result.now in
    let value = c.before_nul-value.result.now in
    let from : ℕ = c.args.at + length key + 1 in
    let key-is = c.before_nul-key.ensures ∙ ap before_nul c.tail.ensures in
    let value-is = c.before_nul-value.ensures ∙ ap before_nul c.tail-2.ensures in
    ap Err c.ill_formed-then-not-well_formed-2.ensures
    ∙ unformed (piece from value) (found (piece c.args.at key) (piece from value)) c.if-not-well_formed-2.ensures.test
    ∙ formed (piece c.args.at key) (valued (piece c.args.at key) (piece from value)) c.if-not-well_formed.ensures.test
    ∙ sym (ap (first_pair pair_row) (two c.args.section.bytes.now c.args.at key (omega arith) key-is value (omega arith) value-is))

pub overflow_cast-result-4 : goal.overflow_cast-result-4
overflow_cast-result-4 c =
    let value-is = c.before_nul-value.ensures in
    omega (arith, ap length value-is, nul_within c.tail-2.result.now, ap length c.tail-2.ensures, length-drop (c.args.at + length c.before_nul-key.result.now + 1) c.args.section.bytes.now)

pub returns : goal.returns
returns c =
    let key = c.before_nul-key.result.now in
    let value = c.before_nul-value.result.now in
    let from : ℕ = c.args.at + length key + 1 in
    let key-is = c.before_nul-key.ensures ∙ ap before_nul c.tail.ensures in
    let value-is = c.before_nul-value.ensures ∙ ap before_nul c.tail-2.ensures in
    formed (piece from value) (found (piece c.args.at key) (piece from value)) c.if-not-well_formed-2.ensures.test
    ∙ formed (piece c.args.at key) (valued (piece c.args.at key) (piece from value)) c.if-not-well_formed.ensures.test
    ∙ sym (ap (first_pair pair_row) (two c.args.section.bytes.now c.args.at key (omega arith) key-is value (omega arith) value-is))
