-- How a reply is written out: the answers of docs/SHELF.md.
use Rattle.std.specs.Prelude.{ℕ, ◌++◌, List, codes}
use Rattle.std.specs.Fmt.{decimal}
use Rattle.wire.specs.Shown.{layer_number}
use Rattle.wire.specs.declared.refusal.Fault.{Fault}
use Rattle.hexadecimal.specs.Hex.{text_of}
use Rattle.desk.specs.Answers.{LineAnswer, opened, filed, released, counted, shown, refused, unread, no_request, answer_of}
use Rattle.desk.specs.declared.reply.Reply.{Reply}

abbrev pub bad_line : List ℕ
bad_line = codes "bad line"

abbrev pub fault_text : Fault → List ℕ
fault_text f =
    codes "refused " ++ decimal f.number ++ codes " " ++ decimal (layer_number f.layer) ++ codes " " ++ decimal f.feature ++ codes " " ++ decimal f.offset

abbrev pub answer_text : LineAnswer → List ℕ
answer_text (opened strips) = codes "opened " ++ decimal strips
answer_text (filed group) = codes "group " ++ decimal group
answer_text (released group) = codes "released " ++ decimal group
answer_text (counted filings) = codes "count " ++ decimal filings
answer_text (shown head) = codes "head x" ++ text_of head
answer_text (refused fault) = fault_text fault
answer_text (unread path) = codes "cannot read " ++ path
answer_text no_request = bad_line

-- A reply is written out as what it says.
abbrev pub reply_text : Reply → List ℕ
reply_text r = answer_text (answer_of r)
