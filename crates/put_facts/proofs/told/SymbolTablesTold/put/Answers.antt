use Rattle.simpleperf.specs.Answers.{file_of, files_of}
use Rattle.put_facts.specs.Sized.{counted_file}
use Rattle.put_facts.proofs.Drained.{items_put}
use Rattle.put_facts.proofs.told.SymbolTablesTold.put.Goals as goal

pub returns : goal.returns
returns c = items_put file_of files_of counted_file c.put_items.ensures (λ s t h. h.0) (λ s x t h. h)
