use Rattle.facts.specs.Written.{text_bytes}
use Rattle.perf_data.specs.Lists.{to_come}
use Rattle.put_facts.proofs.Drained.{counted_put}
use Rattle.put_facts.proofs.told.StringListTold.put.Goals as goal

pub returns : goal.returns
returns c = counted_put (λ x. x.now) to_come text_bytes c.put_counted.ensures (λ s t h. h.0) (λ s x t h. h)
