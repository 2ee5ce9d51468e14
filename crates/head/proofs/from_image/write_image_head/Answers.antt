use Rattle.std.proofs.Common.{length}
use Rattle.image.specs.Index.{features_of}
use Rattle.facts.specs.Images.{image_within}
use Rattle.head.proofs.Whole.{spoken_image}
use Rattle.head.proofs.from_image.write_image_head.Goals as goal

pub returns-in-Ok-clause-law : goal.returns-in-Ok-clause-law
returns-in-Ok-clause-law c =
    spoken_image (length c.args.rows.now) (image_within c.args.most c.args.image.now) c.in-Ok.store.index.order (features_of c.in-Ok.store.index)
    c.write_head.result c.write_head.new.out c.in-Ok.ensures c.write_head.ensures.law
