use Rattle.std.proofs.Common.{refl, ap, ◌∙◌, arith}
use Rattle.put.specs.Overlay.{overlay}
use Rattle.put.proofs.Overlays.{overlay-part, overlay_least_place}
use Rattle.put.proofs.writer.Writer.put.Goals as goal

pub returns : goal.returns
returns c =
    let out = c.args.self.now.out.now in
    let bytes = c.args.bytes.now in
    record {
      same_reference = refl;
      puts = record {
        goes = omega arith;
        leaves =
            overlay-part out c.min-from.result bytes _ c.min-n.result c.min-n.ensures c.copy_from_slice.ensures.after
            ∙ (ap (λ n. overlay out n bytes) c.min-from.ensures ∙ overlay_least_place out c.args.self.now.at bytes);
      };
    }
