use Rattle.std.proofs.Common.{◌≡◌, ℕ, eqb, length, Decides, ap, ◌∙◌, subst}
use Rattle.std.proofs.lemmas.List.{length-replicate}
use Rattle.table.specs.Rows.{blank}
use Rattle.facts.specs.Laws.{Alike}
use Rattle.shelf.proofs.Clients.{two_filings}
use Rattle.shelf.proofs.client.alike.Goals as goal

pub returns-clause-law : goal.returns-clause-law
returns-clause-law g c =
    let n = length c.args.rows.now in
    let long : length c.file.new.rows ≡ n = ap length c.file.ensures.rows ∙ length-replicate n blank in
    subst (λ (k : ℕ). Decides (eqb c.in_ok-first.first c.in_ok-second.second) (Alike n (g.S.Store.endian c.args.x.now) (g.S.Store.map c.args.x.now).at k (g.T.Store.endian c.args.y.now) (g.T.Store.map c.args.y.now).at)) long
    (two_filings _ _ c.in_ok-first.first c.in_ok-second.second _ _ _ c.open-shelf.ensures.law c.in_ok-first.ensures.law c.in_ok-second.ensures.law)
