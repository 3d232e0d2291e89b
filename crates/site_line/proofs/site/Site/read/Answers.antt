use Rattle.site_line.proofs.SiteLaws.{one_site}
use Rattle.site_line.proofs.site.Site.read.Goals as goal

pub returns-clause-ok : goal.returns-clause-ok
returns-clause-ok c = let (plain, is, are) = c.in_ok-parts.ensures.ok in (plain, is, c.of_parts.ensures plain are)

pub returns-clause-only : goal.returns-clause-only
returns-clause-only c =
    λ other said.
    let (plain, is, are) = c.in_ok-parts.ensures.ok in
    one_site c.args.line.now is.0 said.0 c.of_parts.result plain other is.1 said.1 is.2 said.2 (c.of_parts.ensures plain are)
