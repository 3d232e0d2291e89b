use Rattle.std.proofs.lemmas.Result.{IfOk-weaker, IfErr-at_err}
use Rattle.serde_json.specs.View.{view}
use Rattle.site_line.specs.Site.{IsNoSite}
use Rattle.site_line.specs.inside.{FailsWhere}
use Rattle.site_line.proofs.parts.SiteParts.read.Goals as goal

pub returns-clause-ok : goal.returns-clause-ok
returns-clause-ok c =
    IfOk-weaker c.from_value.result _ _ (λ parts found. (found.0, (view c.in_ok-value.value, c.in_ok-value.ensures.ok, found.1), found.2)) c.from_value.ensures.ok

pub returns-clause-bad_member : goal.returns-clause-bad_member
returns-clause-bad_member c =
    λ is. (view c.in_ok-value.value, c.in_ok-value.ensures.ok, IfErr-at_err (FailsWhere (IsNoSite (view c.in_ok-value.value))) is c.from_value.ensures.fails)
