use Rattle.std.proofs.Common.{ap, ◌∙◌}
use Rattle.visit_replay.specs.Outcome.{is_listed}
use Rattle.site_line.proofs.site.Site.of_parts.Goals as goal

pub returns : goal.returns
returns c = λ plain are. record {
  patched = λ address. c.new.ensures address ∙ ap (λ all. is_listed all address) are.patched;
  pages = are.pages;
  watched = are.watched;
  same = are.same;
  quota = are.quota;
  workers = are.workers;
  decisions = are.decisions;
}
