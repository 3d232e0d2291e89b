use Rattle.std.proofs.Common.{sym, ◌∙◌}
use Rattle.site_file.specs.SiteFile.{site_value_in}
use Rattle.site_file.proofs.ValueLaws.{error_is, never_right}
use Rattle.site_file.proofs.first_line.refused_first.Goals as goal

pub returns : goal.returns
returns c = error_is (site_value_in c.args.line.now) c.in-Some.why (sym c.in-Some.is ∙ c.in-Ok.ensures)

pub unreachable-requires : goal.unreachable-requires
unreachable-requires c = never_right c.args.line.now (sym c.in-None.is ∙ c.in-Ok.ensures) c.requires
