use Rattle.std.proofs.Common.{option_map}
use Rattle.serde_json.specs.View.{view}
use Rattle.site_line.specs.Site.{same_in}
use Rattle.site_line.proofs.TakenLaws.{names_taken}
use Rattle.site_line.proofs.refused.takes_same.Goals as goal

pub returns : goal.returns
returns c = names_taken (option_map (λ all. all.items)) c.read_fresh.result (same_in (view c.args.value.now)) c.is_taken.result c.read_fresh.ensures.ok c.read_fresh.ensures.fails c.is_taken.ensures
