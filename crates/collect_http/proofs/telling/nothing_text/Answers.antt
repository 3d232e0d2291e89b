use Rattle.std.proofs.Common.{◌∙◌}
use Rattle.collect_http.proofs.Members.{nothing_told}
use Rattle.collect_http.proofs.telling.nothing_text.Goals as goal

pub returns : goal.returns
returns c = nothing_told (λ v. v.items) c.join.result c.args.visits.now c.deref.result.now (c.deref.ensures.value ∙ c.in_ok-counts.ensures) c.join.ensures
