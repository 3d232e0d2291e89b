use Rattle.std.proofs.Common.{◌∙◌}
use Rattle.upload_store.specs.Standing.{KeepsState}
use Rattle.collect_http.proofs.Members.{unstored_told}
use Rattle.collect_http.proofs.telling.unstored_text.Goals as goal

pub returns : goal.returns
returns c = unstored_told (λ v. v.items) c.join.result c.args.visits.now c.deref.result.now c.deref-2.result.now (KeepsState c.args.store.now) (c.deref.ensures.value ∙ c.in_ok-counts.ensures)
    (λ state keeps. c.deref-2.ensures.value ∙ c.in_ok-refusals.ensures state keeps) c.join.ensures
