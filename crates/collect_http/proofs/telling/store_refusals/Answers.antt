use Rattle.std.proofs.Common.{◌++◌, ap, ◌∙◌, arith}
use Rattle.collect_http.specs.Telling.{member_of, refusal_text, quoted_code}
use Rattle.collect_http.proofs.Members.{all_put, put_next}
use Rattle.collect_http.proofs.telling.store_refusals.Goals as goal

pub loop-visit-preserved : goal.loop-visit-preserved
loop-visit-preserved c = λ state keeps.
    put_next (member_of (refusal_text state)) c.args.visits.now c.loop-visit.visit-index _ c.visit-item.result c.loop-visit.text.items _ (omega arith) (omega arith) c.visit-item.is
    (c.in_ok-put_refusal.ensures ∙ ap (λ r. c.loop-visit.text.items ++ member_of (λ v. quoted_code r) c.visit-item.result) (c.refusal.ensures state keeps)) (c.loop-visit.invariant state keeps)

pub returns : goal.returns
returns c = λ state keeps. all_put (member_of (refusal_text state)) c.args.visits.now c.loop-visit.visit-index c.loop-visit.text.items (c.loop-visit.invariant state keeps) (omega arith)
