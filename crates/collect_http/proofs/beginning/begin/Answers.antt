use Rattle.std.proofs.Common.{sym, subst}
use Rattle.upload_store.specs.Standing.{KeepsState, WritesOn}
use Rattle.upload_store.specs.Store.{empty_store, take_body}
use Rattle.collect_http.proofs.BeginLaws.{begun_of}
use Rattle.collect_http.proofs.beginning.begin.Goals as goal

pub returns : goal.returns
returns c =
    let client = c.args.client.now in
    let body = c.args.body.now in
    let goes = c.in_ok-take_body.ensures.taken (empty_store client) (c.asked.ensures.same (empty_store client) (subst (λ n. KeepsState c.new-store.result (empty_store n)) c.in_ok-copy.ensures c.new-store.ensures)) in
    let writes = subst (λ before. WritesOn (empty_store client) (take_body (empty_store client) body) before c.deref.result.now) c.new-lines.ensures.items
    (subst (λ after. WritesOn (empty_store client) (take_body (empty_store client) body) c.new-lines.result.items after) (sym c.deref.ensures.value) goes.1) in
    begun_of client body c.deref.result.now writes c.take_body.new.self c.in_ok-visits.visits c.unless_written.result goes.0 c.in_ok-visits.ensures.named c.unless_written.ensures
