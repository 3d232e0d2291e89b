use Rattle.std.proofs.Common.{◌≡◌, ap, sym, ◌∙◌}
use Rattle.indexmap.specs.IndexMap.{set_value_at}
use Rattle.conflict_desk.proofs.Books.{decided_here, value_same, ok_more, err_more}
use Rattle.conflict_desk.proofs.desk.decide_for.Goals as goal

pub returns-in-Some-get_index_mut-clause-decided : goal.returns-in-Some-get_index_mut-clause-decided
returns-in-Some-get_index_mut-clause-decided c =
    let found = c.in-Some-get_index_mut in
    ok_more c.decide.result _ _
    (decided_here c.args.client.now c.args.dockets.now.entries c.in-Some.place c.in-Some.ensures.index found.docket.now found.ensures.value c.args.visit c.args.choice _) c.decide.ensures.decided

pub returns-in-Some-get_index_mut-clause-same : goal.returns-in-Some-get_index_mut-clause-same
returns-in-Some-get_index_mut-clause-same c =
    let entries = c.args.dockets.now.entries in
    err_more c.decide.result _ (λ _. set_value_at entries c.in-Some.place c.decide.new.self ≡ entries)
    (λ fault all. ap (set_value_at entries c.in-Some.place) all.1 ∙ value_same entries c.in-Some.place _ (sym c.in-Some-get_index_mut.ensures.value)) c.decide.ensures.refused
