use Rattle.std.proofs.Common.{◌≡◌, get_or, take, option_and_then, Some, None, sym, ap, ◌∙◌}
use Rattle.std.proofs.lemmas.Result.{IfOk-weaker}
use Rattle.page_tree.specs.Number.{place_numbered}
use Rattle.visit_replay.specs.Aim.{by_path, place_of_aim, button_of_aim}
use Rattle.visit_replay.specs.Moved.{are_apart, own_request}
use Rattle.visit_replay.specs.Requests.{request_at}
use Rattle.visit_replay.specs.inside.Differing.{IsTargetOf}
use Rattle.visit_replay.specs.inside.OneEvent.{AimsAt, Locates, places_numbered}
use Rattle.visit_replay.specs.declared.conflicts.Located.TheVariants.{Bad, Idle, At}
use Rattle.visit_replay.proofs.Asking.{aims_there}
use Rattle.visit_replay.proofs.Judged.{stands_at, own_is, none_led}
use Rattle.visit_replay.proofs.moving.goes_elsewhere.Goals as goal

pub returns-in_default-clause-answer : goal.returns-in_default-clause-answer
returns-in_default-clause-answer c =
    let visit = c.args.visit.now in
    let event = c.index-as_slice-k.result in
    let is : event ≡ get_or visit.events c.args.k event = rw c.as_slice.ensures at c.index-as_slice-k.is in
    let leads : IsTargetOf visit.page event None = rw c.in_default.is at c.in_ok-target.ensures.target in
    sym (ap (λ r. are_apart c.args.finding.now r (Some c.args.now.now)) (none_led visit c.args.k event (stands_at visit c.args.k event c.requires.there is) leads))

pub judged-requires-clause-located : goal.judged-requires-clause-located
judged-requires-clause-located c =
    let leads : IsTargetOf c.args.visit.now.page c.index-as_slice-k.result (Some c.in-Some.target) = rw c.in-Some.is at c.in_ok-target.ensures.target in
    let there : AimsAt c.args.visit.now.page (by_path c.args.visit.now.page c.index-as_slice-k.result) (At c.in-Some.target c.in_ok-button.button) =
    (leads.0, c.in_ok-button.ensures.within, aims_there c.args.visit.now.page c.index-as_slice-k.result c.in-Some.target c.in_ok-button.button leads c.in_ok-button.ensures.place) in
    (by_path c.args.visit.now.page c.index-as_slice-k.result, there)

pub returns-in-Bad-clause-answer : goal.returns-in-Bad-clause-answer
returns-in-Bad-clause-answer c =
    let leads : IsTargetOf c.args.visit.now.page c.index-as_slice-k.result (Some c.in-Some.target) = rw c.in-Some.is at c.in_ok-target.ensures.target in
    let there : AimsAt c.args.visit.now.page (by_path c.args.visit.now.page c.index-as_slice-k.result) (At c.in-Some.target c.in_ok-button.button) =
    (leads.0, c.in_ok-button.ensures.within, aims_there c.args.visit.now.page c.index-as_slice-k.result c.in-Some.target c.in_ok-button.button leads c.in_ok-button.ensures.place) in
    let visit = c.args.visit.now in
    let event = c.index-as_slice-k.result in
    let is : event ≡ get_or visit.events c.args.k event = rw c.as_slice.ensures at c.index-as_slice-k.is in
    let located : Locates (by_path visit.page) visit.page visit.page event (Bad c.in-Bad._kind) = rw c.in-Bad.is at (c.in_ok-_kind.ensures (by_path visit.page) there) in
    sym (ap (λ r. are_apart c.args.finding.now r (Some c.args.now.now)) (own_is visit c.args.k event (Some c.in-Bad._kind) (stands_at visit c.args.k event c.requires.there is) located))

pub leads_elsewhere-requires-clause-there : goal.leads_elsewhere-requires-clause-there
leads_elsewhere-requires-clause-there c =
    let leads : IsTargetOf c.args.visit.now.page c.index-as_slice-k.result (Some c.in-Some.target) = rw c.in-Some.is at c.in_ok-target.ensures.target in
    let there : AimsAt c.args.visit.now.page (by_path c.args.visit.now.page c.index-as_slice-k.result) (At c.in-Some.target c.in_ok-button.button) =
    (leads.0, c.in_ok-button.ensures.within, aims_there c.args.visit.now.page c.index-as_slice-k.result c.in-Some.target c.in_ok-button.button leads c.in_ok-button.ensures.place) in
    let located : Locates (by_path c.args.visit.now.page) c.args.visit.now.page c.args.visit.now.page c.index-as_slice-k.result (At c.in-At.target c.in-At.button) =
    rw c.in-At.is at (c.in_ok-_kind.ensures (by_path c.args.visit.now.page) there) in
    located.1.0

pub leads_elsewhere-requires-clause-button : goal.leads_elsewhere-requires-clause-button
leads_elsewhere-requires-clause-button c =
    let leads : IsTargetOf c.args.visit.now.page c.index-as_slice-k.result (Some c.in-Some.target) = rw c.in-Some.is at c.in_ok-target.ensures.target in
    let there : AimsAt c.args.visit.now.page (by_path c.args.visit.now.page c.index-as_slice-k.result) (At c.in-Some.target c.in_ok-button.button) =
    (leads.0, c.in_ok-button.ensures.within, aims_there c.args.visit.now.page c.index-as_slice-k.result c.in-Some.target c.in_ok-button.button leads c.in_ok-button.ensures.place) in
    let located : Locates (by_path c.args.visit.now.page) c.args.visit.now.page c.args.visit.now.page c.index-as_slice-k.result (At c.in-At.target c.in-At.button) =
    rw c.in-At.is at (c.in_ok-_kind.ensures (by_path c.args.visit.now.page) there) in
    located.1.1

pub returns-clause-answer : goal.returns-clause-answer
returns-clause-answer c =
    let leads : IsTargetOf c.args.visit.now.page c.index-as_slice-k.result (Some c.in-Some.target) = rw c.in-Some.is at c.in_ok-target.ensures.target in
    let there : AimsAt c.args.visit.now.page (by_path c.args.visit.now.page c.index-as_slice-k.result) (At c.in-Some.target c.in_ok-button.button) =
    (leads.0, c.in_ok-button.ensures.within, aims_there c.args.visit.now.page c.index-as_slice-k.result c.in-Some.target c.in_ok-button.button leads c.in_ok-button.ensures.place) in
    let visit = c.args.visit.now in
    let page = visit.page in
    let event = c.index-as_slice-k.result in
    let before = take c.args.k visit.events in
    let is : event ≡ get_or visit.events c.args.k event = rw c.as_slice.ensures at c.index-as_slice-k.is in
    let located : Locates (by_path page) page page event (At c.in-At.target c.in-At.button) = rw c.in-At.is at (c.in_ok-_kind.ensures (by_path page) there) in
    let own : own_request visit c.args.k ≡ request_at (by_path page) visit.address page before event (places_numbered c.in-At.button page) (place_numbered c.in-At.target page) =
    own_is visit c.args.k event None (stands_at visit c.args.k event c.requires.there is) located.0
    ∙ ap (λ a. option_and_then (request_at (by_path page) visit.address page before event (button_of_aim a)) (place_of_aim a)) located.1.2 in
    IfOk-weaker c.leads_elsewhere.result _ _
    (λ answer told. rw c.as_str.ensures at (told (by_path page) before c.requires.fields) ∙ ap (λ r. are_apart c.args.finding.now r (Some c.args.now.now)) (sym own)) c.leads_elsewhere.ensures.leads

pub returns-in-Idle-clause-answer : goal.returns-in-Idle-clause-answer
returns-in-Idle-clause-answer c =
    let leads : IsTargetOf c.args.visit.now.page c.index-as_slice-k.result (Some c.in-Some.target) = rw c.in-Some.is at c.in_ok-target.ensures.target in
    let there : AimsAt c.args.visit.now.page (by_path c.args.visit.now.page c.index-as_slice-k.result) (At c.in-Some.target c.in_ok-button.button) =
    (leads.0, c.in_ok-button.ensures.within, aims_there c.args.visit.now.page c.index-as_slice-k.result c.in-Some.target c.in_ok-button.button leads c.in_ok-button.ensures.place) in
    let visit = c.args.visit.now in
    let page = visit.page in
    let event = c.index-as_slice-k.result in
    let before = take c.args.k visit.events in
    let is : event ≡ get_or visit.events c.args.k event = rw c.as_slice.ensures at c.index-as_slice-k.is in
    let located : Locates (by_path page) page page event Idle = rw c.in-Idle.is at (c.in_ok-_kind.ensures (by_path page) there) in
    let own : own_request visit c.args.k ≡ None =
    own_is visit c.args.k event None (stands_at visit c.args.k event c.requires.there is) located.0
    ∙ ap (λ a. option_and_then (request_at (by_path page) visit.address page before event (button_of_aim a)) (place_of_aim a)) located.1 in
    sym (ap (λ r. are_apart c.args.finding.now r (Some c.args.now.now)) own)
