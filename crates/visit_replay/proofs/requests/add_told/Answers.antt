use Rattle.std.proofs.Common.{◌≡◌, [], ◌∷◌, ◌++◌, Some, None, ap, ◌∙◌}
use Rattle.visit_replay.specs.inside.Tellings.{told_request}
use Rattle.visit_replay.proofs.Places.{none_is_some, some_same}
use Rattle.visit_replay.proofs.requests.add_told.Goals as goal

pub returns-in_default : goal.returns-in_default
returns-in_default c = λ now is.
    let none : None ≡ c.args.telling.now.0 = rw c.in_default.is at c.told.ensures in
    none_is_some now _ (none ∙ is)

pub returns : goal.returns
returns c = λ now is.
    let told : Some (told_request c.in-Some.told) ≡ c.args.telling.now.0 = rw c.in-Some.is at c.told.ensures in
    c.in_ok-push.ensures.items ∙ ap (λ r. c.args.all.now.items ++ r ∷ []) (c.in_ok-request.ensures ∙ some_same (told_request c.in-Some.told) now (told ∙ is))
