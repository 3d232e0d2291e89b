use Rattle.std.proofs.Common.{◌≡◌, Some, slice_get, get_or, IfSome, subst, sym, ap, ◌∙◌, arith}
use Rattle.std.proofs.lemmas.List.{get_or_read}
use Rattle.std.proofs.lemmas.Option.{slice_get-get_or}
use Rattle.visit_replay.specs.inside.Senders.{IsSenderAt, IsSoOf}
use Rattle.visit_replay.specs.declared.page_senders.Known.TheVariants.{Nothing, At}
use Rattle.visit_replay.proofs.page_senders.PageSenders.sender_of.Goals as goal

pub returns-in-At-clause-some : goal.returns-in-At-clause-some
returns-in-At-clause-some c =
    let self = c.args.self.now in
    let number = c.args.number in
    let place = c.in-At.place in
    let page = c.args.page.now in
    let names = c.args.names.now in
    let found = self.found.items in
    let here : get_or self.known.items number Nothing ≡ At place =
    sym (get_or_read self.known.items number c.index.result.now (omega (arith, c.requires.there, c.requires.room.known)) c.index.ensures Nothing) ∙ c.in-At.is in
    let so : IsSoOf names page found number (At place) = subst (IsSoOf names page found number) here (c.requires.known number c.requires.there) in
    let is : slice_get found place ≡ Some c.index-in-At.result.now = slice_get-get_or found place c.index-in-At.result.now so.0 ∙ ap Some (sym c.index-in-At.ensures) in
    subst (λ o. IfSome o (IsSenderAt names page number)) is so.1
