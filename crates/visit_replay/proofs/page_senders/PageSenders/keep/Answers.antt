use Rattle.std.proofs.Common.{◌≡◌, length, IfSome, subst, sym, arith}
use Rattle.visit_replay.specs.inside.Senders.{IsSenderAt, IsSoOf}
use Rattle.visit_replay.specs.declared.page_senders.Known.TheVariants.{At}
use Rattle.visit_replay.proofs.NodesKnown.{so_behind, so_last, knows_more}
use Rattle.visit_replay.proofs.page_senders.PageSenders.keep.Goals as goal

pub returns-then-place-capacity-clause-known : goal.returns-then-place-capacity-clause-known
returns-then-place-capacity-clause-known c = λ names page some none all.
    let self = c.args.self.now in
    let number = c.args.number in
    let found = self.found.items in
    let sender = c.in-Some.sender in
    let is : IsSenderAt names page number sender = subst (λ o. IfSome o (IsSenderAt names page number)) c.in-Some.is some in
    let long : c.len-place.result ≡ length found = omega (arith, c.len-place.ensures, self.found.ok.0) in
    let items = c.push_reserved.ensures.items in
    knows_more names page self.known.items found c.push_reserved.new.self.items number (At c.len-place.result) c.requires.there
    (subst (λ p. IsSoOf names page c.push_reserved.new.self.items number (At p)) (sym long)
    (subst (λ l. IsSoOf names page l number (At (length found))) (sym items) (so_last names page found sender number is)))
    (λ n k so. subst (λ l. IsSoOf names page l n k) (sym items) (so_behind names page found sender n k so)) all
