use Rattle.std.proofs.Common.{◌≡◌, ◌∙◌, ◌&&◌, true, sym, ap₂}
use Rattle.std.specs.Str.{bytes_eq}
use Rattle.std.proofs.lemmas.Bool.{not-false}
use Rattle.page_looks.specs.Sending.{without_fresh}
use Rattle.visit_replay.proofs.QueriesBeside.{sent_alike}
use Rattle.visit_replay.proofs.comparisons.Comparisons.are_alike.Goals as goal

pub returns-then-asks_by_address-2-clause-alike : goal.returns-then-asks_by_address-2-clause-alike
returns-then-asks_by_address-2-clause-alike c =
    let fresh = c.args.fresh.now in
    let was = c.args.was.now in
    let is = c.args.is.now in
    let told = not-false _ (sym c.in_ok-elsewhere.ensures.apart ∙ c.if-elsewhere.false) in
    let alike : bytes_eq (without_fresh fresh was.address) (without_fresh fresh is.address) ≡ true = rw (c.as_str.ensures, c.as_str-2.ensures) at told in
    let first = c.asks_by_address.ensures c.if-asks_by_address.true in
    let second = c.asks_by_address-then-asks_by_address.ensures c.if-asks_by_address-2.true in
    sym (ap₂ (λ a b. a && b) alike (sent_alike fresh was.address is.address first.0 second.0 was.pairs is.pairs first.1 second.1 alike))
