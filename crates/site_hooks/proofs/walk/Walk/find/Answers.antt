use Rattle.std.proofs.Common.{◌≡◌, [], Some, option_map, length, drop, sym, ◌∙◌, ap, subst, arith}
use Rattle.page_tree.specs.Look.{name_at}
use Rattle.page_tree.proofs.NodesUnder.{root_numbered}
use Rattle.site_hooks.specs.Walk.{AreAlive}
use Rattle.site_hooks.proofs.WalkLaws.{read_back, led_from_all, walk_found}
use Rattle.site_hooks.proofs.walk.Walk.find.Goals as goal

pub visit-requires-clause-alive : goal.visit-requires-clause-alive
visit-requires-clause-alive c =
    let walk = c.args.self.now in
    let page = walk.page.now in
    let name_is : name_at [] page ≡ Some c.in-Some.name.now = ap (λ place. name_at place page) (sym (root_numbered page)) ∙ sym c.name_of.ensures ∙ ap (option_map (λ name. name.now)) c.in-Some.is in
    subst (λ place. AreAlive walk place c.deref-2.result.now) (sym (root_numbered page))
    (led_from_all walk c.in-Some.name.now c.in_ok-all.all.items c.deref.result.now c.lead.new.below c.deref-2.result.now name_is c.deref.ensures.value
    (λ number less. c.in_ok-all.ensures.all number (omega (arith, less, c.word_count.ensures)))
    (c.deref-2.ensures.value ∙ read_back c.in_ok-alive.alive.len c.lead.new.below (drop (length c.lead.new.below) c.in_ok-alive.alive.items)
    (omega (arith, c.in_ok-alive.alive.ok, c.in_ok-alive.ensures.len, c.len.ensures, c.in_ok-all.all.ok, c.deref.ensures.len, c.lead.ensures.len))) c.in_ok-lead.ensures.leads)

pub returns : goal.returns
returns c =
    let walk = c.args.self.now in
    let page = walk.page.now in
    let name_is : name_at [] page ≡ Some c.in-Some.name.now = ap (λ place. name_at place page) (sym (root_numbered page)) ∙ sym c.name_of.ensures ∙ ap (option_map (λ name. name.now)) c.in-Some.is in
    walk_found walk c.deref-2.result.now _ c.in_ok-found.found c.visit.new.found (root_numbered page) c.in_ok-found.ensures.none
    (led_from_all walk c.in-Some.name.now c.in_ok-all.all.items c.deref.result.now c.lead.new.below c.deref-2.result.now name_is c.deref.ensures.value
    (λ number less. c.in_ok-all.ensures.all number (omega (arith, less, c.word_count.ensures)))
    (c.deref-2.ensures.value ∙ read_back c.in_ok-alive.alive.len c.lead.new.below (drop (length c.lead.new.below) c.in_ok-alive.alive.items)
    (omega (arith, c.in_ok-alive.alive.ok, c.in_ok-alive.ensures.len, c.len.ensures, c.in_ok-all.all.ok, c.deref.ensures.len, c.lead.ensures.len))) c.in_ok-lead.ensures.leads)
    c.in_ok-visit.ensures.finds
