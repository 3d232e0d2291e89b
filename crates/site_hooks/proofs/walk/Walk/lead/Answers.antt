use Rattle.std.proofs.Common.{◌≡◌, ◌∙◌, refl, true, false, length, inl, inr, lt-ltb}
use Rattle.std.proofs.lemmas.Option.{slice_get_cases, slice_get_read}
use Rattle.site_hooks.proofs.LeadLaws.{led_none, led_some}
use Rattle.site_hooks.proofs.NoteLaws.{on_ok}
use Rattle.site_hooks.proofs.walk.Walk.lead.Goals as goal

pub returns-in_default-clause-leads : goal.returns-in_default-clause-leads
returns-in_default-clause-leads c = led_none c.args.name.now c.args.same c.args.elements c.args.self.now.levels.now c.args.self.now.paths.now c.args.level c.requires.levels c.requires.name c.requires.few_named c.requires.few_elements
    (elim (slice_get_cases c.args.self.now.levels.now c.args.level).1 [
      | inl there ↦ let clash : false ≡ true = c.in_default.ensures.lookup.0 ∙ lt-ltb c.args.level (length c.args.self.now.levels.now) there.1 in cc
      | inr past ↦ past.1
    ]) c.clear.new.set c.args.alive.now c.clear.ensures.none

pub returns-clause-leads : goal.returns-clause-leads
returns-clause-leads c = on_ok c.add_common-4.result
    (led_some c.args.name.now c.args.same c.args.elements c.args.self.now.levels.now c.args.self.now.paths.now c.args.level c.requires.levels c.requires.name c.requires.few_named c.requires.few_elements
    c.in-Some.level.now (slice_get_read c.args.self.now.levels.now _ c.args.level c.in-Some.level.now refl c.in-Some.ensures.lookup.3.0 (c.in-Some.ensures.lookup.3.1 c.in-Some.level.now)) c.args.alive.now c.clear.new.set c.add_common.new.into c.add_common-2.new.into c.add_common-3.new.into c.add_common-4.new.into c.clear.ensures.none
    c.in_ok-add_common.ensures.adds c.in_ok-add_common-2.ensures.adds c.in_ok-add_common-3.ensures.adds)
    c.add_common-4.ensures.adds
