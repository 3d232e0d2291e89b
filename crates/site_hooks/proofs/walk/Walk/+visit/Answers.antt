use Rattle.std.proofs.Common.{◌≡◌, ◌<◌, ◌+◌, [], ◌∷◌, ◌++◌, length, drop, Some, None, option_map, add-one, refl, sym, ◌∙◌, ap, subst, arith}
use Rattle.std.proofs.lemmas.List.{length-append}
use Rattle.page_tree.specs.Look.{name_at, child_count_at}
use Rattle.page_tree.specs.Number.{place_numbered}
use Rattle.page_tree.proofs.NodesUnder.{child_there}
use Rattle.xpath_child.proofs.Named.{name_there}
use Rattle.site_hooks.specs.Findings.{Grows}
use Rattle.site_hooks.specs.Siblings.{AreBefore}
use Rattle.site_hooks.specs.Walk.{AreAlive}
use Rattle.site_hooks.proofs.SiblingLaws.{few_counted, text_counted, element_counted}
use Rattle.site_hooks.proofs.NoteLaws.{grows_none, grows_more}
use Rattle.site_hooks.proofs.WalkLaws.{FindsThrough, read_back, led_at, alive_child, finds_none, none_below, finds_all, through_text, through_element}
use Rattle.site_hooks.proofs.walk.Walk.+visit.Goals as goal
use Rattle.site_hooks.proofs.walk.Walk.+visit.Goals.{in-Some+in_ok-lead+in_ok-visit+in_ok-count, in_default, then-level-self-via-then-level-self, then-level-self-via-else-level-self+then-has_none}

pub lead-requires-clause-few_named : goal.lead-requires-clause-few_named
lead-requires-clause-few_named t c =
    let page = c.args.self.now.page.now in
    let at = place_numbered c.args.at page in
    let less : c.loop-i.i < child_count_at at page = omega (arith, c.children_of-i-end.ensures) in
    let within = child_there page c.loop-i.child at c.loop-i.i (c.loop-i.invariant.child less) less in
    omega (arith, c.named-same.ensures, few_counted page at c.loop-i.i c.loop-i.siblings (Some c.in-Some.name.now) c.loop-i.invariant.before, c.loop-i.invariant.after, within, c.within_limits.ensures.many)

pub lead-requires-clause-few_elements : goal.lead-requires-clause-few_elements
lead-requires-clause-few_elements t c =
    let page = c.args.self.now.page.now in
    let at = place_numbered c.args.at page in
    let less : c.loop-i.i < child_count_at at page = omega (arith, c.children_of-i-end.ensures) in
    let within = child_there page c.loop-i.child at c.loop-i.i (c.loop-i.invariant.child less) less in
    omega (arith, few_counted page at c.loop-i.i c.loop-i.siblings None c.loop-i.invariant.before, c.loop-i.invariant.after, within, c.within_limits.ensures.many)

pub lead-requires-clause-name : goal.lead-requires-clause-name
lead-requires-clause-name t c =
    name_there c.args.self.now.page.now (place_numbered c.loop-i.child c.args.self.now.page.now) c.in-Some.name.now c.within_limits.ensures (sym c.name_of.ensures ∙ ap (option_map (λ name. name.now)) c.in-Some.is)

pub count-requires-clause-elements : goal.count-requires-clause-elements
count-requires-clause-elements t c =
    omega (arith, few_counted c.args.self.now.page.now (place_numbered c.args.at c.args.self.now.page.now) c.loop-i.i c.loop-i.siblings None c.loop-i.invariant.before)

pub count-requires-clause-named : goal.count-requires-clause-named
count-requires-clause-named t c =
    omega (arith, few_counted c.args.self.now.page.now (place_numbered c.args.at c.args.self.now.page.now) c.loop-i.i c.loop-i.siblings (Some c.in-Some.name.now) c.loop-i.invariant.before)

pub visit-requires : goal.visit-requires
visit-requires t c =
    let self = c.args.self.now in
    let page = self.page.now in
    let at = place_numbered c.args.at page in
    let i = c.loop-i.i in
    let name = c.in-Some.name.now in
    let less : i < child_count_at at page = omega (arith, c.children_of-i-end.ensures) in
    let there = c.loop-i.invariant.child less in
    let within = child_there page c.loop-i.child at i there less in
    let name_is = sym (ap (λ place. name_at place page) there) ∙ sym c.name_of.ensures ∙ ap (option_map (λ name. name.now)) c.in-Some.is in
    let read_is : c.deref.result.now ≡ c.lead.new.below =
    c.deref.ensures.value ∙ read_back c.loop-i.below.len c.lead.new.below (drop (length c.lead.new.below) c.loop-i.below.items) (omega (arith, c.loop-i.below.ok, c.loop-i.invariant.len, c.lead.ensures.len)) in
    let led = led_at self c.args.alive.now c.lead.new.below c.deref.result.now at c.args.level name c.named-same.result c.loop-i.siblings.elements c.requires.level read_is c.in_ok-lead.ensures.leads in
    let alive = alive_child self at i c.loop-i.siblings name c.named-same.result c.loop-i.siblings.elements name_is c.loop-i.invariant.before c.named-same.ensures refl c.args.alive.now c.deref.result.now c.requires.alive led in (
      omega (arith, c.decreases, within, c.loop-i.invariant.after, c.requires.inside),
      (
        c.requires.levels,
        (within, (omega (arith, c.requires.level, ap length there, length-append at (i ∷ [])), (subst (λ place. AreAlive self place c.deref.result.now) (sym there) alive, c.loop-i.invariant.found))),
      ),
    )

pub loop-i-preserved : goal.loop-i-preserved
loop-i-preserved t c =
    let self = c.args.self.now in
    let page = self.page.now in
    let paths = self.paths.now in
    let alive = c.args.alive.now in
    let at = place_numbered c.args.at page in
    let i = c.loop-i.i in
    let old = c.loop-i.found in
    let found = c.match-name_of.found in
    let less : i < child_count_at at page = omega (arith, c.children_of-i-end.ensures) in
    let there = c.loop-i.invariant.child less in
    let within = child_there page c.loop-i.child at i there less in
    let ends = c.nodes_under-child-in-loop-i.ensures.within within in
    let name_is = sym (ap (λ place. name_at place page) there) ∙ sym c.name_of.ensures in
    let step : Grows page paths old found × FindsThrough self alive at (i + 1) found = elim c.match-name_of.branch [
      | in-Some+in_ok-lead+in_ok-visit+in_ok-count w ↦
          let new = w.visit.new.found in
          let finds = w.in_ok-visit.ensures.finds in
          let read_is : w.deref.result.now ≡ w.lead.new.below =
          w.deref.ensures.value ∙ read_back c.loop-i.below.len w.lead.new.below (drop (length w.lead.new.below) c.loop-i.below.items) (omega (arith, c.loop-i.below.ok, c.loop-i.invariant.len, w.lead.ensures.len)) in
          let led = led_at self alive w.lead.new.below w.deref.result.now at c.args.level w.in-Some.name.now w.named-same.result c.loop-i.siblings.elements c.requires.level read_is w.in_ok-lead.ensures.leads in
          subst (λ f. Grows page paths old f × FindsThrough self alive at (i + 1) f) (sym w.found-is) (
            finds.grows,
            through_element self alive at i old new c.loop-i.invariant.through finds.grows c.loop-i.siblings w.in-Some.name.now w.named-same.result c.loop-i.siblings.elements w.deref.result.now
                (place_numbered c.loop-i.child page) old (name_is ∙ ap (option_map (λ name. name.now)) w.in-Some.is) c.loop-i.invariant.before w.named-same.ensures refl led there finds,
          )
      | in_default w ↦
          let none = name_is ∙ ap (option_map (λ name. name.now)) w.in_default.is in
          subst (λ f. Grows page paths old f × FindsThrough self alive at (i + 1) f) (sym w.found-is)
          (grows_none page paths old, through_text self alive at i old old c.loop-i.invariant.through (grows_none page paths old) none)
    ] in
    record {
      child = λ more. c.nodes_under-child-in-loop-i.ensures.next at i there (omega (arith, more)) ∙ ap (λ k. at ++ k ∷ []) (sym (add-one i));
      after = omega (arith, ends.0, c.nodes_under-child-in-loop-i.ensures.start within, c.loop-i.invariant.after);
      before = elim c.match-name_of.branch [
        | in-Some+in_ok-lead+in_ok-visit+in_ok-count w ↦ subst (AreBefore page at (i + 1)) (sym w.siblings-is)
            (element_counted page at i c.loop-i.siblings w.count.new.self w.in-Some.name.now (name_is ∙ ap (option_map (λ name. name.now)) w.in-Some.is) c.loop-i.invariant.before
            w.in_ok-count.ensures.elements w.in_ok-count.ensures.named)
        | in_default w ↦ subst (AreBefore page at (i + 1)) (sym w.siblings-is)
            (text_counted page at i c.loop-i.siblings (name_is ∙ ap (option_map (λ name. name.now)) w.in_default.is) c.loop-i.invariant.before)
      ];
      len = elim c.match-name_of.branch [
        | in-Some+in_ok-lead+in_ok-visit+in_ok-count w ↦ ap (λ b. length b.items) w.below-is
            ∙ ap length (read_back c.loop-i.below.len w.lead.new.below (drop (length w.lead.new.below) c.loop-i.below.items) (omega (arith, c.loop-i.below.ok, c.loop-i.invariant.len, w.lead.ensures.len)))
            ∙ w.lead.ensures.len
        | in_default w ↦ ap (λ b. length b.items) w.below-is ∙ c.loop-i.invariant.len
      ];
      found = elim c.match-name_of.branch [
        | in-Some+in_ok-lead+in_ok-visit+in_ok-count w ↦ ap (λ f. length f.found.items) w.found-is ∙ w.visit.ensures.len
        | in_default w ↦ ap (λ f. length f.found.items) w.found-is ∙ c.loop-i.invariant.found
      ];
      grows = grows_more page paths c.args.found.now old found c.loop-i.invariant.grows step.0;
      ends = λ number has is. step.0.kept number at (c.loop-i.invariant.ends number has is);
      through = step.1;
    }

pub returns-then-level-self-clause-finds : goal.returns-then-level-self-clause-finds
returns-then-level-self-clause-finds t c =
    let self = c.args.self.now in
    let at = place_numbered c.args.at self.page.now in
    finds_none self c.args.alive.now at c.args.found.now (elim c.then-level-self.branch [
      | then-level-self-via-then-level-self w ↦ none_below self at c.args.alive.now c.requires.levels (omega (arith, w.if-level-self.true, c.requires.level)) c.requires.alive
      | then-level-self-via-else-level-self+then-has_none w ↦ w.has_none.ensures w.if-has_none.true
    ])

pub returns : goal.returns
returns t c =
    let page = c.args.self.now.page.now in
    record {
      len = c.loop-i.invariant.found;
      finds = finds_all c.args.self.now c.args.alive.now (place_numbered c.args.at page) c.loop-i.i c.args.found.now c.loop-i.found c.requires.alive
          (omega (arith, c.children_of-i-end.ensures, c.loop-i.auto.i-end, c.loop-i-test.false)) c.loop-i.invariant.grows c.loop-i.invariant.ends c.loop-i.invariant.through;
    }
