use Rattle.std.proofs.Common.{◌≡◌, ◌<◌, ◌-◌, ◌==◌, ◌∷◌, [], Some, None, length, drop, set, get_or, refl, sym, ◌∙◌, ap, subst, arith, lit<}
use Rattle.std.proofs.lemmas.Iterator.Splits.{YieldsList-from_str_split}
use Rattle.std.proofs.lemmas.Iterator.Consumers.{YieldsList-turn, YieldsList-end}
use Rattle.std.proofs.lemmas.List.{length-append}
use Rattle.std.proofs.lemmas.List.Splits.{length-slice_split}
use Rattle.std.proofs.lemmas.Option.{slice_get_read}
use Rattle.std.proofs.lemmas.Str.Pattern.{strip_prefix_char}
use Rattle.xpath_child.specs.Fault.{path_in, written_steps}
use Rattle.xpath_child.proofs.Answered.{no_slash}
use Rattle.site_hooks.specs.Levels.{IsOfStep}
use Rattle.site_hooks.specs.Sets.{IsIn}
use Rattle.site_hooks.specs.declared.levels.Level.{Level}
use Rattle.site_hooks.proofs.StepLaws.{AddsSteps, none_without_slash, next_step, all_steps, set_more, set_same}
use Rattle.site_hooks.proofs.NoteLaws.{on_ok}
use Rattle.site_hooks.proofs.levels.add_path.Goals as goal

pub returns-in_default : goal.returns-in_default
returns-in_default c = λ path read.
    absurd (none_without_slash c.args.text.now path (no_slash c.args.text.now (strip_prefix_char 47 c.args.text.now None (rw c.in_default.is at c.strip_prefix.ensures.cases) (lit< tt))) read)

pub loop-step-preserved : goal.loop-step-preserved
loop-step-preserved c =
    let rest = c.in-Some.steps.now in
    let step = c.in-Some-step.step.now in
    let at = c.loop-step.at in
    let inv = c.loop-step.invariant in
    let slash = strip_prefix_char 47 c.args.text.now (Some c.in-Some.steps) c.in-Some.ensures.cases (lit< tt) in
    let turn = YieldsList-turn (YieldsList-from_str_split 47 rest (lit< tt) (cc) (cc) (cc)) c.loop-step.yielded _ c.loop-step.yielded_by _ _ c.in-Some-step.step c.in-Some-step.is c.next.ensures.steps in
    let there = subst (λ t. (at < length (written_steps (drop 1 t))) × (step ≡ get_or (written_steps (drop 1 t)) at step)) (sym slash)
    (subst (λ n. (n < length (written_steps rest)) × (step ≡ get_or (written_steps rest) n step)) (sym inv.at) turn) in
    record {
      at = omega (arith, inv.at, length-append c.loop-step.yielded (c.in-Some-step.step ∷ []));
      adds = next_step (written_steps (drop 1 c.args.text.now)) at c.args.number step c.args.levels.now.items c.loop-step.levels.items c.insert_at.new.levels.items inv.adds there
          c.in_ok-insert_at.ensures.there c.in_ok-insert_at.ensures.steps c.in_ok-insert_at.ensures.ends;
    }

pub returns : goal.returns
returns c =
    let rest = c.in-Some.steps.now in
    let at = c.loop-step.at in
    let inv = c.loop-step.invariant in
    let old = c.args.levels.now.items in
    let levels = c.loop-step.levels.items in
    let level = c.index_mut.result.now in
    let new : Level = record { steps = level.steps; ends = c.insert.new.self } in
    let slash = strip_prefix_char 47 c.args.text.now (Some c.in-Some.steps) c.in-Some.ensures.cases (lit< tt) in
    let end = YieldsList-end (YieldsList-from_str_split 47 rest (lit< tt) (cc) (cc) (cc)) c.loop-step.yielded _ c.loop-step.yielded_by _ _ c.in-None.is c.next.ensures.steps in
    let many : at ≡ length (written_steps rest) = inv.at ∙ end.1 in
    let some : 0 < at = omega (arith, many, length-slice_split (λ c. c == 47) rest) in
    let adds = subst (λ t. AddsSteps (written_steps (drop 1 t)) at c.args.number old levels) slash inv.adds in
    let is = slice_get_read levels (length levels) (at - 1) level refl (omega (arith, some, inv.adds.room)) c.index_mut.ensures.value in
    on_ok c.insert.result
    (λ told path read. all_steps rest path at c.args.number old levels (set levels (at - 1) new) (ap path_in (sym slash) ∙ read) many adds
    (λ j k text. set_same (λ l. IsOfStep l text k) levels (at - 1) j level new is (λ h. h, λ h. h))
    (λ j k. set_more (λ l. IsIn l.ends k) (k ≡ c.args.number) levels (at - 1) j level new is (told k)) some)
    c.insert.ensures
