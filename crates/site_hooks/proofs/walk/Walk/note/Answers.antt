use Rattle.std.proofs.Common.{◌≡◌, ◌≤◌, ◌<◌, ◌+◌, inl, inr, Some, None, true, false, length, take, get_or, slice_get, lt-ltb, take_all, refl, sym, ◌∙◌, ap, subst, arith}
use Rattle.std.proofs.lemmas.Bool.{cases_lt}
use Rattle.std.proofs.lemmas.List.{get_or_default}
use Rattle.std.proofs.lemmas.Option.{slice_get_cases, slice_get_read}
use Rattle.page_tree.specs.Number.{place_numbered}
use Rattle.site_hooks.specs.Findings.{Grows}
use Rattle.site_hooks.specs.declared.number_set.Word.{Word}
use Rattle.site_hooks.proofs.EndLaws.{NotedFor, ends_none, all_ends, none_there, word_noted}
use Rattle.site_hooks.proofs.walk.Walk.note.Goals as goal
use Rattle.site_hooks.proofs.walk.Walk.note.Goals.{in-Some-get, in_default-get}

pub returns-in_default-clause-ends : goal.returns-in_default-clause-ends
returns-in_default-clause-ends c =
    let levels = c.args.self.now.levels.now in
    let gone : slice_get levels c.args.level ≡ None = elim (slice_get_cases levels c.args.level).1 [
      | inl there ↦ let clash : false ≡ true = c.in_default.ensures.lookup.0 ∙ lt-ltb c.args.level (length levels) there.1 in cc
      | inr past ↦ past.1
    ] in
    ends_none c.args.self.now c.args.alive.now (place_numbered c.args.at c.args.self.now.page.now) c.args.found.now c.requires.levels (ap (slice_get levels) (sym c.requires.level) ∙ gone)

pub loop-word-preserved : goal.loop-word-preserved
loop-word-preserved c =
    let walk = c.args.self.now in
    let levels = walk.levels.now in
    let level = c.in-Some.level.now in
    let alive = c.args.alive.now in
    let words = c.words-words.result.now in
    let i = c.loop-word.word-index in
    let none : Word = record { index = 0; bits = 0 } in
    let word = get_or words i none in
    let less : i < length words = omega (arith, c.loop-word-test.true, c.loop-word.auto.word-index-end) in
    let is = get_or_default words i none word less in
    let there : slice_get levels (length (place_numbered c.args.at walk.page.now)) ≡ Some level =
    ap (slice_get levels) (sym c.requires.level) ∙ slice_get_read levels _ c.args.level level refl c.in-Some.ensures.lookup.3.0 (c.in-Some.ensures.lookup.3.1 level) in
    elim c.match-get-2.branch [
      | in-Some-get w ↦
          let both = word_noted walk c.args.at alive level words c.requires.levels c.requires.alive there c.words-words.ensures i word c.args.found.now c.loop-word.found less is
          c.loop-word.invariant.grows c.loop-word.invariant.noted w.in-Some-get.others.now w.note_each.new.self c.requires.inside (w.in-Some-get.ensures.lookup.4 (omega arith) 0)
          c.loop-word.invariant.len w.note_each.ensures.noted w.note_each.ensures.each in
          record {
            len = ap (λ f. length f.found.items) w.found-is ∙ w.note_each.ensures.len ∙ c.loop-word.invariant.len;
            grows = subst (Grows walk.page.now walk.paths.now c.args.found.now) (sym w.found-is) both.0;
            noted = subst (NotedFor walk c.args.at alive (take (i + 1) words)) (sym w.found-is) both.1;
          }
      | in_default-get w ↦
          let past : length alive ≤ word.index = elim (cases_lt word.index (length alive)) [
            | inl inside ↦ let clash : false ≡ true = w.in_default-get.ensures.lookup.0 ∙ lt-ltb word.index (length alive) inside in cc
            | inr past ↦ past
          ] in
          record {
            len = ap (λ f. length f.found.items) w.found-is ∙ c.loop-word.invariant.len;
            grows = subst (Grows walk.page.now walk.paths.now c.args.found.now) (sym w.found-is) c.loop-word.invariant.grows;
            noted = subst (NotedFor walk c.args.at alive (take (i + 1) words)) (sym w.found-is)
                (none_there walk c.args.at alive level words c.requires.levels c.requires.alive there c.words-words.ensures i word c.args.found.now c.loop-word.found less is
                c.loop-word.invariant.grows c.loop-word.invariant.noted past);
          }
    ]

pub returns-clause-ends : goal.returns-clause-ends
returns-clause-ends c =
    let walk = c.args.self.now in
    let level = c.in-Some.level.now in
    let there : slice_get walk.levels.now (length (place_numbered c.args.at walk.page.now)) ≡ Some level =
    ap (slice_get walk.levels.now) (sym c.requires.level) ∙ slice_get_read walk.levels.now _ c.args.level level refl c.in-Some.ensures.lookup.3.0 (c.in-Some.ensures.lookup.3.1 level) in
    all_ends walk c.args.at c.args.alive.now level c.words-words.result.now c.requires.levels c.requires.alive there c.words-words.ensures c.loop-word.found
    (subst (λ ws. NotedFor walk c.args.at c.args.alive.now ws c.loop-word.found) (take_all c.loop-word.word-index c.words-words.result.now (omega arith)) c.loop-word.invariant.noted)
