use Rattle.std.proofs.Common.{◌≡◌, ◌≢◌, ◌<◌, [], ℕ, true, false, length, get_or, cond, Ok, Some, string_bytes, refl, sym, ◌∙◌, ap, subst, arith}
use Rattle.std.specs.BTreeMap.{get_by_text}
use Rattle.std.specs.Str.{bytes_eq}
use Rattle.std.proofs.lemmas.Map.Text.{btree_map_updates_text}
use Rattle.xpath_child.specs.Fault.{path_in}
use Rattle.xpath_child.specs.Path.{path_text}
use Rattle.xpath_child.proofs.Sound.{path_in-sound}
use Rattle.site_hooks.specs.Kept.{HaveNumbers}
use Rattle.site_hooks.specs.Levels.{AreLevels, AddsNumber}
use Rattle.site_hooks.proofs.NumberLaws.{unchanged_numbers, still_numbered, added_number}
use Rattle.site_hooks.proofs.LevelLaws.{added_levels}
use Rattle.site_hooks.proofs.watch_list.WatchList.add.Goals as goal
use Rattle.site_hooks.proofs.watch_list.WatchList.add.Goals.{then-self, else-self}

pub is_among-requires-clause-numbers : goal.is_among-requires-clause-numbers
is_among-requires-clause-numbers c = subst (HaveNumbers c.self.inside.numbers) (sym c.deref.ensures.value) c.self.invariant.0

pub invariant_of-self-in_err-insert : goal.invariant_of-self-in_err-insert
invariant_of-self-in_err-insert c = (unchanged_numbers c.self.inside.numbers c.insert.new.self c.self.inside.paths.items c.in_err-insert.ensures.err c.self.invariant.0, λ yes. cc)

pub invariant_of-self-in_err-push : goal.invariant_of-self-in_err-push
invariant_of-self-in_err-push c =
    let paths = c.self.inside.paths.items in
    let old = c.self.inside.numbers in
    let new = c.insert.new.self in
    let text = path_text c.args.path in
    let text_is : c.as_str.result.now ≡ text = c.as_str.ensures ∙ c.in_ok-text.ensures in
    let fresh : (number : ℕ) → number < length paths → path_text (get_or paths number []) ≢ text =
    subst (λ ps. (number : ℕ) → number < length ps → path_text (get_or ps number []) ≢ text) c.deref.ensures.value
    (subst (λ t. (number : ℕ) → number < length c.deref.result.now → path_text (get_or c.deref.result.now number []) ≢ t) text_is (c.is_among.ensures.no c.if-is_among.false)) in (
      subst (HaveNumbers new) (sym c.in_err-push.ensures.items) (still_numbered old new paths text c.len-number.result c.self.invariant.0 fresh (λ other.
          btree_map_updates_text (string_bytes c.into_string.result) old new _ c.in_ok-insert.ensures.updates other
          ∙ ap (λ bytes. cond (bytes_eq bytes other) (Some c.len-number.result) (get_by_text old other)) (c.into_string.ensures ∙ c.in_ok-text.ensures))),
      λ yes. cc,
    )

pub invariant_of-self-2 : goal.invariant_of-self-2
invariant_of-self-2 c =
    let paths = c.self.inside.paths.items in
    let old = c.self.inside.numbers in
    let new = c.insert.new.self in
    let path = c.args.path in
    let text = path_text path in
    let text_is : c.as_str.result.now ≡ text = c.as_str.ensures ∙ c.in_ok-text.ensures in
    let fresh : (number : ℕ) → number < length paths → path_text (get_or paths number []) ≢ text =
    subst (λ ps. (number : ℕ) → number < length ps → path_text (get_or ps number []) ≢ text) c.deref.ensures.value
    (subst (λ t. (number : ℕ) → number < length c.deref.result.now → path_text (get_or c.deref.result.now number []) ≢ t) text_is (c.is_among.ensures.no c.if-is_among.false)) in
    let many : c.len-number.result ≡ length paths = omega (arith, c.len-number.ensures, c.self.inside.paths.ok) in (
      subst (HaveNumbers new) (sym c.in_ok-push.ensures.items) (added_number old new paths text c.len-number.result c.self.invariant.0 fresh (λ other.
          btree_map_updates_text (string_bytes c.into_string.result) old new _ c.in_ok-insert.ensures.updates other
          ∙ ap (λ bytes. cond (bytes_eq bytes other) (Some c.len-number.result) (get_by_text old other)) (c.into_string.ensures ∙ c.in_ok-text.ensures)) path refl many),
      λ yes. elim c.if-self.branch [
        | then-self w ↦
            let read : path_in c.as_str-2.result.now ≡ Ok path =
            ap path_in (c.as_str-2.ensures ∙ sym w.as_str-then-self.ensures) ∙ w.is_of-was_whole.ensures.read (sym w.was_whole-is ∙ yes) in
            subst (AreLevels c.add_path.new.levels.items) (sym c.in_ok-push.ensures.items)
            (added_levels paths path c.self.inside.levels.items c.add_path.new.levels.items (c.self.invariant.1 w.if-self.true)
            (subst (λ n. AddsNumber path n c.self.inside.levels.items c.add_path.new.levels.items) many (c.in_ok-add_path.ensures path read)) (path_in-sound c.as_str-2.result.now path read).0.each)
        | else-self w ↦ let clash : false ≡ true = sym w.if-self.false ∙ sym w.was_whole-is ∙ yes in cc
      ],
    )
