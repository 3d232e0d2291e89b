use Rattle.std.proofs.Common.{[], if◌then◌else◌, sym, ap, ◌∙◌}
use Rattle.std.specs.List.{cons_option}
use Rattle.visit_replay.specs.inside.FieldsNow.{pair_now, with_pairs}
use Rattle.visit_replay.proofs.OneSenderMore.{told_either}
use Rattle.visit_replay.proofs.forms.add_pair.Goals as goal

pub returns-then-is_passed_over : goal.returns-then-is_passed_over
returns-then-is_passed_over c = λ names marked.
    let pair = pair_now c.args.filled.now c.args.sender.now.number in
    sym (ap (with_pairs c.args.pairs.now) (told_either c.args.counted names c.args.filled.now c.args.sender.now c.requires marked
    ∙ ap (λ b. if b then [] else cons_option pair []) (sym c.is_passed_over.ensures ∙ c.if-is_passed_over.true)))

pub returns-in_ok-append : goal.returns-in_ok-append
returns-in_ok-append c = λ names marked.
    let pair = pair_now c.args.filled.now c.args.sender.now.number in
    c.in_ok-append.ensures
    ∙ sym (ap (with_pairs c.args.pairs.now) (told_either c.args.counted names c.args.filled.now c.args.sender.now c.requires marked
    ∙ ap (λ b. if b then [] else cons_option pair []) (sym c.is_passed_over.ensures ∙ c.if-is_passed_over.false)
    ∙ ap (λ o. cons_option o []) (sym c.in-Some.ensures)))
