use Rattle.std.proofs.Common.{◌≡◌, ◌++◌, [], ◌∷◌, length, string_bytes, length-append, ◌∙◌, ap, arith}
use Rattle.visit_replay.specs.inside.Deed.{Typed}
use Rattle.visit_replay.proofs.KeptDeeds.{typed_added}
use Rattle.visit_replay.proofs.deeds.Deeds.push_typed.Goals as goal

pub invariant_of-self-2 : goal.invariant_of-self-2
invariant_of-self-2 c =
    let typed = string_bytes c.self.inside.typed in
    let starts : c.in_ok-start.start ≡ length typed = c.in_ok-start.ensures ∙ ap length c.as_str.ensures.value in
    let ends : c.in_ok-end.end ≡ length (typed ++ c.args.value.now) = omega (arith, c.in_ok-end.ensures, ap length c.as_str-2.ensures.value, length-append typed c.args.value.now) in
    rw (c.push.ensures.items, c.unwrap.ensures, c.in_ok-reserve.ensures.items, c.in_ok-push_str.ensures.bytes)
    (typed_added typed c.args.value.now c.self.inside.submits.items c.utf8.value c.self.inside.kept.items c.args.field c.in_ok-start.start c.in_ok-end.end starts ends c.self.invariant).1

pub returns-clause-ok : goal.returns-clause-ok
returns-clause-ok c =
    let typed = string_bytes c.self.inside.typed in
    let starts : c.in_ok-start.start ≡ length typed = c.in_ok-start.ensures ∙ ap length c.as_str.ensures.value in
    let ends : c.in_ok-end.end ≡ length (typed ++ c.args.value.now) = omega (arith, c.in_ok-end.ensures, ap length c.as_str-2.ensures.value, length-append typed c.args.value.now) in
    rw (c.push.ensures.items, c.unwrap.ensures, c.in_ok-reserve.ensures.items, c.in_ok-push_str.ensures.bytes)
    (typed_added typed c.args.value.now c.self.inside.submits.items c.utf8.value c.self.inside.kept.items c.args.field c.in_ok-start.start c.in_ok-end.end starts ends c.self.invariant).0
    ∙ ap (λ deeds. deeds.items ++ Typed c.args.field c.args.value.now ∷ []) c.self.view_is
