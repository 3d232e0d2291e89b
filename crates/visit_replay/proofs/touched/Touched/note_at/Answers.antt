use Rattle.std.proofs.Common.{◌≡◌, ◌==◌, ◌&&◌, ℕ, List, if◌then◌else◌, true, false, Some, ap, sym, ◌∙◌, rules}
use Rattle.std.proofs.lemmas.Bool.{and_parts}
use Rattle.std.specs.BTreeMap.{get}
use Rattle.std.specs.Ordering.{nat_cmp}
use Rattle.page_tree.specs.Number.{place_numbered}
use Rattle.visit_replay.specs.Aim.{strays, touches, is_under_one}
use Rattle.visit_replay.specs.declared.touched.Touched.{Touched}
use Rattle.visit_replay.proofs.Straying.{never, nothing_more, one_more, strays_here}
use Rattle.visit_replay.proofs.touched.Touched.note_at.Goals as goal
use Rattle.visit_replay.proofs.touched.Touched.note_at.Goals.{then-has-via-then-has, then-has-via-else-has+then-not-touches}

pub returns : goal.returns
returns c = λ aim before acts has.
    let old = c.args.old.now in
    let new = c.args.new.now in
    let event = c.args.event.now in
    let touched' : Touched = record { fields = c.push.new.self; known = c.insert.new.self } in
    let put : (other : ℕ) → get nat_cmp c.insert.new.self other ≡ (if c.args.was == other then Some c.args.is else get nat_cmp c.args.self.now.known other) =
    λ other. search (rules, c.in_ok-insert.ensures.updates.0 other) in
    let touching : touches old event (place_numbered c.args.was old) ≡ true = search (rules, c.touches.ensures, c.if-not-touches.false) in
    one_more aim old new c.args.self.now before event has touched' c.args.was c.args.is c.requires.path.0 acts.0 c.in_ok-push.ensures.items put
    (λ f g. strays_here aim old f g event (place_numbered c.args.was old) (place_numbered c.args.is new) (sym c.requires.path.1) acts.1
    ∙ ap (λ b. b && is_under_one f g (place_numbered c.args.was old) (place_numbered c.args.is new)) touching)

pub returns-then-has : goal.returns-then-has
returns-then-has c = λ aim before acts has.
    let old = c.args.old.now in
    let new = c.args.new.now in
    let event = c.args.event.now in
    let one : (f g : List ℕ) → strays aim old f g event ≡ (touches old event (place_numbered c.args.was old) && is_under_one f g (place_numbered c.args.was old) (place_numbered c.args.is new)) =
    λ f g. strays_here aim old f g event (place_numbered c.args.was old) (place_numbered c.args.is new) (sym c.requires.path.1) acts.1 in
    elim c.then-has.branch [
      | then-has-via-then-has w ↦ nothing_more aim old new c.args.self.now before event has (λ f g is.
          has.known c.args.was c.args.is (c.has.ensures w.if-has.true) f g (and_parts _ _ (sym (one f g) ∙ is)).1)
      | then-has-via-else-has+then-not-touches w ↦
          let apart : touches old event (place_numbered c.args.was old) ≡ false = search (rules, w.touches.ensures, w.if-not-touches) in
          never aim old new c.args.self.now before event has (λ f g. one f g ∙ ap (λ b. b && is_under_one f g (place_numbered c.args.was old) (place_numbered c.args.is new)) apart)
    ]
