use Rattle.std.proofs.Common.{◌≡◌, ◌∙◌, ap, sym, subst, MatchOption}
use Rattle.serde_json.specs.Data.{no_items, item}
use Rattle.json_document.specs.Standing.{data_of, items_behind}
use Rattle.json_document.specs.Fitting.{AreItems}
use Rattle.json_document.proofs.Stand.{next_item, no_item}
use Rattle.json_document.proofs.items.Items.next.Goals.{in-Some, in-None}
use Rattle.json_document.proofs.items.Items.next.Goals as goal

pub at-requires : goal.at-requires
at-requires c = (next_item c.self.inside.items c.next.new.self c.in-Some.element c.self.invariant c.in-Some.ensures.value).0

pub invariant_of-self : goal.invariant_of-self
invariant_of-self c =
    elim c.match-next.branch [
      | in-Some w ↦ (next_item c.self.inside.items c.next.new.self w.in-Some.element c.self.invariant w.in-Some.ensures.value).1
      | in-None w ↦ subst AreItems (sym w.in-None.ensures.stays) c.self.invariant
    ]

pub returns-clause-value : goal.returns-clause-value
returns-clause-value c =
    elim c.match-next.branch [
      | in-Some w ↦
          subst (λ r. MatchOption r (items_behind c.args.self.now ≡ no_items) (λ place. items_behind c.args.self.now ≡ item (data_of place) (items_behind c.next.new.self))) (sym w.result-is)
          (ap items_behind (sym c.self.view_is) ∙ (next_item c.self.inside.items c.next.new.self w.in-Some.element c.self.invariant w.in-Some.ensures.value).2 ∙ ap (λ ts. item (data_of ts) (items_behind c.next.new.self)) (sym w.at.ensures))
      | in-None w ↦
          subst (λ r. MatchOption r (items_behind c.args.self.now ≡ no_items) (λ place. items_behind c.args.self.now ≡ item (data_of place) (items_behind c.next.new.self))) (sym w.result-is)
          (ap items_behind (sym c.self.view_is) ∙ no_item c.self.inside.items c.next.new.self c.self.invariant w.in-None.ensures.value)
    ]
