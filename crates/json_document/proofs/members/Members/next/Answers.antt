use Rattle.std.proofs.Common.{◌≡◌, ◌∙◌, [], ◌∷◌, ap, sym, subst, MatchOption}
use Rattle.json_document.specs.Standing.{data_of, members_behind}
use Rattle.json_document.specs.Fitting.{AreMembers}
use Rattle.json_document.proofs.Stand.{next_member, no_member}
use Rattle.json_document.proofs.members.Members.next.Goals.{in-Some, in-None}
use Rattle.json_document.proofs.members.Members.next.Goals as goal

pub at-requires : goal.at-requires
at-requires c = (next_member c.self.inside.members c.next.new.self c.in-Some.element c.in-Some.name.now c.self.invariant c.in-Some.ensures.value).0

pub invariant_of-self : goal.invariant_of-self
invariant_of-self c =
    elim c.match-next.branch [
      | in-Some w ↦ (next_member c.self.inside.members c.next.new.self w.in-Some.element w.in-Some.name.now c.self.invariant w.in-Some.ensures.value).1
      | in-None w ↦ subst AreMembers (sym w.in-None.ensures.stays) c.self.invariant
    ]

pub returns-clause-value : goal.returns-clause-value
returns-clause-value c =
    elim c.match-next.branch [
      | in-Some w ↦
          subst (λ r. MatchOption r (members_behind c.args.self.now ≡ []) (λ member. members_behind c.args.self.now ≡ (member.0.now, data_of member.1) ∷ members_behind c.next.new.self)) (sym w.result-is)
          (ap members_behind (sym c.self.view_is) ∙ (next_member c.self.inside.members c.next.new.self w.in-Some.element w.in-Some.name.now c.self.invariant w.in-Some.ensures.value).2 ∙ ap (λ ts. (w.in-Some.name.now, data_of ts) ∷ members_behind c.next.new.self) (sym w.at.ensures))
      | in-None w ↦
          subst (λ r. MatchOption r (members_behind c.args.self.now ≡ []) (λ member. members_behind c.args.self.now ≡ (member.0.now, data_of member.1) ∷ members_behind c.next.new.self)) (sym w.result-is)
          (ap members_behind (sym c.self.view_is) ∙ no_member c.self.inside.members c.next.new.self c.self.invariant w.in-None.ensures.value)
    ]
