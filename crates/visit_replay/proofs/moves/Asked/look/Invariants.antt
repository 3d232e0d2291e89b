use Rattle.std.proofs.Common.{◌≡◌, ℕ, take, is_some, unwrap_or, []}
use Rattle.std.specs.BTreeMap.{get}
use Rattle.std.specs.Ordering.{nat_cmp}
use Rattle.visit_replay.specs.Aim.{by_path}
use Rattle.visit_replay.specs.Moved.{requests_of}
use Rattle.visit_replay.specs.inside.Boards.{IsOn}
use Rattle.visit_replay.specs.inside.Deeds.{requests_on}
use Rattle.visit_replay.specs.inside.Differing.{KnowsOwn, KnowsTexts}
use Rattle.visit_replay.specs.inside.FirstDeeds.{FindsFirst}
use Rattle.visit_replay.specs.inside.KeptFields.{Keeps}
use Rattle.visit_replay.specs.inside.Moves.{IsMet, IsRight}
use Rattle.visit_replay.specs.declared.outcome.Outcome.{Outcome}
use Rattle.visit_replay.proofs.moves.Asked.look.Given as goal

abbrev pub invariant-loop-k : goal.invariant-loop-k
invariant-loop-k l = record {
  kept : Keeps (by_path l.visit.page) l.fields l.visit.page (take l.k l.visit.events);
  met : (outcome : Outcome) → requests_of outcome ≡ requests_on l.trail.address l.trail.page l.trail.deeds.items
      → IsRight l.finding l.visit outcome l.fn.self → IsMet l.finding l.visit outcome l.k l.self.numbers;
  same : (number : ℕ) → is_some (get nat_cmp l.self.numbers number) ≡ is_some (get nat_cmp l.fn.self.numbers number);
  firsts : FindsFirst l.trail l.firsts;
  board : IsOn l.trail.page l.trail.deeds.items l.board;
  known : KnowsTexts l.finding l.compared;
  own : KnowsOwn (unwrap_or l.finding []) l.visit.page l.own;
}
