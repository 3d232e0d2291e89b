use Rattle.std.proofs.Common.{◌≡◌, ℕ, ◌==◌, if◌then◌else◌, Some, None, rules}
use Rattle.std.specs.BTreeMap.{get}
use Rattle.std.specs.Ordering.{nat_cmp}
use Rattle.visit_replay.proofs.Looking.{right_more, fresh_more}
use Rattle.visit_replay.proofs.moves.Asked.ask.Goals as goal

pub returns-clause-right : goal.returns-clause-right
returns-clause-right c =
    let put : (m : ℕ) → get nat_cmp c.insert.new.self m ≡ (if c.args.number == m then Some None else get nat_cmp c.args.self.now.numbers m) = λ m. search (rules, c.in_ok-insert.ensures.updates.0 m) in
    λ finding. right_more c.args.self.now c.args.number c.insert.new.self put finding

pub returns-clause-fresh : goal.returns-clause-fresh
returns-clause-fresh c =
    let put : (m : ℕ) → get nat_cmp c.insert.new.self m ≡ (if c.args.number == m then Some None else get nat_cmp c.args.self.now.numbers m) = λ m. search (rules, c.in_ok-insert.ensures.updates.0 m) in
    fresh_more c.args.self.now c.args.number c.insert.new.self put
