use Rattle.std.proofs.Common.{◌≡◌, ◌++◌, ◌∷◌, [], option_to_list, ap, ◌∙◌}
use Rattle.replay_workers.proofs.Placing.{next_stands, next_within}
use Rattle.replay_workers.proofs.pool.place.Goals as goal

pub loop-one-preserved : goal.loop-one-preserved
loop-one-preserved c =
    let rest = c.pop.new.self.items in
    let one = c.in-Some.one in
    let split : c.loop-one.done.items ≡ rest ++ one ∷ [] = c.pop.ensures.items ∙ ap (λ popped. rest ++ option_to_list popped) c.in-Some.is in
    record {
      within = next_within c.loop-one.all c.loop-one.done.items rest one c.put.new.place split c.put.ensures c.loop-one.invariant.within;
      stands = λ own x are stood.
          let before = c.loop-one.invariant.stands own x are stood in
          next_stands c.loop-one.all c.loop-one.done.items rest one c.put.new.place split c.put.ensures c.loop-one.invariant.within own x before.0 before.1;
    }
