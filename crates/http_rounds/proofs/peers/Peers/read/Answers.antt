use Rattle.std.proofs.Common.{length, take, drop, arith, ap, ◌∙◌}
use Rattle.http_rounds.proofs.Places.{answered_from}
use Rattle.http_rounds.proofs.peers.Peers.read.Goals as goal

pub returns : goal.returns
returns g c = (
  c.if-self-len.first,
  answered_from g.S.Service.answers c.if-self-len.first c.args.self.now.places.len c.args.self.now.places.items
      c.split_at_mut-before.result.0.now c.split_at_mut-before.result.1.now c.read_all-2.new.places c.read_all.new.places _ c.args.service.now c.read_all.new.service c.read_all-2.new.service
      (c.split_at_mut-before.ensures.front ∙ ap (take c.if-self-len.first) c.deref_mut.ensures.value) (c.split_at_mut-before.ensures.back ∙ ap (drop c.if-self-len.first) c.deref_mut.ensures.value)
      c.split_at_mut-before.ensures.front_len (omega (arith, c.deref_mut.ensures.len, ap length c.deref_mut.ensures.value)) c.read_all.ensures c.read_all-2.ensures,
)
