use Rattle.std.proofs.Common.{◌≡◌, ◌∷◌, bytes_eq, sym, ap, subst, ◌∙◌, rules}
use Rattle.std.proofs.lemmas.List.{nil_from_length}
use Rattle.std.specs.List.{AllByRecursion}
use Rattle.indexmap.specs.IndexMap.{insert_entry}
use Rattle.byte_streams.specs.Reading.{WasRead}
use Rattle.warp_server.specs.program.Callers.{IsReadSo, uploads_in}
use Rattle.replay_folder.proofs.OwnRoundLaws.{closed_one, read_one}
use Rattle.replay_folder.proofs.own_lanes.close_all.Goals as goal

pub loop-client-preserved-in_ok-insert : goal.loop-client-preserved-in_ok-insert
loop-client-preserved-in_ok-insert g c =
    let first : c.loop-client.client-iterator.rest.items ≡ (c.in-Some.client, c.in-Some.lane) ∷ c.next.new.self.rest.items = search rules in
    let put = c.in_ok-insert.ensures.entries ∙ ap (insert_entry bytes_eq c.loop-client.own.entries c.in-Some.client) c.without_reader.ensures.lane in record {
      clients = closed_one c.loop-client.own.entries c.insert.new.self.entries c.in-Some.client c.in-Some.lane c.next.new.self.rest.items c.loop-client.client-iterator.rest.items c.args.lanes.items first put c.loop-client.invariant.clients;
      read = λ others. c.loop-client.invariant.read (read_one (IsReadSo (WasRead g.F.Source.answers g.F.Read.remaining)) c.in-Some.client c.in-Some.lane c.next.new.self.rest.items c.loop-client.client-iterator.rest.items first c.without_reader.ensures.read others);
    }

pub loop-client-preserved-in_ok-insert-2 : goal.loop-client-preserved-in_ok-insert-2
loop-client-preserved-in_ok-insert-2 g c =
    let first : c.loop-client.client-iterator.rest.items ≡ (c.in-Some.client, c.in-Some.lane) ∷ c.next.new.self.rest.items = search rules in
    let put = c.in_ok-insert.ensures.entries ∙ ap (insert_entry bytes_eq c.loop-client.own.entries c.in-Some.client) c.without_reader.ensures.lane in record {
      clients = closed_one c.loop-client.own.entries c.insert.new.self.entries c.in-Some.client c.in-Some.lane c.next.new.self.rest.items c.loop-client.client-iterator.rest.items c.args.lanes.items first put c.loop-client.invariant.clients;
      read = λ others. c.loop-client.invariant.read (read_one (IsReadSo (WasRead g.F.Source.answers g.F.Read.remaining)) c.in-Some.client c.in-Some.lane c.next.new.self.rest.items c.loop-client.client-iterator.rest.items first c.without_reader.ensures.read others);
    }

pub loop-client-preserved : goal.loop-client-preserved
loop-client-preserved g c =
    let first : c.loop-client.client-iterator.rest.items ≡ (c.in-Some.client, c.in-Some.lane) ∷ c.next.new.self.rest.items = search rules in
    let put = c.in_ok-insert.ensures.entries ∙ ap (insert_entry bytes_eq c.loop-client.own.entries c.in-Some.client) c.without_reader.ensures.lane in record {
      clients = closed_one c.loop-client.own.entries c.insert.new.self.entries c.in-Some.client c.in-Some.lane c.next.new.self.rest.items c.loop-client.client-iterator.rest.items c.args.lanes.items first put c.loop-client.invariant.clients;
      read = λ others. c.loop-client.invariant.read (read_one (IsReadSo (WasRead g.F.Source.answers g.F.Read.remaining)) c.in-Some.client c.in-Some.lane c.next.new.self.rest.items c.loop-client.client-iterator.rest.items first c.without_reader.ensures.read others);
    }

pub returns-clause-read : goal.returns-clause-read
returns-clause-read g c =
    let rest = c.loop-client.client-iterator.rest in
    let none = nil_from_length rest.items (sym rest.ok.0 ∙ c.in-None.ensures.steps.0) in
    c.loop-client.invariant.read (subst (λ lanes. AllByRecursion (IsReadSo (WasRead g.F.Source.answers g.F.Read.remaining)) (uploads_in lanes)) (sym none) tt)
