use Rattle.std.proofs.Common.{bytes_eq, length, map, sym, ap, subst, ◌∙◌}
use Rattle.std.proofs.lemmas.List.{length-map}
use Rattle.std.specs.List.{AllByRecursion}
use Rattle.indexmap.specs.IndexMap.{get}
use Rattle.lanes_in_turn.specs.Round.{AreRoundLanes}
use Rattle.lanes_in_turn.specs.Taking.{IsFreshLane, begun_lane, never}
use Rattle.lanes_in_turn.proofs.FreshLaws.{fresh_begun}
use Rattle.upload_lanes.specs.Threads.{AreTaken, read_ahead}
use Rattle.warp_server.specs.Rounds.{server_room}
use Rattle.warp_server.proofs.RoundSteps.{all_untouched}
use Rattle.replay_folder.proofs.TakenFilesLaws.{some_listed}
use Rattle.replay_folder.proofs.OwnRoundLaws.{own_entries}
use Rattle.replay_folder.proofs.own_lanes.take_own.Goals as goal

pub move_out-requires-clause-untouched : goal.move_out-requires-clause-untouched
move_out-requires-clause-untouched g c κs within = all_untouched c.args.uploads.items c.requires.ready.greeted

pub take_to_ends-requires-clause-fresh : goal.take_to_ends-requires-clause-fresh
take_to_ends-requires-clause-fresh g c κs within =
    subst (AllByRecursion IsFreshLane) (sym c.in_ok-fresh.ensures.lanes)
    (fresh_begun (get bytes_eq c.args.clients.now) c.args.quota c.args.uploads.items (all_untouched c.args.uploads.items c.requires.ready.greeted))

pub take_to_ends-requires-clause-lanes : goal.take_to_ends-requires-clause-lanes
take_to_ends-requires-clause-lanes g c κs within =
    subst AreRoundLanes (sym (ap length c.in_ok-fresh.ensures.lanes ∙ length-map c.args.uploads.items (begun_lane (get bytes_eq c.args.clients.now) c.args.quota)))
    (record { some = some_listed c.args.uploads.items c.requires.some; few = c.requires.ready.few })

pub returns-clause-own : goal.returns-clause-own
returns-clause-own g c =
    let known = get bytes_eq c.args.clients.now in let uploads = c.args.uploads.items in let lanes = c.in_ok-lanes.lanes.items in let stop = c.in_ok-lanes.stop in
    let taken = subst (λ n. AreTaken never (read_ahead server_room n) (map (begun_lane known c.args.quota) uploads) lanes stop) (length-map uploads (begun_lane known c.args.quota))
    (subst (λ fresh. AreTaken never (read_ahead server_room (length fresh)) fresh lanes stop) c.in_ok-fresh.ensures.lanes c.in_ok-lanes.ensures) in record {
      is_round = record { lanes = record { some = some_listed uploads c.requires.some; few = c.requires.ready.few }; clients = c.requires.ready.apart };
      lanes = lanes;
      taken = taken;
      read = c.in_ok-close_all.ensures.read;
      clients_are = c.in_ok-close_all.ensures.clients ∙ own_entries known c.args.quota _ uploads lanes c.requires.ready.apart taken.lanes_are;
    }
