-- What a thread took of a lane may go to any thread.
use denote.RattleType.{RattleType}
use denote.Param.Send.{IsSend, sendable}
use denote.Param.SendFields.{declared_send}
use Rattle.std.proofs.Crossing.{crosses}
use Rattle.std.specs.declared.io.Read as reads
use Rattle.byte_streams.specs.declared.source.Source as sources
use Rattle.upload_reader.proofs.client.Client.TheSendSync as clients
use Rattle.lanes_in_turn.proofs.gathered.Stop.TheSendSync as stop
use Rattle.upload_lanes.proofs.Crossing.{lane_send}
use Rattle.replay_folder.specs.contracts.at_once.TakenLane as taken

pub taken_send : (R : RattleType) (source : sources.Ghosts R.Denot) (read : reads.Ghosts R.Denot) → IsSend R → IsSend (taken.the_row R source read)
taken_send R source read bound = declared_send (taken.the_type R source read) (
  search (sendable, crosses, clients.the_send, lane_send) depth 40,
  (search (sendable, crosses, stop.the_send) depth 40, tt),
)
