use denote.Param.Send.{sendable}
use Rattle.std.proofs.Crossing.{crosses}
use Rattle.replay_folder.proofs.StretchCross.{file_send, made_send}
use Rattle.replay_folder.proofs.drawn_files.draw_shares.Goals as goal

pub map_indices-requires-send-X : goal.map_indices-requires-send-X
map_indices-requires-send-X g c κs within = search (sendable, crosses, made_send, file_send) depth 40
