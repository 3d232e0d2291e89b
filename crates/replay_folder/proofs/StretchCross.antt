-- What threads make of names may go to any thread.
use denote.RattleType.{RattleType}
use denote.Param.Send.{IsSend, sendable}
use denote.Param.SendFields.{as_row_send, declared_send, variants_send}
use Rattle.std.proofs.Crossing.{crosses}
use Rattle.std.specs.declared.io.Read as reads
use Rattle.byte_streams.specs.declared.source.Source as sources
use Rattle.upload_lanes.proofs.Crossing.{upload_send}
use Rattle.shared_stock.specs.contracts.slots.Made as made
use Rattle.replay_folder.proofs.ends.UploadEnd.TheSendSync as ends
use Rattle.replay_folder.specs.contracts.drawn_files.DrawnFile as file
use Rattle.replay_folder.proofs.AtOnceCross.{taken_send}

module _ (R : RattleType) (source : sources.Ghosts R.Denot) (read : reads.Ghosts R.Denot) (bound : IsSend R) where
  pub file_send : IsSend (file.the_row R source read)
  file_send = search (sendable, crosses, variants_send, as_row_send, ends.the_send, taken_send, upload_send) depth 40

-- With its number it may, where it may alone.
pub made_send : (X : RattleType) → IsSend X → IsSend (made.the_row X)
made_send X bound = declared_send (made.the_type X) (search (sendable, crosses) depth 20, (search (sendable, crosses) depth 20, tt))
