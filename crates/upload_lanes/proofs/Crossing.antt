-- What may go to any thread.
use denote.RattleType.{RattleType}
use denote.Param.Send.{IsSend, sendable, view_send}
use denote.Param.SendFields.{declared_send, as_row_send}
use Rattle.std.proofs.Crossing.{crosses}
use Rattle.std.specs.declared.io.Read as reads
use Rattle.byte_streams.specs.declared.source.Source as sources
use Rattle.byte_streams.specs.contracts.lines.Lines as lines
use Rattle.byte_streams.proofs.Sent.{lines_send}
use Rattle.upload_reader.specs.contracts.client.Client as client
use Rattle.upload_reader.proofs.client.Client.TheSendSync as clients
use Rattle.upload_reader.specs.contracts.documents.Documents as documents
use Rattle.upload_reader.specs.contracts.recent.Recent as recent
use Rattle.upload_reader.proofs.recent.Recent.TheSendSync as recents
use Rattle.upload_reader.specs.contracts.progress.Progress as progress
use Rattle.upload_reader.proofs.session.Session.TheSendSync as sessions
use Rattle.upload_reader.proofs.ending.Ending.TheSendSync as endings
use Rattle.upload_reader.specs.contracts.upload.Upload as upload
use Rattle.upload_reader.specs.contracts.upload.Upload.TheInside as inside
use Rattle.client_log.specs.contracts.log.ClientLog as log
use Rattle.client_log.proofs.log.ClientLog.TheSendSync as logs
use Rattle.lane_queue.proofs.taker.Taker.TheSendSync as taker
use Rattle.lanes_in_turn.proofs.gathered.Stop.TheSendSync as stop
use Rattle.upload_lanes.proofs.sent.Parcel.TheSendSync as parcel
use Rattle.lanes_in_turn.specs.contracts.gathered.LaneResult as lane
use Rattle.upload_lanes.specs.contracts.recorder.Duty as duty
use Rattle.upload_lanes.specs.contracts.recorder.HandedBack as recorded

documents_send : IsSend documents.the_field.row
documents_send = search (sendable, crosses) depth 40

progress_send : IsSend progress.the_field.row
progress_send = search (sendable, crosses, sessions.the_send) depth 40

module _ (R : RattleType) (source : sources.Ghosts R.Denot) (read : reads.Ghosts R.Denot) (bound : IsSend R) where
  -- An upload goes where its source may go.
  pub upload_send : IsSend (upload.the_row R source read)
  upload_send =
      let fields : IsSend (inside.the_row R source read) = declared_send (inside.the_type R source read) (
        as_row_send client.the_field clients.the_send,
        (
          as_row_send (lines.the_field R source read) (lines_send R source read bound),
          (as_row_send documents.the_field documents_send, (as_row_send recent.the_field recents.the_field_send, (as_row_send progress.the_field progress_send, (search (sendable, crosses) depth 40, (search (sendable, as_row_send, endings.the_send) depth 20, tt))))),
        ),
      ) in
      view_send _ _ _ _ _ fields

  -- And so does a lane.
  pub lane_send : IsSend (lane.the_row R source read)
  lane_send = declared_send (lane.the_type R source read) (
    as_row_send log.the_field logs.the_send,
    (search (sendable, crosses) depth 20, (search (sendable, crosses, as_row_send, endings.the_send) depth 20, (search (sendable, crosses, as_row_send, upload_send) depth 40, tt))),
  )

  pub duty_send : IsSend (duty.the_row R source read)
  duty_send = declared_send (duty.the_type R source read) (
    search (sendable, crosses, as_row_send, parcel.the_send, taker.the_send) depth 40,
    (search (sendable, crosses, as_row_send, clients.the_send, lane_send) depth 40, tt),
  )

  pub recorded_send : IsSend (recorded.the_row R source read)
  recorded_send = declared_send (recorded.the_type R source read) (
    search (sendable, crosses, as_row_send, parcel.the_send, taker.the_send) depth 40,
    (search (sendable, crosses, as_row_send, clients.the_send, lane_send) depth 40, (search (sendable, crosses, as_row_send, stop.the_send) depth 40, (search (sendable, crosses) depth 20, tt))),
  )
