use denote.Param.Send.{sendable}
use Rattle.std.proofs.Crossing.{crosses}
use Rattle.lane_queue.proofs.lanes.LaneQueue.TheSendSync as queue
use Rattle.lane_queue.proofs.putter.Putter.TheSendSync as putter
use Rattle.upload_lanes.proofs.gate.Gate.TheSendSync as gate
use Rattle.upload_lanes.proofs.uploader.Outlet.TheSendSync as outlet
use Rattle.upload_lanes.proofs.sent.Parcel.TheSendSync as parcel
use Rattle.upload_lanes.proofs.Crossing.{upload_send}
use Rattle.upload_lanes.proofs.uploader.start_upload.Goals as goal

pub spawn_with-requires-send-F : goal.spawn_with-requires-send-F
spawn_with-requires-send-F g c κs within = search (sendable, crosses, parcel.the_send, outlet.the_send, queue.the_send, queue.the_sync, gate.the_sync, upload_send) depth 40 fits 20000

pub spawn_with-requires-send-T : goal.spawn_with-requires-send-T
spawn_with-requires-send-T g c κs within = search (sendable, crosses, parcel.the_send, putter.the_send, upload_send) depth 40 fits 20000
