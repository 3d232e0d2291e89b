-- What may go to any thread.
use denote.RattleType.{RattleType}
use denote.Struct.Field.{row_field}
use denote.Param.Send.{IsSend, owning_send, sendable, view_send}
use denote.Param.SendFields.{declared_send, variants_send, as_row_send}
use Rattle.std.proofs.Crossing.{crosses}
use Rattle.std.specs.declared.io.Read as reads
use Rattle.byte_streams.specs.declared.source.Source as sources
use Rattle.byte_streams.specs.contracts.history.History as history
use Rattle.byte_streams.specs.contracts.window.Window as window
use Rattle.byte_streams.specs.contracts.window.Window.TheInside as window_inside
use Rattle.byte_streams.specs.contracts.lines.Lines.{the_row}
use Rattle.byte_streams.specs.contracts.lines.Lines.TheInside as inside

-- A history owns nothing.
pub history_send : IsSend history.the_row
history_send = owning_send history.the_type (search sendable, tt) (λ d. tt) (λ k x w. tt)

-- Lines go where their source may go.
pub lines_send : (R : RattleType) (source : sources.Ghosts R.Denot) (read : reads.Ghosts R.Denot) → IsSend R → IsSend (the_row R source read)
lines_send R source read bound =
    let kept : IsSend window_inside.the_row = declared_send window_inside.the_type (search (sendable, crosses) depth 20) in
    let shown : IsSend window.the_row = view_send _ _ _ _ _ kept in
    let fields : IsSend (inside.the_row R source read) = declared_send (inside.the_type R source read)
    (as_row_send (row_field R) bound, (search (sendable, crosses) depth 20, (as_row_send window.the_field shown, (search (sendable, crosses, as_row_send) depth 20, (search (sendable, crosses, as_row_send) depth 20, (search (sendable, crosses, variants_send, as_row_send) depth 20, (as_row_send history.the_field (search (sendable, history_send) depth 20), tt))))))) in
    view_send _ _ _ _ _ fields
