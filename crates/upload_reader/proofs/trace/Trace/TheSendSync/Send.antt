-- A trace owns nothing.
use denote.RattleType.{RattleType}
use denote.Param.Send.{IsSend, owning_send, sendable}
use Rattle.upload_reader.specs.contracts.trace.Trace.{the_row, the_type}

pub send : (T : RattleType) → IsSend (the_row T)
send T = owning_send (the_type T) (search sendable, tt) (λ d. tt) (λ k x w. tt)
