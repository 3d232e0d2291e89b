use denote.Param.Send.{IsSend}
use Rattle.byte_streams.specs.contracts.history.History.{the_row}
use Rattle.byte_streams.proofs.Sent.{history_send}

pub send : IsSend the_row
send = history_send
