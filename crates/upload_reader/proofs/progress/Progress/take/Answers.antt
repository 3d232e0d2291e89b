use Rattle.std.proofs.Common.{refl}
use Rattle.upload_reader.proofs.SaidLaws.{said_own, said_positive}
use Rattle.upload_reader.proofs.progress.Progress.take.Goals as goal

pub take_message-requires : goal.take_message-requires
take_message-requires c = record { priced = said_positive c.args.line.now _ c.in-Ok-Says.message c.requires.text c.in-Ok-Says.ensures c.in-Ok-Says.field-0-is }

pub returns-in-Err-Fault-clause-said : goal.returns-in-Err-Fault-clause-said
returns-in-Err-Fault-clause-said c = let is = rw c.in-Err-Fault.field-0-is at c.in-Err-Fault.ensures in
    rw c.at.ensures (rw is refl, said_own c.args.line.now c.in-Err-Fault.kind is c.args.number)
