use Rattle.warp_server.proofs.ServeLaws.{hello_fails}
use Rattle.warp_server.proofs.program.greeting.accept_uploads.Goals as goal

pub returns-in-Err-clause-refused : goal.returns-in-Err-clause-refused
returns-in-Err-clause-refused g c =
    rw c.no_hello.ensures
    (hello_fails _ _ _ _ c.in-Err.fault
    (λ known. (c.in_ok-readers.readers.items, c.in_ok-readers.ensures.count, c.in-Err.ensures.refused known, c.in_ok-readers.ensures.brought)))
