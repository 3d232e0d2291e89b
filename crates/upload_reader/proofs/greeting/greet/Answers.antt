use Rattle.upload_reader.proofs.GreetingLaws.{begins_by, hello_few, refused_by, refused_cut}
use Rattle.upload_reader.proofs.greeting.greet.Goals as goal

pub returns-in-Err-clause-refused : goal.returns-in-Err-clause-refused
returns-in-Err-clause-refused g c = rw c.without_hello.ensures (refused_cut _ _ _ c.in-Err.fault (rw c.in-Err.is at c.next_text-number.ensures))

pub returns-in-Ok-read_hello-clause-begins : goal.returns-in-Ok-read_hello-clause-begins
returns-in-Ok-read_hello-clause-begins g c = begins_by _ _ _ (rw c.in-Ok.is at c.next_text-number.ensures) c.in-Ok-read_hello.client (rw c.line.ensures at c.in-Ok-read_hello.ensures.ok)

pub returns-in-Ok-read_hello-clause-few : goal.returns-in-Ok-read_hello-clause-few
returns-in-Ok-read_hello-clause-few g c = hello_few _ _ _ (rw c.in-Ok.is at c.next_text-number.ensures)

pub returns-in-Err-read_hello-clause-refused : goal.returns-in-Err-read_hello-clause-refused
returns-in-Err-read_hello-clause-refused g c = refused_by _ _ _ (rw c.in-Ok.is at c.next_text-number.ensures) c.in-Err-read_hello.fault (rw c.line.ensures at c.in-Err-read_hello.ensures.refused)
