use Rattle.std.proofs.Common.{ap, subst, sym, ◌∙◌}
use Rattle.upload_reader.specs.Upload.{Begins, Refuses}
use Rattle.byte_streams.specs.Reading.{WasRead}
use Rattle.warp_run.specs.Run.{fresh_lines}
use Rattle.warp_server.proofs.program.greeting.greet.Goals as goal

pub returns-in-Ok-hello-clause-greeted : goal.returns-in-Ok-hello-clause-greeted
returns-in-Ok-hello-clause-greeted g c =
    let upload = c.in-Ok-hello.upload in let begins = c.in-Ok-hello.ensures.begins in
    subst (λ lines. Begins lines upload) (c.in-Ok.ensures ∙ ap fresh_lines (sym (begins.reads.first ∙ ap (λ l. l.first) c.in-Ok.ensures))) begins

pub returns-in-Ok-hello-clause-source : goal.returns-in-Ok-hello-clause-source
returns-in-Ok-hello-clause-source g c = c.in-Ok-hello.ensures.begins.reads.first ∙ ap (λ l. l.first) c.in-Ok.ensures

pub returns-in-Err-clause-refused : goal.returns-in-Err-clause-refused
returns-in-Err-clause-refused g c not_memory =
    let refused = c.in-Err.refused in let back = c.into_reader-reader in let why = c.in-Err.ensures.refused in record {
      read = refused.lines;
      fault = refused.fault;
      refuses = subst (λ lines. Refuses lines refused.lines refused.fault) c.in-Ok.ensures why;
      not_memory = not_memory;
      now = back.result;
      is_read = (subst (λ first. WasRead g.R.Source.answers g.R.Read.remaining first back.result refused.lines.answers) (why.reads.first ∙ ap (λ l. l.first) c.in-Ok.ensures) back.ensures.read, back.ensures.ends);
    }
