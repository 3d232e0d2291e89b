use Rattle.std.proofs.Common.{refl, ap, subst, sym, ◌∙◌}
use Rattle.byte_streams.specs.Reading.{WasRead}
use Rattle.upload_reader.specs.Upload.{Begins, Refuses}
use Rattle.warp_run.specs.Run.{fresh_lines}
use Rattle.replay_folder.proofs.greeting.greet_source.Goals as goal

pub returns-in-Ok : goal.returns-in-Ok
returns-in-Ok g c =
    let begins = c.in-Ok.ensures.begins in
    let first = begins.reads.first ∙ ap (λ lines. lines.first) c.in_ok-lines.ensures in
    (first, subst (λ lines. Begins lines c.in-Ok.upload) (c.in_ok-lines.ensures ∙ ap fresh_lines (sym first)) begins)

pub returns : goal.returns
returns g c =
    let refused = c.in-Err.refused in let back = c.into_reader-file in let why = c.in-Err.ensures.refused in (
      refused.fault,
      refl,
      record {
        read = refused.lines;
        refuses = subst (λ lines. Refuses lines refused.lines refused.fault) c.in_ok-lines.ensures why;
        not_memory = c.in_default.not-NoMemory;
        now = back.result;
        is_read = (
          subst (λ first. WasRead g.F.Source.answers g.F.Read.remaining first back.result refused.lines.answers) (why.reads.first ∙ ap (λ lines. lines.first) c.in_ok-lines.ensures) back.ensures.read,
          back.ensures.ends,
        );
      },
    )
