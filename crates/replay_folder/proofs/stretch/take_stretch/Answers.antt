use Rattle.std.proofs.Common.{ℕ, ◌++◌, take, sym, subst, ◌∙◌}
use Rattle.byte_streams.specs.Reading.{WasRead}
use Rattle.replay_folder.specs.inside.{IsTaking}
use Rattle.replay_folder.proofs.stretch.take_stretch.Goals as goal

pub returns-clause-taken : goal.returns-clause-taken
returns-clause-taken g c = λ before taking.
    let was_read = WasRead g.F.Source.answers g.F.Read.remaining in let opened = g.O.OpensUploads.opened c.args.opener.now in
    let names = c.args.names.now in
    subst (λ (n : ℕ). IsTaking was_read opened c.args.quota (before ++ take n names) c.in_ok-tell_files.field-0) (sym (c.len-count.ensures ∙ c.in_ok-files.files.ok.0))
    (c.in_ok-tell_files.ensures.told c.args.opener.now c.args.quota before names c.in_ok-files.ensures.files taking)
