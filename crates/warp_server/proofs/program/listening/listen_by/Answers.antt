use Rattle.std.proofs.Common.{Ok, Err, inl, inr, ap, refl, subst, ◌∙◌}
use Rattle.warp_server.specs.program.Listen.{unopened_status}
use Rattle.warp_server.proofs.program.listening.listen_by.Goals as goal

pub returns-in-Err : goal.returns-in-Err
returns-in-Err g c =
    let opened = subst (λ path. g.O.Opens.opened path (Err c.in-Err.error)) c.as_str.ensures c.in-Err.ensures in
    inl (record { puts_are = refl; contents_are = refl }, inr (inl (c.in-Err.error, opened, c.unopened_status.ensures ∙ ap unopened_status c.kind.ensures)))

pub returns-in-Err-site_of_file : goal.returns-in-Err-site_of_file
returns-in-Err-site_of_file g c =
    let opened = subst (λ path. g.O.Opens.opened path (Ok c.in-Ok.file)) c.as_str.ensures c.in-Ok.ensures in
    elim c.in-Err-site_of_file.ensures [
      | inl memory ↦ inl (record { puts_are = refl; contents_are = refl }, inl memory)
      | inr reads ↦ inl (record { puts_are = refl; contents_are = refl }, inr (inr (inl (c.in-Ok.file, opened, reads))))
    ]

pub returns-in-Err-bind : goal.returns-in-Err-bind
returns-in-Err-bind g c =
    let opened = subst (λ path. g.O.Opens.opened path (Ok c.in-Ok.file)) c.as_str.ensures c.in-Ok.ensures in
    let status = c.unopened_status-in-Err-bind.ensures ∙ ap unopened_status c.kind-in-Err-bind.ensures in
    inl (
      record { puts_are = refl; contents_are = refl },
      inr (inr (inr (c.in-Ok-site_of_file.site, c.in-Err-bind.error, (c.in-Ok.file, opened, c.in-Ok-site_of_file.ensures), (c.local.result, c.local.ensures, c.in-Err-bind.ensures), status))),
    )

pub returns : goal.returns
returns g c =
    let opened = subst (λ path. g.O.Opens.opened path (Ok c.in-Ok.file)) c.as_str.ensures c.in-Ok.ensures in
    inr (c.in-Ok-site_of_file.site, c.in-Ok-bind.callers, c.serve_callers.new.callers, (c.in-Ok.file, opened, c.in-Ok-site_of_file.ensures), (c.local.result, c.local.ensures, c.in-Ok-bind.ensures), c.serve_callers.ensures)
