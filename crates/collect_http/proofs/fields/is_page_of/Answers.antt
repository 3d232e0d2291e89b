use Rattle.std.proofs.Common.{◌≡◌, ◌++◌, bytes_eq, Some, None, sym, ◌∙◌}
use Rattle.collect_http.proofs.Texts.{page_is}
use Rattle.collect_http.proofs.fields.is_page_of.Goals as goal

pub returns-in-Some : goal.returns-in-Some
returns-in-Some c =
    let is : bytes_eq c.args.page.now (c.args.scheme.now ++ c.args.host.now) ≡ bytes_eq c.in-Some.rest.now c.args.host.now =
    page_is c.args.scheme.now c.args.host.now c.args.page.now (Some c.in-Some.rest.now) c.in-Some.ensures in
    c.eq.ensures ∙ sym is

pub returns-in-None : goal.returns-in-None
returns-in-None c = sym (page_is c.args.scheme.now c.args.host.now c.args.page.now None c.in-None.ensures)
