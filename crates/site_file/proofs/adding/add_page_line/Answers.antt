use Rattle.std.proofs.Common.{refl, sym, ◌∙◌, subst}
use Rattle.site_file.specs.Addition.{page_line, at_address}
use Rattle.site_file.specs.inside.{AddsToSite}
use Rattle.site_file.proofs.adding.add_page_line.Goals as goal

pub returns : goal.returns
unfolding page_line
returns c =
    let page = c.in_ok-page.page in (
      at_address c.in_ok-address.address.now page,
      rw (c.in_ok-address.ensures, sym c.has.ensures ∙ c.if-has.false, sym c.has-else-has.ensures ∙ c.if-has-2.false, c.in_ok-page.ensures) refl,
      subst (λ address. AddsToSite (at_address address page) c.args.site.now c.add_page.new.self) c.in_ok-from_str.ensures c.in_ok-add_page.ensures,
    )
