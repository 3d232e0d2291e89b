use Rattle.std.proofs.Common.{◌≡◌, [], string_bytes, refl, arith, ◌∙◌}
use Rattle.std.proofs.lemmas.Grind.{common_steps}
use Rattle.std.proofs.lemmas.Result.{err_from_is_err_and}
use Rattle.serde_json.specs.View.{view, members_view}
use Rattle.site_hooks.specs.Table.{table_page}
use Rattle.site_line.specs.Site.{pages_among, pages_in}
use Rattle.site_line.proofs.PagesAdded.{page_missed, page_next}
use Rattle.site_line.proofs.reading.read_pages.Goals as goal

pub loop-address-init : goal.loop-address-init
loop-address-init c = record { pages = λ address. rw (c.requires address) refl; watched = refl }

pub returns-in_err-page-clause-fails : goal.returns-in_err-page-clause-fails
returns-in_err-page-clause-fails c =
    let all = pages_among (members_view c.into_iter-address-iterator.result) in
    let whole : pages_in (view c.args.value.now) ≡ all = grind (arith, common_steps) in
    let p = err_from_is_err_and c.from_residual-in_err-page.result c.from_residual-in_err-page.ensures.1 in
    rw (p.1, p.2, whole)
    (page_missed c.in_err-page.field-0.0 (string_bytes c.in-Some-2.address.now) (view c.in-Some-2.page.now) (table_page c.loop-address.table []) (members_view c.next.new.self) all
    c.in_err-page.ensures (rw c.in-Some-2.ensures.steps at (c.loop-address.invariant.pages [])))

pub loop-address-preserved : goal.loop-address-preserved
loop-address-preserved c = record {
  pages = λ address.
      page_next address (string_bytes c.in-Some-2.address.now) (view c.in-Some-2.page.now) c.in_ok-page.page (table_page c.loop-address.table address)
      (table_page c.add_page.new.self address) (members_view c.next.new.self) _ c.in_ok-page.ensures
      (rw (c.in_ok-from_str.ensures ∙ c.as_str.ensures.value) at (c.in_ok-add_page.ensures.ok address))
      (rw c.in-Some-2.ensures.steps at (c.loop-address.invariant.pages address));
  watched = c.in_ok-add_page.ensures.watched ∙ c.loop-address.invariant.watched;
}
