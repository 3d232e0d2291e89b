use Rattle.made_html.proofs.Made.{made_visit_pages}
use Rattle.made_html.proofs.html.Html.add_visit_pages.Goals as goal

pub invariant_of-self : goal.invariant_of-self
invariant_of-self c = made_visit_pages _ _ _ _ c.self.invariant c.as_slice.ensures.made c.as_slice-2.ensures.made c.in-Ok.ensures
