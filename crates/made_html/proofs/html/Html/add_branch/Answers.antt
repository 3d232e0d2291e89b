use Rattle.made_html.proofs.Made.{made_branch}
use Rattle.made_html.proofs.html.Html.add_branch.Goals as goal

pub invariant_of-self : goal.invariant_of-self
invariant_of-self c = made_branch _ _ _ _ _ _ _ _ _ _ c.self.invariant c.as_slice.ensures.made c.as_slice-2.ensures.made c.in-Ok.ensures
