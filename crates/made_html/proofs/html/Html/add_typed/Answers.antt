use Rattle.made_html.proofs.Made.{made_typed}
use Rattle.made_html.proofs.html.Html.add_typed.Goals as goal

pub invariant_of-self : goal.invariant_of-self
invariant_of-self c = made_typed _ _ _ c.self.invariant c.as_slice.ensures.made c.in-Ok.ensures
