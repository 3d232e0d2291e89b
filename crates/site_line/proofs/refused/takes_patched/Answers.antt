use Rattle.site_line.proofs.TakenLaws.{given_taken}
use Rattle.site_line.proofs.refused.takes_patched.Goals as goal

pub returns : goal.returns
returns c = given_taken (λ texts. texts.items) c.read_patched.result _ c.is_taken.result c.read_patched.ensures c.is_taken.ensures
