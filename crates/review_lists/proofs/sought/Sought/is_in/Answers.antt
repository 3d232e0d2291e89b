use Rattle.std.proofs.Common.{ℕ, List, IsTrue, ◌↔◌, subst}
use Rattle.review_lists.proofs.InText.{StandsIn, decides_part}
use Rattle.review_lists.proofs.sought.Sought.is_in.Goals as goal

pub returns : goal.returns
returns c =
    let sought = c.args.self.now in
    let told = subst (λ (text : List ℕ). IsTrue c.has_part.result ↔ StandsIn sought.part text) c.as_bytes.ensures.value c.has_part.ensures in
    decides_part sought.text.now c.args.text.now c.has_part.result
    (subst (λ (part : List ℕ). IsTrue c.has_part.result ↔ StandsIn part c.args.text.now) sought.is_part told)
