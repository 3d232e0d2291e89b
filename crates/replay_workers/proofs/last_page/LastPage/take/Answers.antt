use Rattle.std.proofs.Common.{Some, sym, ap, ◌∙◌}
use Rattle.replay_workers.proofs.last_page.LastPage.take.Goals as goal

pub returns-clause-there : goal.returns-clause-there
returns-clause-there c = λ page_of pages last. (
  c.in-Some-at.ensures.page page_of pages ∙ ap (λ p. Some p.0) (sym c.in_ok-page.ensures),
  sym (ap (λ p. Some p.1) c.in_ok-page.ensures ∙ c.in-Some-names.ensures),
)
