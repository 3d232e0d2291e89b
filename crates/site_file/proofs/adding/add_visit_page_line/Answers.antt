use Rattle.std.proofs.Common.{refl}
use Rattle.site_file.specs.Addition.{of_visit}
use Rattle.site_file.proofs.adding.add_visit_page_line.Goals as goal

pub returns : goal.returns
returns c = (of_visit c.in_ok-client.client c.in_ok-visit.visit c.in_ok-page.page, rw (c.in_ok-client.ensures, c.in_ok-visit.ensures, c.in_ok-page.ensures) refl, c.in_ok-add_own_page.ensures)
