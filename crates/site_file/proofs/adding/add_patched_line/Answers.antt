use Rattle.std.proofs.Common.{refl}
use Rattle.site_file.specs.Addition.{patched_line, more_patched}
use Rattle.site_file.proofs.adding.add_patched_line.Goals as goal

pub returns : goal.returns
unfolding patched_line
returns c = (more_patched c.in_ok-addresses.addresses.items, rw (c.in_ok-items_at.ensures, c.in_ok-addresses.ensures) refl, c.in_ok-add_patched.ensures)
