use Rattle.std.proofs.Common.{refl}
use Rattle.site_file.specs.Addition.{watch_line, more_watched}
use Rattle.site_file.proofs.adding.add_watch_line.Goals as goal

pub returns : goal.returns
unfolding watch_line
returns c = (more_watched c.in_ok-paths.paths.items, rw (c.in_ok-items_at.ensures, c.in_ok-paths.ensures) refl, c.in_ok-add_watched.ensures)
