use Rattle.std.proofs.Common.{refl}
use Rattle.std.proofs.lemmas.Result.{on_ok_weaker}
use Rattle.site_file.proofs.GrownLaws.{watched_added}
use Rattle.site_file.proofs.growing.Growing.add_watched.Goals as goal

pub returns : goal.returns
returns c = on_ok_weaker c.watch_all.result (λ longer site adds stands. watched_added c.args.self.now site adds stands _ c.args.paths.items longer c.watch_all.ensures.pages refl refl refl refl refl refl) c.watch_all.ensures.watched
