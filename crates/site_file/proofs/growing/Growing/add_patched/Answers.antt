use Rattle.std.proofs.Common.{refl}
use Rattle.std.proofs.lemmas.Result.{on_ok_weaker}
use Rattle.site_file.proofs.GrownLaws.{patched_added}
use Rattle.site_file.proofs.growing.Growing.add_patched.Goals as goal

pub returns : goal.returns
returns c = on_ok_weaker c.push_all.result (λ longer site adds stands. patched_added c.args.self.now site adds stands _ c.args.addresses.items longer refl refl refl refl refl refl) c.push_all.ensures
