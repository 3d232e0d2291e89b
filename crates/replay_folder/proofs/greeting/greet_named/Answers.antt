use Rattle.std.proofs.Common.{refl, sym, subst}
use Rattle.byte_streams.specs.Reading.{WasRead}
use Rattle.replay_folder.specs.Ends.{unopened, IsEndOf}
use Rattle.replay_folder.proofs.greeting.greet_named.Goals as goal

pub returns-in-Unlisted : goal.returns-in-Unlisted
returns-in-Unlisted g c =
    (unopened, refl, refl, refl, subst (λ named. IsEndOf (g.O.OpensUploads.opened c.args.opener.now) (WasRead g.F.Source.answers g.F.Read.remaining) named unopened) (sym c.in-Unlisted.is) tt)
