use Rattle.std.proofs.Common.{◌≡◌, ◌∷◌, ◌++◌, map, rules}
use Rattle.warp_server.proofs.RoundSteps.{any_among}
use Rattle.warp_server.proofs.program.greeting.greet_all.Goals as goal

pub returns-in-Err-clause-refused : goal.returns-in-Err-clause-refused
returns-in-Err-clause-refused g c not_memory =
    let are : c.args.readers.items ≡ map (λ upload. upload.lines.first) c.loop-reader.uploads.items ++ c.in-Some.reader ∷ c.next.new.self.rest.items = search rules in
    rw are (any_among _ (map (λ upload. upload.lines.first) c.loop-reader.uploads.items) c.in-Some.reader c.next.new.self.rest.items (c.in-Err.ensures.refused not_memory))
