use Rattle.std.proofs.Common.{◌≡◌, ◌<◌, [], ◌∷◌, ◌++◌, length, take, drop, Some, ap, subst, ◌∙◌, rules, arith}
use Rattle.std.specs.Io.KnownBytes.{Consumes, IsAtEnd}
use Rattle.std.proofs.lemmas.Grind.{common_steps}
use Rattle.file_source.specs.Source.{ReadFile, unread_of}
use Rattle.file_source.proofs.Further.{read_more, read_consumes, read_ends}
use Rattle.file_source.proofs.source.FileSourceRead.read.Goals as goal

pub invariant_of-self : goal.invariant_of-self
invariant_of-self g c =
    let inside = c.self.inside in
    let buf = c.read_on.new.buf in
    let told : c.moved.new.self.answers ≡ inside.history.answers ++ Some (take c.in-Ok.count buf) ∷ [] =
    first_of (grind (arith, common_steps), search rules) in
    rw told (read_more g.F.GrowingFile.seen g.F.GrowingFile.lost inside.file c.read_on.new.file inside.history.answers inside.at
    inside.last c.self.invariant c.read_on.ensures.seen c.read_on.ensures.lost buf c.in-Ok.count c.in-Ok.ensures.bound
    c.in-Ok.ensures.bytes c.in-Ok.ensures.end c.ended_as-self-inside.result c.ended_as-self-inside.ensures)

pub returns-in-Ok-clause-bytes : goal.returns-in-Ok-clause-bytes
returns-in-Ok-clause-bytes g c =
    let seen = g.F.GrowingFile.seen in
    let lost = g.F.GrowingFile.lost in
    let inside = c.self.inside in
    let buf = c.read_on.new.buf in
    let count = c.in-Ok.count in
    let told : c.moved.new.self.answers ≡ inside.history.answers ++ Some (take count buf) ∷ [] =
    first_of (grind (arith, common_steps), search rules) in
    let old : ReadFile g.row.F.Denot = record { file = inside.file; answers = inside.history.answers } in
    let new : ReadFile g.row.F.Denot = record { file = c.read_on.new.file; answers = c.moved.new.self.answers } in
    subst (λ (s : ReadFile g.row.F.Denot). Consumes (unread_of seen lost s) (unread_of seen lost new) (take count buf)
    × (count ≡ 0 → 0 < length buf → IsAtEnd (unread_of seen lost new))) c.self.view_is (
      read_consumes seen lost old new buf count c.read_on.ensures.seen c.read_on.ensures.lost told c.in-Ok.ensures.bound
          (λ sound. c.in-Ok.ensures.bytes sound ∙ ap (λ p. take count (drop p (seen inside.file))) c.self.invariant.place_is),
      λ none room. read_ends seen lost old new buf count c.read_on.ensures.seen c.read_on.ensures.lost told c.in-Ok.ensures.bound
          (omega (arith, c.in-Ok.ensures.end none, c.self.invariant.place_is)),
    )
