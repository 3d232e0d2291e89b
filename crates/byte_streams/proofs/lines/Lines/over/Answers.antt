use Rattle.std.proofs.Common.{refl}
use Rattle.byte_streams.proofs.ReadLaws.{none_made}
use Rattle.byte_streams.proofs.ReadingLaws.{was_none}
use Rattle.byte_streams.proofs.lines.Lines.over.Goals as goal

pub invariant_of-result : goal.invariant_of-result
invariant_of-result g c = rw (c.new-2.ensures, c.new.ensures.kept, c.of.ensures) (c.in_ok-chunk.ensures.len, none_made, refl, was_none g.R.Source.answers g.R.Read.remaining c.args.reader, refl)
