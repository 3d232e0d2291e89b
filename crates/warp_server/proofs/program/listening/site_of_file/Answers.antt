use Rattle.byte_streams.specs.Reading.{WasRead}
use Rattle.warp_server.proofs.ListenLaws.{site_read}
use Rattle.warp_server.proofs.program.listening.site_of_file.Goals as goal

pub returns : goal.returns
returns g c =
    let read = c.read_site-site in
    let back = c.into_reader-read in
    site_read (WasRead g.F.Source.answers g.F.Read.remaining) c.args.file back.result c.in-Ok-over.lines read.new.lines read.result c.in-Ok-over.ensures read.ensures.reads back.ensures.read back.ensures.ends
    read.ensures.site read.ensures.refused
