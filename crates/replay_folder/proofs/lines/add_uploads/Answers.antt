use Rattle.std.proofs.Common.{drop, sym, ap, rules}
use Rattle.std.proofs.lemmas.List.{drop_all}
use Rattle.warp_run.proofs.BufferLaws.{adds_as, adds_nothing, ◌>>◌}
use Rattle.replay_folder.specs.FolderReport.{upload_lines}
use Rattle.replay_folder.proofs.LinesLaws.{lines_here}
use Rattle.replay_folder.proofs.lines.add_uploads.Goals as goal

pub loop-k-preserved : goal.loop-k-preserved
loop-k-preserved g c w b put =
    c.loop-k.invariant w b
    (adds_as (c.add_upload.ensures >> put)
    (sym (lines_here c.args.named.now c.args.ends.now c.loop-k.k c.index-named-k.result c.index-ends-k.result (search rules) (search rules) c.index-named-k.is c.index-ends-k.is)))

pub returns : goal.returns
returns g c =
    c.loop-k.invariant c.loop-k.writer c.loop-k.buffer
    (adds_as (adds_nothing g.W.Sink.puts g.W.Write.contents c.loop-k.writer c.loop-k.buffer)
    (ap (λ left. upload_lines left (drop c.loop-k.k c.args.ends.now)) (sym (drop_all c.loop-k.k c.args.named.now (search rules)))))
