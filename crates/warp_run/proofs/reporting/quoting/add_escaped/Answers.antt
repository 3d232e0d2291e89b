use Rattle.std.proofs.Common.{◌-◌, length, take, drop, sym}
use Rattle.byte_streams.proofs.TextWriting.{rest_is}
use Rattle.warp_run.proofs.BufferLaws.{adds_as, ◌>>◌}
use Rattle.warp_run.proofs.QuotingLaws.{run_behind, run_last, stop_behind}
use Rattle.warp_run.proofs.reporting.quoting.add_escaped.Goals as goal

pub add_escape-requires : goal.add_escape-requires
add_escape-requires g c = stop_behind c.loop-at.rest.now c.split_at.result.1.now c.in-Some.at (sym c.in-Some.ensures) c.split_at.ensures.back

pub loop-at-preserved : goal.loop-at-preserved
loop-at-preserved g c w b put =
    let (run, behind) = c.split_at.result in
    c.loop-at.invariant w b
    (adds_as (c.add_bytes.ensures >> c.add_escape.ensures >> put)
    (run_behind c.loop-at.rest.now run.now behind.now (take (length behind.now - 1) (drop 1 behind.now)) c.in-Some.at (sym c.in-Some.ensures) c.split_at.ensures.front
    c.split_at.ensures.back (rest_is 1 behind.now)))

pub returns : goal.returns
returns g c = c.loop-at.invariant c.add_bytes-2.new.writer c.add_bytes-2.new.self (adds_as c.add_bytes-2.ensures (sym (run_last c.loop-at.rest.now (sym c.in_default.ensures))))
