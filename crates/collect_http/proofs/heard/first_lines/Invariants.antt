use Rattle.collect_http.proofs.HeardLaws.{IsCutOff}
use Rattle.collect_http.proofs.heard.first_lines.Given as goal

abbrev pub invariant-loop : goal.invariant-loop
invariant-loop l = IsCutOff l.bytes l.rest l.counter
