use Rattle.std.proofs.Common.{◌≡◌}
use Rattle.std.specs.Str.{bytes_eq}
use Rattle.page_looks.specs.Sending.{kept_pairs, query_text}
use Rattle.visit_replay.specs.inside.Queries.{are_one, how_much}
use Rattle.visit_replay.proofs.fresh_queries.differ_in_pairs.Given as goal

abbrev pub invariant-loop-further : goal.invariant-loop-further
invariant-loop-further l = are_one l.fresh l.left ≡ bytes_eq (query_text (kept_pairs l.fresh l.was)) (query_text (kept_pairs l.fresh l.is))

abbrev pub decreases-loop-further : goal.decreases-loop-further
decreases-loop-further l = how_much l.left
