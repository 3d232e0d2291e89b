use Rattle.std.proofs.Common.{◌≡◌, ◌∷◌, ◌++◌, ℕ, List, [], take, Bor, Option, None, MatchOption, sym, ◌∙◌}
use Rattle.byte_streams.specs.CompleteLines.{complete_lines}
use Rattle.upload_store.proofs.FirstLine.{cut_line, no_cut}
use Rattle.collect_http.proofs.heard.behind_line.Goals as goal

none_given : (result : Option (Bor (List ℕ))) (bytes : List ℕ) → result ≡ None → complete_lines bytes ≡ []
    → MatchOption result (complete_lines bytes ≡ []) (λ more. (line : List ℕ) × (complete_lines bytes ≡ line ∷ complete_lines more.now) × (bytes ≡ line ++ (10 ∷ more.now)))
none_given result bytes is none = rw is none

pub returns-in_err-end : goal.returns-in_err-end
returns-in_err-end c = none_given c.from_residual.result c.args.bytes.now c.from_residual.ensures (no_cut c.args.bytes.now (sym c.line_feed.ensures ∙ c.in_err-end.was))

pub returns : goal.returns
returns c = let (first, all) = cut_line c.args.bytes.now c.in_ok-end.end (sym c.line_feed.ensures ∙ c.in_ok-end.was) in
    (take c.in_ok-end.end c.args.bytes.now, first, all)
