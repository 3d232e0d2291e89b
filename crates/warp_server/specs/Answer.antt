-- Why uploads have no answer: this project's own rule.
use Rattle.std.specs.Prelude.{List}
use Rattle.upload_reader.specs.Upload.{UploadState}
use Rattle.lanes_in_turn.specs.Round.{IsRound, IsNoRound}
use Rattle.warp_server.specs.declared.program.answering.AnswerFault.{AnswerFault}
use Rattle.warp_server.specs.declared.program.answering.AnswerFault.TheVariants.{Round, NoMemory}

-- behind the round they made one
abbrev pub IsNoAnswer : {R : Type 0} → List (UploadState R) → AnswerFault → Type 0
IsNoAnswer uploads (Round fault) = IsNoRound uploads fault
IsNoAnswer uploads NoMemory = IsRound uploads
