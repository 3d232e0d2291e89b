-- How far requests were told: which one is told now, and which are still to be told.
use Rattle.std.specs.Prelude.{ℕ, ◌+◌, ◌-◌, List, length, Option, Some, None, option_and_then}
use Rattle.visit_replay.specs.Requests.{load_request}
use Rattle.visit_replay.specs.inside.Boards.{IsOn, IsBefore}
use Rattle.visit_replay.specs.inside.Deeds.{requests_on}
use Rattle.visit_replay.specs.inside.Trails.{asked_at, asked_from}
use Rattle.visit_replay.specs.declared.board.Board.{Board}
use Rattle.visit_replay.specs.declared.requests.Request.{Request}
use Rattle.visit_replay.specs.declared.stage.Stage.{Stage}
use Rattle.visit_replay.specs.declared.stage.Stage.TheVariants.{Before, AtLoad, AtDeed}
use Rattle.visit_replay.specs.declared.trail.Trail.{Trail}

-- of a trail
abbrev pub stage_told : Trail → Stage → Option Request × List Request
stage_told trail Before = (None, requests_on trail.address trail.page trail.deeds.items)
stage_told trail AtLoad = (Some (load_request trail.address), asked_from trail 0)
stage_told trail (AtDeed place) = (asked_at trail place, asked_from trail (place + 1))

abbrev pub IsBoardAt : Trail → Stage → Board → Type 0
IsBoardAt trail (AtDeed place) board = IsBefore trail place board
IsBoardAt trail other board = IsOn trail.page trail.deeds.items board

-- of the last deed of a trail
abbrev pub last_asked : Trail → Option Request
last_asked trail = asked_at trail (length trail.deeds.items - 1)

-- of marked deeds of a visit's own trail
abbrev pub told_marked : Option Trail → Option ℕ → Option Request
told_marked own mark = option_and_then (λ trail. option_and_then (asked_at trail) mark) own
