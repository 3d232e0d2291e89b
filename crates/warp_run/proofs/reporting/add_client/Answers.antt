use Rattle.std.proofs.Common.{◌++◌, [], ap}
use Rattle.std.specs.Option.{option_map_or}
use Rattle.warp_run.specs.Report.{client_line, book_text}
use Rattle.warp_run.proofs.BufferLaws.{adds_as, ◌>>◌}
use Rattle.warp_run.proofs.reporting.add_client.Goals as goal

pub returns-in-Some : goal.returns-in-Some
returns-in-Some g c =
    adds_as (c.add_client_line.ensures >> c.add_visits.ensures)
    (ap (λ found. client_line c.args.client.now ++ option_map_or book_text found []) c.in-Some.ensures)
