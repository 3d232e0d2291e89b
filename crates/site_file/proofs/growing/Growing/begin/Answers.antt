use Rattle.site_file.proofs.GrownLaws.{stands_first}
use Rattle.site_file.proofs.growing.Growing.begin.Goals as goal

pub returns : goal.returns
returns c = λ plain are. stands_first _ plain are c.new-own.ensures
