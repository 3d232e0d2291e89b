use Rattle.text_difference.proofs.Cuts.{between_characters}
use Rattle.text_difference.proofs.comparing.cut.Goals as goal

pub split_at-requires : goal.split_at-requires
split_at-requires c = between_characters c.args.text.now c.args.place c.utf8.text c.requires.within c.requires.edge
