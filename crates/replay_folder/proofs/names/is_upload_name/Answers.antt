use Rattle.std.proofs.Common.{codes}
use Rattle.std.proofs.lemmas.Str.Pattern.{ends_text}
use Rattle.replay_folder.proofs.names.is_upload_name.Goals as goal

pub returns : goal.returns
returns c = ends_text c.ends_with.result (codes ".jsonl") c.args.name.now c.ends_with.ensures.cases
