use Rattle.std.proofs.Common.{ap, ◌∙◌}
use Rattle.std.proofs.lemmas.Bool.Decides.{Decides-eqb}
use Rattle.std.proofs.lemmas.Slice.Eq.{strip_prefix_is}
use Rattle.visit_replay.specs.inside.FieldsNow.{left_behind}
use Rattle.visit_replay.proofs.LeftBehind.{stripped}
use Rattle.visit_replay.proofs.comparing.behind.Goals as goal

pub returns : goal.returns
returns c =
    let front = c.as_bytes.result.now in
    stripped front c.args.text.now c.strip_prefix.result (strip_prefix_is Decides-eqb c.args.text.now front c.strip_prefix.result c.strip_prefix.ensures.cases)
    ∙ ap (λ bytes. left_behind bytes c.args.text.now) c.as_bytes.ensures.value
