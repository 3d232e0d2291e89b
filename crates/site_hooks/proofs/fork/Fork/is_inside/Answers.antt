use Rattle.std.proofs.lemmas.Str.Pattern.{starts_text}
use Rattle.site_hooks.proofs.fork.Fork.is_inside.Goals as goal

pub returns : goal.returns
returns g c = rw c.as_str.ensures at (starts_text _ _ _ c.starts_with.ensures.cases)
