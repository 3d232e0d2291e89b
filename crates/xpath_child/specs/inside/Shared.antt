-- What is kept of a path's text.
use Rattle.std.specs.Prelude.{ℕ, List}
use Rattle.xpath_child.specs.declared.shared_text.Kept.{Kept}
use Rattle.xpath_child.specs.declared.shared_text.Kept.TheVariants.{Short, Long}

abbrev pub kept_bytes : Kept → List ℕ
kept_bytes (Short text) = text.bytes
kept_bytes (Long text) = text
