use Rattle.std.proofs.Common.{◌≡◌, ℕ, List, Option, Some, None, false, option_map, option_and_then, codes, refl, sym, ◌∙◌, rules}
use Rattle.std.specs.Option.{option_map_or}
use Rattle.std.specs.Str.{bytes_eq, str_to_ascii_lowercase}
use Rattle.page_tree.specs.Tree.{Tree, element, words}
use Rattle.page_tree.specs.Look.{node_at, name_of, value_of, attributes_of}
use Rattle.page_tree.specs.Number.{place_numbered}
use Rattle.visit_replay.specs.Aim.{is_hidden_input}
use Rattle.visit_replay.proofs.hidden_inputs.is_hidden.Goals as goal

by_its_type : (o : Option Tree) (kind : List ℕ) → option_and_then name_of o ≡ Some (codes "input")
    → option_and_then (λ n. value_of (codes "type") (attributes_of n)) o ≡ Some kind
    → option_map_or is_hidden_input o false ≡ bytes_eq (str_to_ascii_lowercase kind) (codes "hidden")
by_its_type None kind named typed = cc
by_its_type (Some (words text)) kind named typed = cc
by_its_type (Some (element own attributes children)) kind named typed =
    let name : own ≡ codes "input" = cc in
    rw (name, typed) refl

pub returns-in-Some : goal.returns-in-Some
returns-in-Some c =
    let page = c.args.page.now in
    let named : option_map (λ n. n.now) c.name_of.result ≡ Some (codes "input") = search rules in
    let test : c.eq_ignore_ascii_case.result ≡ bytes_eq (str_to_ascii_lowercase c.in-Some.kind.now) (codes "hidden") = search rules in
    test
    ∙ sym (by_its_type (node_at (place_numbered c.args.number page) page) c.in-Some.kind.now (sym c.name_of.ensures ∙ named) (sym c.in-Some.ensures))
