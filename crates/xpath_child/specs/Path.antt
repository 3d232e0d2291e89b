-- Paths and their texts: this project's own part of the location paths of XPath 1.0, in the abbreviated syntax
-- (sections 2 and 2.5).
use Rattle.std.specs.Prelude.{ℕ, ◌^◌, ◌<◌, ◌≤◌, List, [], ◌++◌, length, IsTrue, Option, IfSome, unwrap_or, flat_map, codes, decimal}
use Rattle.std.specs.List.{AllByRecursion}
use Rattle.std.specs.Option.{option_map_or}
use Rattle.page_tree.specs.Name.{is_name}
use Rattle.page_tree.specs.Limits.{max_depth}

-- A step along the child axis (sections 2.1 and 2.2), with at most one predicate, `[n]` (section 2.4). Its node test
-- (section 2.3) is a name, for the elements of that name, or none, for `*`, which is every element.
pub record Step : Type 0 where
  pub test : Option (List ℕ)
  pub index : Option ℕ

-- ---- the grammar: this project's own limits

-- so that an index has 32 bits
abbrev pub max_index_digits : ℕ
max_index_digits = 9

pub record IsStep (step : Step) : Type 0 where
  pub test : IfSome step.test (λ name. IsTrue (is_name name))
  pub index : IfSome step.index (λ n. (1 ≤ n) × (n < 10 ^ max_index_digits))

-- no more steps than a page has levels of elements, since each goes down by one
pub record IsPath (path : List Step) : Type 0 where
  pub some : 1 ≤ length path
  pub few : length path ≤ max_depth
  pub each : AllByRecursion IsStep path

-- ---- the text

abbrev pub index_text : Option ℕ → List ℕ
index_text index = option_map_or (λ n. codes "[" ++ decimal n ++ codes "]") index []

abbrev pub step_text : Step → List ℕ
step_text step = unwrap_or step.test (codes "*") ++ index_text step.index

abbrev pub path_text : List Step → List ℕ
path_text path = flat_map (λ step. codes "/" ++ step_text step) path
