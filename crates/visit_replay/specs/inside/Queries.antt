-- Two addresses that are compared but for the values of fresh names, pair by pair.
use Rattle.std.specs.Prelude.{ℕ, ◌≡◌, ◌≢◌, ◌<◌, ◌+◌, ◌==◌, List, [], ◌∷◌, ◌++◌, All, length, Bool, true, false, not, Option, option_map}
use Rattle.std.specs.List.{list_all}
use Rattle.std.specs.Option.{option_map_or}
use Rattle.std.specs.Str.{bytes_eq}
use Rattle.page_looks.specs.Sending.{kept_pairs, query_text}
use Rattle.visit_replay.specs.declared.fresh_queries.Queries.{Queries}
use Rattle.visit_replay.specs.declared.fresh_queries.Compared.{Compared}
use Rattle.visit_replay.specs.declared.fresh_queries.Compared.TheVariants.{Alike, Apart, Left}

-- an address that has no fragment, before and behind its first `?`
pub record IsQueryOf (address start query : List ℕ) : Type 0 where
  pub cut : address ≡ start ++ 63 ∷ query
  pub first : All (λ b. b ≢ 63) start
  pub whole : list_all (λ c. not (c == 35)) address ≡ true

-- the pairs that count of a query, if there is one
abbrev pub kept_in : List (List ℕ) → Option (List ℕ) → List (List ℕ)
kept_in fresh left = option_map_or (kept_pairs fresh) left []

-- whether the same counts of both
abbrev pub are_one : List (List ℕ) → Queries → Bool
are_one fresh left = bytes_eq (query_text (kept_in fresh (option_map (λ q. q.now) left.was)))
    (query_text (kept_in fresh (option_map (λ q. q.now) left.is)))

-- how much is left
abbrev pub how_long : Option (List ℕ) → ℕ
how_long left = option_map_or (λ query. 1 + length query) left 0

abbrev pub how_much : Queries → ℕ
how_much left = how_long (option_map (λ q. q.now) left.was) + how_long (option_map (λ q. q.now) left.is)

-- so it is, or is not, or it is as it is of what is left
abbrev pub TellsFirst : List (List ℕ) → Queries → Compared → Type 0
TellsFirst fresh left Alike = are_one fresh left ≡ true
TellsFirst fresh left Apart = are_one fresh left ≡ false
TellsFirst fresh left (Left further) = (are_one fresh further ≡ are_one fresh left) × (how_much further < how_much left)
