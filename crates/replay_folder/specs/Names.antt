-- Which uploads the words of a call name: this project's own rule.
use Rattle.std.specs.Prelude.{◌≡◌, ◌≢◌, ℕ, List, [], ◌∷◌, ◌++◌, map, filter, Bool, nat_eq, if◌then◌else◌, Option, Some, None, Result, Ok, Err, codes}
use Rattle.std.specs.List.{ends_with}
use Rattle.std.specs.List.Sorted.{IsSorted, IsPermutation}
use Rattle.std.specs.Cmp.Lexicographic.{slice_cmp}
use Rattle.std.specs.Ordering.{nat_cmp}
use Rattle.std.specs.IoError.{error_kind}
use Rattle.std.specs.declared.io.Error.{Error}
use Rattle.std.specs.declared.io.ErrorKind.TheVariants as kinds
use Rattle.replay_folder.specs.declared.names.Named.{Named}
use Rattle.replay_folder.specs.declared.names.Named.TheVariants.{File, Unlisted}

-- as the report names it
abbrev pub named_name : Named → List ℕ
named_name (File name) = name
named_name (Unlisted word) = word

-- ---- the uploads of a folder

abbrev pub is_upload_name : List ℕ → Bool
is_upload_name name = ends_with nat_eq name (codes ".jsonl")

-- with a slash behind it, where it doesn't end with one
abbrev pub folder_front : List ℕ → List ℕ
folder_front folder = if ends_with nat_eq folder (codes "/") then folder else folder ++ codes "/"

abbrev pub in_folder : List ℕ → List ℕ → List ℕ
in_folder folder name = folder_front folder ++ name

-- those of its names that are an upload's, in the order of their bytes
pub record AreOfFolder (folder : List ℕ) (names : List (List ℕ)) (all : List Named) : Type 0 where
  pub chosen : List (List ℕ)
  pub same : IsPermutation (filter is_upload_name names) chosen
  pub sorted : IsSorted (slice_cmp nat_cmp) chosen
  pub are : all ≡ map (λ name. File (in_folder folder name)) chosen

-- ---- the words

-- what a word names of which that was answered: that it is a folder with these names, or none, or that it can't be
-- told, and not for want of memory
abbrev pub IsNamedBy : List ℕ → Result (Option (List (List ℕ))) Error → List Named → Type 0
IsNamedBy word (Ok None) all = all ≡ File word ∷ []
IsNamedBy word (Ok (Some names)) all = AreOfFolder word names all
IsNamedBy word (Err error) all = (error_kind error ≢ kinds.OutOfMemory) × (all ≡ Unlisted word ∷ [])

-- `listed` says what was answered of a word; all words in their order
module _ (listed : List ℕ → Result (Option (List (List ℕ))) Error → Type 0) where
  abbrev pub NamesWord : List ℕ → List Named → Type 0
  NamesWord word all = (answer : Result (Option (List (List ℕ))) Error) × listed word answer × IsNamedBy word answer all

  abbrev pub NamesAll : List (List ℕ) → List Named → Type 0
  NamesAll [] all = all ≡ []
  NamesAll (word ∷ words) all =
      (own rest : List Named) × (all ≡ own ++ rest) × NamesWord word own × NamesAll words rest
