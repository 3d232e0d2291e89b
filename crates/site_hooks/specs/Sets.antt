-- Sets of numbers as words of bits: all words in their order, or those alone that have a number.
use Rattle.std.specs.Prelude.{◌≡◌, ◌⊎◌, ◌↔◌, ◌/◌, ◌%◌, ℕ, List, get_or}
use Rattle.std.specs.Int.{bit_at}
use Rattle.std.specs.List.{Contains}
use Rattle.site_hooks.specs.declared.number_set.Word.{Word}
use Rattle.site_hooks.specs.declared.number_set.NumberSet.{NumberSet}

-- the number is in the set that has these words
unfoldable pub Has : List ℕ → ℕ → Type 0
Has words k = bit_at (get_or words (k / 64) 0) (k % 64) ≡ 1

-- the number is one of the word at that place
abbrev pub IsOfBits : ℕ → ℕ → ℕ → Type 0
IsOfBits index bits k = (index ≡ k / 64) × (bit_at bits (k % 64) ≡ 1)

abbrev pub IsOfWord : ℕ → Word → Type 0
IsOfWord k word = IsOfBits word.index word.bits k

-- it is one of these words
abbrev pub IsOfWords : List Word → ℕ → Type 0
IsOfWords words k = (word : Word) × Contains words word × IsOfWord k word

abbrev pub IsIn : NumberSet → ℕ → Type 0
IsIn set k = IsOfWords set.words.items k

-- the new words have what the old ones have, and each number of the others that passes
abbrev pub AddsSome : (ℕ → Type 0) → List ℕ → List ℕ → List ℕ → Type 0
AddsSome passes others old new = (k : ℕ) → Has new k ↔ (Has old k ⊎ (Has others k × passes k))
