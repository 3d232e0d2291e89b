-- Names of elements: this project's own rule, a part of the names of XML 1.0, section 2.3.
use Rattle.std.specs.Prelude.{ℕ, List, [], ◌∷◌, length, Bool, false, ◌&&◌, ◌||◌, ◌==◌, nat_le}
use Rattle.std.specs.List.{list_all}

-- A path has at most 64 KB with 48 such names, so that its steps stand at places of 16 bits.
abbrev pub max_name_bytes : ℕ
max_name_bytes = 64

-- `[A-Za-z_]`
abbrev pub is_name_start : ℕ → Bool
is_name_start c = (nat_le 65 c && nat_le c 90) || (nat_le 97 c && nat_le c 122) || (c == 95)

-- `[A-Za-z0-9_.-]`
abbrev pub is_name_part : ℕ → Bool
is_name_part c = is_name_start c || (nat_le 48 c && nat_le c 57) || (c == 46) || (c == 45)

-- `[A-Za-z_][A-Za-z0-9_.-]*`, of 1 to 64 bytes
abbrev pub is_name : List ℕ → Bool
is_name [] = false
is_name (c ∷ cs) = nat_le (length (c ∷ cs)) max_name_bytes && is_name_start c && list_all is_name_part cs
