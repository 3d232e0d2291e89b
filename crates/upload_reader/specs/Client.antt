-- The names of clients: this project's own rule.
use Rattle.std.specs.Prelude.{ℕ, List, length, Bool, ◌&&◌, ◌||◌, ◌==◌, nat_le}
use Rattle.std.specs.List.{list_all}
use Rattle.upload_reader.specs.Limits.{max_client_bytes}

-- `[A-Za-z0-9_-]`
abbrev pub is_client_part : ℕ → Bool
is_client_part c = (nat_le 65 c && nat_le c 90) || (nat_le 97 c && nat_le c 122) || (nat_le 48 c && nat_le c 57)
    || (c == 95) || (c == 45)

-- 1 to 64 of these; else `U1`
unfoldable pub is_client : List ℕ → Bool
is_client text = nat_le 1 (length text) && nat_le (length text) max_client_bytes && list_all is_client_part text
