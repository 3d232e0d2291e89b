-- The words of a form, or of a query (URL Standard, section 5), and what they say: this project's own rule.
use Rattle.std.specs.Prelude.{ℕ, List, length, Bool, false, not, ◌&&◌, ◌||◌, ◌==◌, nat_le, bytes_eq, if◌then◌else◌, Option, Some, None, option_map, option_and_then}
use Rattle.std.specs.Char.{is_ascii_digit}
use Rattle.std.specs.List.{list_all, filter_map, slice_get}
use Rattle.std.specs.Option.{option_map_or}
use Rattle.std.specs.Str.Lossy.{utf8_lossy}
use Rattle.std.specs.Str.Parse.{digits_value}
use Rattle.form_urlencoded.specs.Form.{raw_pairs, decode}
use Rattle.upload_reader.specs.Client.{is_client}
use Rattle.upload_reader.specs.Limits.{max_number}

-- ---- words

-- what a name or a value of a form stands for
abbrev pub read_word : List ℕ → List ℕ
read_word written = utf8_lossy (decode written)

-- the value of a pair that has this name
abbrev pub value_named : List ℕ → List ℕ × List ℕ → Option (List ℕ)
value_named name pair = if bytes_eq (read_word pair.0) name then Some (read_word pair.1) else None

-- the value of the first pair that has this name
abbrev pub word_in : List ℕ → List ℕ → Option (List ℕ)
word_in name form = slice_get (filter_map (value_named name) (raw_pairs form)) 0

-- ---- numbers

-- digits alone, and no 0 before others
abbrev pub is_numeral : List ℕ → Bool
is_numeral text = list_all is_ascii_digit text
    && (length text == 1 || option_map_or (λ c. not (c == 48)) (slice_get text 0) false)

-- at most the greatest number that a browser tells from the next, 2^53 - 1
abbrev pub number_said : List ℕ → Option ℕ
number_said text = let n = digits_value 10 text in if is_numeral text && nat_le n max_number then Some n else None

-- ---- what words say

abbrev pub client_word : List ℕ → List ℕ → Option (List ℕ)
client_word name form = option_and_then (λ text. if is_client text then Some text else None) (word_in name form)

-- the number of a visit, from 1 on
abbrev pub visit_written : List ℕ → Option ℕ
visit_written text = option_and_then (λ n. if nat_le 1 n then Some n else None) (number_said text)

abbrev pub visit_word : List ℕ → List ℕ → Option ℕ
visit_word name form = option_and_then visit_written (word_in name form)

-- the same where it may be left out
abbrev pub visit_word_if_any : List ℕ → List ℕ → Option (Option ℕ)
visit_word_if_any name form =
    option_map_or (λ text. option_map Some (visit_written text)) (word_in name form) (Some None)

-- where a list is to begin: at 0 where nothing is said
abbrev pub begin_word : List ℕ → List ℕ → Option ℕ
begin_word name form = option_map_or number_said (word_in name form) (Some 0)
