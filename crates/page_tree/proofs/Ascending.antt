-- The names of an object's members ascend, since it is kept as an ordered map.
use Rattle.std.proofs.Common.{◌≡◌, ℕ, List, [], ◌∷◌, map, true, Option, Some, None, option_map, option_and_then, codes, String, Global, Less, string_bytes, string_cmp, nat_cmp, refl, sym, ◌∙◌, ap}
use Rattle.std.specs.Cmp.Lexicographic.{slice_cmp}
use Rattle.std.specs.List.Sorted.{IsStrictlySortedBy}
use Rattle.std.specs.Map.{keys_of}
use Rattle.serde_json.specs.Data.{Data}
use Rattle.serde_json.specs.Find.{get, as_str, as_object}
use Rattle.serde_json.specs.View.{view, members_view}
use Rattle.serde_json.specs.declared.value.Value.{Value}
use Rattle.page_tree.specs.Tree.{Attribute}
use Rattle.page_tree.specs.Limits.{names_of, is_ascending}
use Rattle.page_tree.specs.Value.{texts_of, attributes_in}

abbrev pub Entry : Type 0
Entry = String Global × Value

names_of-next : (e : Entry) (es : List Entry) (found : List Attribute) (text : Option (List ℕ)) (rest : Option (List Attribute)) → texts_of (members_view es) ≡ rest
    → option_and_then (λ t. option_map (λ r. (string_bytes e.0, t) ∷ r) rest) text ≡ Some found → ((r : List Attribute) → rest ≡ Some r → names_of r ≡ map string_bytes (keys_of es))
    → names_of found ≡ string_bytes e.0 ∷ map string_bytes (keys_of es)
names_of-next e es found None rest are is later = cc
names_of-next e es found (Some t) None are is later = cc
names_of-next e es found (Some t) (Some r) are is later =
    let same : (string_bytes e.0, t) ∷ r ≡ found = cc in
    sym (ap names_of same) ∙ ap (λ ns. string_bytes e.0 ∷ ns) (later r refl)

names-texts_of : (es : List Entry) (found : List Attribute) → texts_of (members_view es) ≡ Some found → names_of found ≡ map string_bytes (keys_of es)
names-texts_of [] found is =
    let same : [] ≡ found = cc in
    sym (ap names_of same)
names-texts_of (e ∷ es) found is =
    names_of-next e es found (as_str (view e.1)) _ refl is (λ r there. names-texts_of es r there)

ascending-sorted : (ks : List (String Global)) → IsStrictlySortedBy string_cmp ks → is_ascending (map string_bytes ks) ≡ true
unfolding IsStrictlySortedBy
ascending-sorted [] sorted = refl
ascending-sorted (k ∷ []) sorted = refl
ascending-sorted (k ∷ l ∷ ks) sorted =
    let less : slice_cmp nat_cmp (string_bytes k) (string_bytes l) ≡ Less = sorted.0.0 in
    rw less (ascending-sorted (l ∷ ks) sorted.1)

-- what the code has read of an object is what the definition says
pub attributes_read : (d given : Data) (es : List Entry) (found : List Attribute) → Some given ≡ get (codes "a") d → Some (members_view es) ≡ as_object given
    → texts_of (members_view es) ≡ Some found → IsStrictlySortedBy string_cmp (keys_of es) → (attributes_in d ≡ Some found) × (is_ascending (names_of found) ≡ true)
attributes_read d given es found at members texts sorted =
    (rw (← at, ← members, texts) refl, ap is_ascending (names-texts_of es found texts) ∙ ascending-sorted (keys_of es) sorted)
