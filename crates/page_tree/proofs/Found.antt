-- Attributes that were found, in front of those that are still to come.
use Rattle.std.proofs.Common.{◌≡◌, ℕ, List, [], ◌∷◌, ◌++◌, Option, Some, None, option_map, String, Global, string_bytes, refl, sym, ◌∙◌, ap, append_assoc, append-nil}
use Rattle.serde_json.specs.Data.{Data, Members, member}
use Rattle.serde_json.specs.Find.{as_str}
use Rattle.page_tree.specs.Tree.{Attribute}
use Rattle.page_tree.specs.Value.{texts_of}
use Rattle.page_tree.proofs.Ascending.{Entry}
use Rattle.serde_json.specs.View.{view, members_view}
use Rattle.serde_json.specs.declared.value.Value.{Value}

one_more : (done : List Attribute) (next : Attribute) (rest : Option (List Attribute))
    → option_map (λ r. (done ++ next ∷ []) ++ r) rest ≡ option_map (λ r. done ++ r) (option_map (λ r. next ∷ r) rest)
one_more done next None = refl
one_more done next (Some r) = ap Some (append_assoc done (next ∷ []) r)

pub texts_step : (done : List Attribute) (name text : List ℕ) (d : Data) (ms : Members) → as_str d ≡ Some text
    → option_map (λ rest. (done ++ (name, text) ∷ []) ++ rest) (texts_of ms) ≡ option_map (λ rest. done ++ rest) (texts_of (member name d ms))
texts_step done name text d ms is = rw is (one_more done (name, text) (texts_of ms))

-- one more attribute was read of the entries
pub texts_next : (found found' : List Attribute) (pair : Attribute) (name : String Global) (value : Value) (entries rest : List Entry) (whole : Option (List Attribute))
    → found' ≡ found ++ pair ∷ [] → pair.0 ≡ string_bytes name → as_str (view value) ≡ Some pair.1 → entries ≡ (name, value) ∷ rest
    → option_map (λ r. found ++ r) (texts_of (members_view entries)) ≡ whole → option_map (λ r. found' ++ r) (texts_of (members_view rest)) ≡ whole
texts_next found found' pair name value entries rest whole more named read are before =
    let whole_pair : pair ≡ (string_bytes name, pair.1) = ap {B = Attribute} (λ n. (n, pair.1)) named in
    rw (more, whole_pair) (texts_step found (string_bytes name) pair.1 (view value) (members_view rest) read ∙ rw are at before)

-- no entry is left
pub texts_whole : (found : List Attribute) (entries : List Entry) (whole : Option (List Attribute)) → entries ≡ [] → option_map (λ r. found ++ r) (texts_of (members_view entries)) ≡ whole → whole ≡ Some found
texts_whole found entries whole are before = sym (rw are at before) ∙ rw append-nil refl
