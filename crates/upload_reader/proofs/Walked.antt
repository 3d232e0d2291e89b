-- One member more of a walk over the members of a line.
use Rattle.std.proofs.Common.{◌≡◌, ℕ, List, [], ◌∷◌, map, Bool, true, false, cond, Option, Some, None, refl, sym, ◌∙◌, ap, bytes_eq}
use Rattle.std.specs.List.{AllByRecursion}
use Rattle.std.proofs.lemmas.Bool.{false_from_ne_true}
use Rattle.std.proofs.lemmas.Slice.Eq.{bytes_eq-Decides}
use Rattle.serde_json.specs.Data.{Data, null, boolean, number, string, array, object, Members, no_members, put}
use Rattle.serde_json.specs.Find.{get, as_object}
use Rattle.serde_json.proofs.Views.{get_member-put, get_member-put_other}
use Rattle.upload_reader.specs.inside.Walked.{with_member, AreLastMembers}
use Rattle.upload_reader.specs.declared.last_members.LastMembers.{LastMembers}

-- nothing but an object has members
pub object_is : (d : Data) (ms : Members) → Some ms ≡ as_object d → d ≡ object ms
object_is null ms h = cc
object_is (boolean b) ms h = cc
object_is (number n) ms h = cc
object_is (string s) ms h = cc
object_is (array ds) ms h = cc
object_is (object ns) ms h = cc

pub none_last : (d : Data) (last : LastMembers) → None ≡ as_object d → AreLastMembers (object no_members) last → AreLastMembers d last
none_last null last h are = are
none_last (boolean b) last h are = are
none_last (number n) last h are = are
none_last (string s) last h are = are
none_last (array ds) last h are = are
none_last (object ms) last h are = cc

-- a member of no such name changes nothing
pub none_named : (name : List ℕ) (d : Data) (found : List (List ℕ × Option Data)) → AllByRecursion (λ f. name ≡ f.0 → ⊥) found → found ≡ map (with_member name d) found
none_named name d [] other = refl
none_named name d (f ∷ found) other =
    let differs : bytes_eq f.0 name ≡ false = false_from_ne_true _ (λ same. other.0 (sym ((bytes_eq-Decides f.0 name).0 same))) in
    ap (λ b. (f.0, cond b (Some d) f.1) ∷ found) (sym differs) ∙ ap (λ later. with_member name d f ∷ later) (none_named name d found other.1)

module _ (name : List ℕ) (d : Data) (before : Members) where
  found_as : (key : List ℕ) (kept : Option Data) (b : Bool) → bytes_eq key name ≡ b → kept ≡ get key (object before) → cond b (Some d) kept ≡ get key (object (put name d before))
  found_as key kept true same is =
      let named = (bytes_eq-Decides key name).0 same in
      rw named (sym (get_member-put name d before))
  found_as key kept false differs is = is ∙ sym (get_member-put_other key name d before (λ same. let yes = (bytes_eq-Decides key name).1 same in cc))

  -- the last of its name is found
  pub put_found : (found : List (List ℕ × Option Data)) → AllByRecursion (λ f. f.1 ≡ get f.0 (object before)) found → AllByRecursion (λ f. f.1 ≡ get f.0 (object (put name d before))) (map (with_member name d) found)
  put_found [] are = tt
  put_found (f ∷ found) are = (found_as f.0 f.1 _ refl are.0, put_found found are.1)
