-- The members of an element that a walk keeps, and its attributes in the order of their names.
use Rattle.std.proofs.Common.{◌≡◌, ℕ, nat_eq, Bool, false, ◌&&◌, arith, List, [], ◌∷◌, ◌++◌, map, true, Option, Some, None, option_map, option_and_then, Bor, Ordering, Less, Equal, Greater, nat_cmp, refl, sym, ◌∙◌, ap, append-nil}
use Rattle.std.specs.Cmp.Lexicographic.{slice_cmp}
use Rattle.std.specs.List.Sorted.{IsStrictlySortedBy}
use Rattle.std.specs.Map.{keys_of}
use Rattle.std.specs.Ordering.{match_ordering, ordering_reverse, is_lt}
use Rattle.std.proofs.lemmas.Cmp.{nat_list_cmp_total}
use Rattle.std.specs.BTreeMap.{insert_entry}
use Rattle.serde_json.specs.Data.{Data, string, object, Members, member, put}
use Rattle.serde_json.specs.Find.{get, as_str}
use Rattle.serde_json.proofs.Views.{get_member-put, get_member-put_other}
use Rattle.json_document.specs.Standing.{NamedData, put_all}
use Rattle.page_tree.specs.Tree.{Attribute}
use Rattle.page_tree.specs.Limits.{names_of, is_ascending, have_ascending_names}
use Rattle.page_tree.specs.Value.{texts_of}
use Rattle.page_tree.specs.Fault.{attribute_members}
use Rattle.page_tree.specs.inside.Walking.{members_kept, attributes_seen, is_name_above}
use Rattle.page_tree.proofs.Faults.{is_string}
use Rattle.page_tree.proofs.ValueLaws.{attributes_stand}
use Rattle.page_tree.proofs.Found.{texts_step}

-- ---- one member more

pub put_here : (name key : List ℕ) (d : Data) (before : Members) → name ≡ key → Some d ≡ get key (object (put name d before))
put_here name key d before is = rw is (sym (get_member-put key d before))

pub put_elsewhere : (name key : List ℕ) (d : Data) (before : Members) (kept : Option Data) → (key ≡ name → ⊥) → kept ≡ get key (object before)
    → kept ≡ get key (object (put name d before))
put_elsewhere name key d before kept other is = is ∙ sym (get_member-put_other key name d before other)

abbrev first : List ℕ → ℕ
first [] = 0
first (x ∷ xs) = x

-- names with other first letters differ
pub unlike : (name key other : List ℕ) → name ≡ other → nat_eq (first key) (first other) ≡ false → key ≡ name → ⊥
unlike name key other is differ same =
    let letters : first key ≡ first other = ap first (same ∙ is) in
    grind (arith, letters, differ)

pub put_next : (behind rest : List NamedData) (name : List ℕ) (d : Data) (done : Members) → behind ≡ (name, d) ∷ rest
    → put_all rest (put name d done) ≡ put_all behind done
put_next behind rest name d done is = ap (λ pairs. put_all pairs done) (sym is)

pub put_end : (behind : List NamedData) (done : Members) → behind ≡ [] → put_all behind done ≡ done
put_end behind done is = ap (λ pairs. put_all pairs done) is

-- ---- members in the order of their names

abbrev by_name : Bor (List ℕ) → Bor (List ℕ) → Ordering
by_name k l = slice_cmp nat_cmp k.now l.now

module _ {T : Type 0} (told : T → Data) where
  kept-match_ordering : (o : Ordering) (a b c : List (Bor (List ℕ) × T))
      → members_kept told (match_ordering o a b c) ≡ match_ordering o (members_kept told a) (members_kept told b) (members_kept told c)
  kept-match_ordering Less a b c = refl
  kept-match_ordering Equal a b c = refl
  kept-match_ordering Greater a b c = refl

  -- to insert into the map is to put among the members
  pub kept-insert_entry : (es : List (Bor (List ℕ) × T)) (k : Bor (List ℕ)) (v : T)
      → members_kept told (insert_entry by_name es k v) ≡ put k.now (told v) (members_kept told es)
  kept-insert_entry [] k v = refl
  kept-insert_entry (e ∷ es) k v = kept-match_ordering (by_name k e.0) _ _ _ ∙ rw (kept-insert_entry es k v) refl

  names-next : (e : Bor (List ℕ) × T) (es : List (Bor (List ℕ) × T)) (found : List Attribute) (text : Option (List ℕ)) (rest : Option (List Attribute))
      → option_and_then (λ t. option_map (λ r. (e.0.now, t) ∷ r) rest) text ≡ Some found
      → ((r : List Attribute) → rest ≡ Some r → names_of r ≡ map (λ k. k.now) (keys_of es)) → names_of found ≡ e.0.now ∷ map (λ k. k.now) (keys_of es)
  names-next e es found None rest is later = cc
  names-next e es found (Some t) None is later = cc
  names-next e es found (Some t) (Some r) is later =
      let same : (e.0.now, t) ∷ r ≡ found = cc in
      sym (ap names_of same) ∙ ap (λ ns. e.0.now ∷ ns) (later r refl)

  names-kept : (es : List (Bor (List ℕ) × T)) (found : List Attribute) → texts_of (members_kept told es) ≡ Some found → names_of found ≡ map (λ k. k.now) (keys_of es)
  names-kept [] found is =
      let same : [] ≡ found = cc in
      sym (ap names_of same)
  names-kept (e ∷ es) found is = names-next e es found (as_str (told e.1)) (texts_of (members_kept told es)) is (λ r there. names-kept es r there)

  ascending-kept : (ks : List (Bor (List ℕ))) → IsStrictlySortedBy by_name ks → is_ascending (map (λ k. k.now) ks) ≡ true
  unfolding IsStrictlySortedBy
  ascending-kept [] sorted = refl
  ascending-kept (k ∷ []) sorted = refl
  ascending-kept (k ∷ l ∷ ks) sorted =
      let less : slice_cmp nat_cmp k.now l.now ≡ Less = sorted.0.0 in
      rw less (ascending-kept (l ∷ ks) sorted.1)

  -- the texts that were read of sorted members
  pub texts_kept : (es : List (Bor (List ℕ) × T)) (found : List Attribute) → texts_of (members_kept told es) ≡ Some found → IsStrictlySortedBy by_name (keys_of es)
      → is_ascending (names_of found) ≡ true
  texts_kept es found is sorted = ap is_ascending (names-kept es found is) ∙ ascending-kept (keys_of es) sorted

  -- one text more was read of the entries
  pub text_next : (found found' : List Attribute) (name : Bor (List ℕ)) (value : T) (text : List ℕ) (entries rest : List (Bor (List ℕ) × T)) (whole : Option (List Attribute))
      → found' ≡ found ++ (name.now, text) ∷ [] → as_str (told value) ≡ Some text → entries ≡ (name, value) ∷ rest
      → option_map (λ r. found ++ r) (texts_of (members_kept told entries)) ≡ whole → option_map (λ r. found' ++ r) (texts_of (members_kept told rest)) ≡ whole
  text_next found found' name value text entries rest whole more read are before =
      rw more (texts_step found name.now text (told value) (members_kept told rest) read ∙ rw are at before)

  -- one of them is no text
  pub no_text : (found : List Attribute) (name : Bor (List ℕ)) (value : T) (entries rest : List (Bor (List ℕ) × T)) (whole : Option (List Attribute))
      → as_str (told value) ≡ None → entries ≡ (name, value) ∷ rest → option_map (λ r. found ++ r) (texts_of (members_kept told entries)) ≡ whole → whole ≡ None
  no_text found name value entries rest whole none are before = sym before ∙ rw (are, none) refl

  -- no entry is left
  pub texts_done : (found : List Attribute) (entries : List (Bor (List ℕ) × T)) (whole : Option (List Attribute)) → entries ≡ []
      → option_map (λ r. found ++ r) (texts_of (members_kept told entries)) ≡ whole → whole ≡ Some found
  texts_done found entries whole are before = sym (rw are at before) ∙ rw append-nil refl

pub pair_seen : (pairs : List (Bor (List ℕ) × Bor (List ℕ))) (pair : Bor (List ℕ) × Bor (List ℕ))
    → attributes_seen (pairs ++ pair ∷ []) ≡ attributes_seen pairs ++ (pair.0.now, pair.1.now) ∷ []
pair_seen [] pair = refl
pair_seen (first ∷ pairs) pair = ap (λ rest. (first.0.now, first.1.now) ∷ rest) (pair_seen pairs pair)

-- ---- members that stand in the order of their names as it is

abbrev pub last_name : List Attribute → Option (List ℕ)
last_name [] = None
last_name (a ∷ []) = Some a.0
last_name (a ∷ b ∷ rest) = last_name (b ∷ rest)

both : (a b : Bool) → (a && b) ≡ true → (a ≡ true) × (b ≡ true)
both true b is = (refl, is)
both false b is = cc

less_of : (o : Ordering) → is_lt o ≡ true → o ≡ Less
less_of Less is = refl
less_of Equal is = cc
less_of Greater is = cc

-- a name above the last one is above the first one
first_below : (a : Attribute) (rest : List Attribute) (name : List ℕ) → have_ascending_names (a ∷ rest) ≡ true → is_name_above name (last_name (a ∷ rest)) ≡ true
    → slice_cmp nat_cmp a.0 name ≡ Less
first_below a [] name ascend above = less_of (slice_cmp nat_cmp a.0 name) above
first_below a (b ∷ rest) name ascend above =
    let (next, later) = both (is_lt (slice_cmp nat_cmp a.0 b.0)) (have_ascending_names (b ∷ rest)) ascend in
    nat_list_cmp_total.trans a.0 b.0 name (less_of (slice_cmp nat_cmp a.0 b.0) next) (first_below b rest name later above)

-- a member with such a name goes last
pub put_above : (done : List Attribute) (name text : List ℕ) → have_ascending_names done ≡ true → is_name_above name (last_name done) ≡ true
    → put name (string text) (attribute_members done) ≡ attribute_members (done ++ (name, text) ∷ [])
put_above [] name text ascend above = refl
put_above (a ∷ []) name text ascend above =
    let greater : slice_cmp nat_cmp name a.0 ≡ Greater = nat_list_cmp_total.antisymm name a.0 ∙ ap ordering_reverse (first_below a [] name ascend above) in
    rw greater refl
put_above (a ∷ b ∷ rest) name text ascend above =
    let greater : slice_cmp nat_cmp name a.0 ≡ Greater = nat_list_cmp_total.antisymm name a.0 ∙ ap ordering_reverse (first_below a (b ∷ rest) name ascend above) in
    let later = (both (is_lt (slice_cmp nat_cmp a.0 b.0)) (have_ascending_names (b ∷ rest)) ascend).1 in
    rw greater (ap (member a.0 (string a.1)) (put_above (b ∷ rest) name text later above))

pub ascends_on : (done : List Attribute) (name text : List ℕ) → have_ascending_names done ≡ true → is_name_above name (last_name done) ≡ true
    → have_ascending_names (done ++ (name, text) ∷ []) ≡ true
ascends_on [] name text ascend above = refl
ascends_on (a ∷ []) name text ascend above = rw above refl
ascends_on (a ∷ b ∷ rest) name text ascend above =
    let (next, later) = both (is_lt (slice_cmp nat_cmp a.0 b.0)) (have_ascending_names (b ∷ rest)) ascend in
    rw next (ascends_on (b ∷ rest) name text later above)

pub last_is : (done : List Attribute) (a : Attribute) → last_name (done ++ a ∷ []) ≡ Some a.0
last_is [] a = refl
last_is (b ∷ []) a = refl
last_is (b ∷ c ∷ rest) a = last_is (c ∷ rest) a

-- members with these texts were walked in the order of their names, the last of which is that; behind them stand others
pub record AscendSoFar (behind : List NamedData) (whole : Members) (done : List Attribute) (before : Option (List ℕ)) : Type 0 where
  pub ascend : have_ascending_names done ≡ true
  pub last : before ≡ last_name done
  pub members : put_all behind (attribute_members done) ≡ whole

pub ascend_next : (behind rest : List NamedData) (whole : Members) (done done' : List Attribute) (before : Option (List ℕ)) (name text : List ℕ) (d : Data)
    → behind ≡ (name, d) ∷ rest → as_str d ≡ Some text → is_name_above name before ≡ true → done' ≡ done ++ (name, text) ∷ []
    → AscendSoFar behind whole done before → AscendSoFar rest whole done' (Some name)
ascend_next behind rest whole done done' before name text d are read above more s =
    let high : is_name_above name (last_name done) ≡ true = ap (is_name_above name) (sym s.last) ∙ above in
    let value : d ≡ string text = is_string d text read in
    record {
      ascend = ap have_ascending_names more ∙ ascends_on done name text s.ascend high;
      last = sym (ap last_name more ∙ last_is done (name, text));
      members = ap (λ xs. put_all rest (attribute_members xs)) more ∙ ap (put_all rest) (sym (put_above done name text s.ascend high))
          ∙ ap (λ v. put_all rest (put name v (attribute_members done))) (sym value) ∙ put_next behind rest name d (attribute_members done) are ∙ s.members;
    }

pub ascend_end : (behind : List NamedData) (whole : Members) (done : List Attribute) (before : Option (List ℕ)) → behind ≡ []
    → AscendSoFar behind whole done before → texts_of whole ≡ Some done
ascend_end behind whole done before none s = ap texts_of (sym s.members ∙ put_end behind (attribute_members done) none) ∙ attributes_stand done
