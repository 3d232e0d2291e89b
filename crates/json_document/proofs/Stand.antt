-- What stands at a place, level by level.
use Rattle.std.proofs.Common.{◌≡◌, ℕ, List, [], ◌∷◌, Bool, true, false, cond, bytes_eq, Option, Some, None, option_map, option_and_then, unwrap_or, refl, sym, ap, ◌∙◌, subst}
use Rattle.std.specs.Prelude.{is_some, IsSome}
use Rattle.std.specs.Option.{option_map_or}
use Rattle.std.proofs.lemmas.Slice.Eq.{bytes_eq-Decides}
use Rattle.json.specs.Token.{Token}
use Rattle.json.specs.Json as json
use Rattle.json.specs.Find as find
use Rattle.json.proofs.Found.{not_found, Some_inj}
use Rattle.serde_json.specs.Data.{Num, Data, null, boolean, number, string, array, object, Items, no_items, item, Members, no_members, put}
use Rattle.serde_json.specs.Read.{number_of, of_json, of_items, of_members}
use Rattle.serde_json.specs.Find.{get, get_member, as_str, as_number, as_array, as_object}
use Rattle.serde_json.proofs.Views.{get_member-put, get_member-put_other}
use Rattle.json_document.specs.Standing.{data_of, items_behind, named_in, members_behind, put_all}
use Rattle.json_document.specs.Fitting.{IsPlace, AreItems, AreMembers}
use Rattle.json_document.proofs.Spelled.{begins, items_begin, members_begin}

-- ---- options

pub some_of : {A : Type 0} (o : Option A) → IsSome o → (a : A) × (o ≡ Some a)
some_of None h = cc
some_of (Some a) h = (a, refl)

pub mapped : {A B : Type 0} (f : A → B) (o : Option A) (b : B) → option_map f o ≡ Some b → (a : A) × (o ≡ Some a) × (b ≡ f a)
mapped f None b e = not_found b e
mapped f (Some a) b e = (a, refl, sym (Some_inj (f a) b e))

pub chained : {A B : Type 0} (f : A → Option B) (o : Option A) (b : B) → option_and_then f o ≡ Some b → (a : A) × (o ≡ Some a) × (f a ≡ Some b)
chained f None b e = not_found b e
chained f (Some a) b e = (a, refl, e)

-- ---- one level

abbrev pub Same : json.Json → Data → Type 0
Same json.null d = d ≡ null
Same (json.boolean b) d = d ≡ boolean b
Same (json.number s) d = (n : Num) × (number_of s ≡ Some n) × (d ≡ number n)
Same (json.string s) d = d ≡ string s
Same (json.array js) d = (ds : Items) × (of_items js ≡ Some ds) × (d ≡ array ds)
Same (json.object ms) d = (found : Members) × (of_members ms no_members ≡ Some found) × (d ≡ object found)

pub same : (j : json.Json) (d : Data) → of_json j ≡ Some d → Same j d
same json.null d e = sym (Some_inj null d e)
same (json.boolean b) d e = sym (Some_inj (boolean b) d e)
same (json.number s) d e = mapped number (number_of s) d e
same (json.string s) d e = sym (Some_inj (string s) d e)
same (json.array js) d e = mapped array (of_items js) d e
same (json.object ms) d e = mapped object (of_members ms no_members) d e

-- ---- what stands at a place

pub data_is : (ts : List Token) (j : json.Json) (d : Data) → find.BeginsWith ts j → of_json j ≡ Some d → data_of ts ≡ d
data_is ts j d h e = ap (λ o. unwrap_or (option_and_then of_json o) null) (begins ts j h) ∙ ap (λ o. unwrap_or o null) e

pub items_is : (ts : List Token) (js : json.Items) (ds : Items) → find.InItems ts js → of_items js ≡ Some ds → items_behind ts ≡ ds
items_is ts js ds h e =
    ap (λ d. unwrap_or (as_array d) no_items) (data_is (Token.begin_array ∷ ts) (json.array js) (array ds) (items_begin ts js h) (ap (option_map array) e))

pub members_is : (ts : List Token) (ms : json.Members) → find.InMembers ts ms → members_behind ts ≡ named_in ms
members_is ts ms h = ap (λ o. option_map_or named_in (option_and_then find.as_object o) []) (begins (Token.begin_object ∷ ts) (json.object ms) (members_begin ts ms h))

-- ---- texts and numbers

str_is : (j : json.Json) (d : Data) → Same j d → find.as_str j ≡ as_str d
str_is json.null d is = ap as_str (sym is)
str_is (json.boolean b) d is = ap as_str (sym is)
str_is (json.number s) d (n, read, is) = ap as_str (sym is)
str_is (json.string s) d is = ap as_str (sym is)
str_is (json.array js) d (ds, read, is) = ap as_str (sym is)
str_is (json.object ms) d (found, read, is) = ap as_str (sym is)

pub as_str_is : (j : json.Json) (d : Data) → of_json j ≡ Some d → find.as_str j ≡ as_str d
as_str_is j d e = str_is j d (same j d e)

number_at : (j : json.Json) (d : Data) → Same j d → option_and_then number_of (find.as_number j) ≡ as_number d
number_at json.null d is = ap as_number (sym is)
number_at (json.boolean b) d is = ap as_number (sym is)
number_at (json.number s) d (n, read, is) = read ∙ ap as_number (sym is)
number_at (json.string s) d is = ap as_number (sym is)
number_at (json.array js) d (ds, read, is) = ap as_number (sym is)
number_at (json.object ms) d (found, read, is) = ap as_number (sym is)

pub as_number_is : (j : json.Json) (d : Data) → of_json j ≡ Some d → option_and_then number_of (find.as_number j) ≡ as_number d
as_number_is j d e = number_at j d (same j d e)

-- ---- arrays and objects

array_at : (j : json.Json) (d : Data) → Same j d → option_and_then of_items (find.as_array j) ≡ as_array d
array_at json.null d is = ap as_array (sym is)
array_at (json.boolean b) d is = ap as_array (sym is)
array_at (json.number s) d (n, read, is) = ap as_array (sym is)
array_at (json.string s) d is = ap as_array (sym is)
array_at (json.array js) d (ds, read, is) = read ∙ ap as_array (sym is)
array_at (json.object ms) d (found, read, is) = ap as_array (sym is)

pub as_array_is : (j : json.Json) (d : Data) → of_json j ≡ Some d → option_and_then of_items (find.as_array j) ≡ as_array d
as_array_is j d e = array_at j d (same j d e)

object_at : (j : json.Json) (d : Data) → Same j d → option_and_then (λ ms. of_members ms no_members) (find.as_object j) ≡ as_object d
object_at json.null d is = ap as_object (sym is)
object_at (json.boolean b) d is = ap as_object (sym is)
object_at (json.number s) d (n, read, is) = ap as_object (sym is)
object_at (json.string s) d is = ap as_object (sym is)
object_at (json.array js) d (ds, read, is) = ap as_object (sym is)
object_at (json.object ms) d (found, read, is) = read ∙ ap as_object (sym is)

pub as_object_is : (j : json.Json) (d : Data) → of_json j ≡ Some d → option_and_then (λ ms. of_members ms no_members) (find.as_object j) ≡ as_object d
as_object_is j d e = object_at j d (same j d e)

-- the members of a text make the object
pub all_put : (ms : json.Members) (behind found : Members) → of_members ms behind ≡ Some found → put_all (named_in ms) behind ≡ found
all_put json.no_members behind found e = Some_inj behind found e
all_put (json.member k j ms) behind found e =
    let (d, read, later) = chained (λ v. of_members ms (put k v behind)) (of_json j) found e in
    ap (λ o. put_all (named_in ms) (put k (unwrap_or o null) behind)) read ∙ all_put ms (put k d behind) found later

-- ---- a member by its name

-- what a look-up gives in the text and in the object; none in the text where another was found before
abbrev Gives : Option json.Json → Option Data → Option Data → Type 0
Gives None got before = got ≡ before
Gives (Some i) got before = (d : Data) × (of_json i ≡ Some d) × (got ≡ Some d)

last_or : (later : Option json.Json) (here : Bool) (name k : List ℕ) (j : json.Json) (d : Data) (behind : Members) (got : Option Data) → bytes_eq k name ≡ here → of_json j ≡ Some d
    → Gives later got (get_member name (put k d behind)) → Gives (find.later_or later (cond here (Some j) None)) got (get_member name behind)
last_or (Some i) here name k j d behind got eq read gives = gives
last_or None true name k j d behind got eq read gives =
    let is : k ≡ name = (bytes_eq-Decides k name).0 eq in
    (d, read, gives ∙ ap (λ n. get_member n (put k d behind)) (sym is) ∙ get_member-put k d behind)
last_or None false name k j d behind got eq read gives =
    gives ∙ get_member-put_other name k d behind (λ is. let yes : bytes_eq k name ≡ true = (bytes_eq-Decides k name).1 (sym is) in cc)

member_is : (ms : json.Members) (name : List ℕ) (behind found : Members) → of_members ms behind ≡ Some found → Gives (find.get_member name ms) (get_member name found) (get_member name behind)
member_is json.no_members name behind found e = ap (get_member name) (sym (Some_inj behind found e))
member_is (json.member k j ms) name behind found e =
    let (d, read, later) = chained (λ v. of_members ms (put k v behind)) (of_json j) found e in
    last_or (find.get_member name ms) (bytes_eq k name) name k j d behind (get_member name found) refl read (member_is ms name (put k d behind) found later)

get_at : (j : json.Json) (d : Data) (name : List ℕ) → Same j d → Gives (find.get name j) (get name d) None
get_at json.null d name is = ap (get name) is
get_at (json.boolean b) d name is = ap (get name) is
get_at (json.number s) d name (n, read, is) = ap (get name) is
get_at (json.string s) d name is = ap (get name) is
get_at (json.array js) d name (ds, read, is) = ap (get name) is
get_at (json.object ms) d name (found, read, is) = subst (λ x. Gives (find.get_member name ms) (get name x) None) (sym is) (member_is ms name no_members found read)

-- where the text has the member, and where it doesn't
pub get_found : (j i : json.Json) (d : Data) (name : List ℕ) → of_json j ≡ Some d → find.get name j ≡ Some i → (e : Data) × (of_json i ≡ Some e) × (get name d ≡ Some e)
get_found j i d name read is = subst (λ o. Gives o (get name d) None) is (get_at j d name (same j d read))

pub get_none : (j : json.Json) (d : Data) (name : List ℕ) → of_json j ≡ Some d → find.get name j ≡ None → get name d ≡ None
get_none j d name read is = subst (λ o. Gives o (get name d) None) is (get_at j d name (same j d read))

-- ---- what follows an item or a member

-- whether members are data doesn't hang on those before them
members_there : (ms : json.Members) (one other : Members) → IsSome (of_members ms one) → IsSome (of_members ms other)
members_there json.no_members one other some = refl
members_there (json.member k j ms) one other some = go (of_json j) some (λ d. members_there ms (put k d one) (put k d other))
  where
    go : (o : Option Data) → IsSome (option_and_then (λ d. of_members ms (put k d one)) o) → ((d : Data) → IsSome (of_members ms (put k d one)) → IsSome (of_members ms (put k d other)))
        → IsSome (option_and_then (λ d. of_members ms (put k d other)) o)
    go None h later = h
    go (Some d) h later = later d h

pub next_item : (old new ts : List Token) → AreItems old → find.NextItem old (Some ts) new → IsPlace ts × AreItems new × (items_behind old ≡ item (data_of ts) (items_behind new))
next_item old new ts (js, inside, some) next =
    let (j, rest, is, begins, more) = next js inside in
    let (ds, read) = some_of (of_items js) some in
    let (d, one, later) = chained (λ v. option_map (item v) (of_items rest)) (of_json j) ds (ap of_items (sym is) ∙ read) in
    let (es, others, made) = mapped (item d) (of_items rest) ds later in (
      (j, begins, ap is_some one),
      (rest, more, ap is_some others),
      items_is old js ds inside read ∙ made ∙ ap (λ x. item x es) (sym (data_is ts j d begins one)) ∙ ap (item (data_of ts)) (sym (items_is new rest es more others)),
    )

pub no_item : (old new : List Token) → AreItems old → find.NextItem old None new → items_behind old ≡ no_items
no_item old new (js, inside, some) next = items_is old js no_items inside (ap of_items (next js inside))

pub next_member : (old new ts : List Token) (k : List ℕ) → AreMembers old → find.NextMember old (Some (k, ts)) new
    → IsPlace ts × AreMembers new × (members_behind old ≡ (k, data_of ts) ∷ members_behind new)
next_member old new ts k (ms, inside, some) next =
    let (j, rest, is, begins, more) = next ms inside in
    let (all, read) = some_of (of_members ms no_members) some in
    let (d, one, later) = chained (λ v. of_members rest (put k v no_members)) (of_json j) all (ap (λ m. of_members m no_members) (sym is) ∙ read) in (
      (j, begins, ap is_some one),
      (rest, more, members_there rest (put k d no_members) no_members (ap is_some later)),
      members_is old ms inside ∙ ap named_in is
          ∙ ap (λ x. (k, x) ∷ named_in rest) (ap (λ o. unwrap_or o null) one ∙ sym (data_is ts j d begins one)) ∙ ap (λ l. (k, data_of ts) ∷ l) (sym (members_is new rest more)),
    )

pub no_member : (old new : List Token) → AreMembers old → find.NextMember old None new → members_behind old ≡ []
no_member old new (ms, inside, some) next = members_is old ms inside ∙ ap named_in (next ms inside)

-- ---- what a place tells, by what its tokens tell

pub place_str : (ts : List Token) (r : Option (List ℕ)) → IsPlace ts → ((j : json.Json) → find.BeginsWith ts j → r ≡ find.as_str j) → r ≡ as_str (data_of ts)
place_str ts r (j, begins, some) tells =
    let (d, read) = some_of (of_json j) some in tells j begins ∙ as_str_is j d read ∙ ap as_str (sym (data_is ts j d begins read))

pub place_number : (ts : List Token) (r : Option (List ℕ)) → IsPlace ts → ((j : json.Json) → find.BeginsWith ts j → r ≡ find.as_number j)
    → option_and_then number_of r ≡ as_number (data_of ts)
place_number ts r (j, begins, some) tells =
    let (d, read) = some_of (of_json j) some in
    ap (option_and_then number_of) (tells j begins) ∙ as_number_is j d read ∙ ap as_number (sym (data_is ts j d begins read))

pub place_found : (ts at : List Token) (name : List ℕ) → IsPlace ts → ((j : json.Json) → find.BeginsWith ts j → (i : json.Json) × (find.get name j ≡ Some i) × find.BeginsWith at i)
    → IsPlace at × (Some (data_of at) ≡ get name (data_of ts))
place_found ts at name (j, begins, some) tells =
    let (d, read) = some_of (of_json j) some in
    let (i, found, there) = tells j begins in
    let (e, of_i, got) = get_found j i d name read found in
    ((i, there, ap is_some of_i), ap Some (data_is at i e there of_i) ∙ sym got ∙ ap (get name) (sym (data_is ts j d begins read)))

pub place_lacks : (ts : List Token) (name : List ℕ) → IsPlace ts → ((j : json.Json) → find.BeginsWith ts j → find.get name j ≡ None) → None ≡ get name (data_of ts)
place_lacks ts name (j, begins, some) tells =
    let (d, read) = some_of (of_json j) some in
    sym (get_none j d name read (tells j begins)) ∙ ap (get name) (sym (data_is ts j d begins read))

pub place_items : (ts at : List Token) → IsPlace ts → ((j : json.Json) → find.BeginsWith ts j → (js : json.Items) × (j ≡ json.array js) × find.InItems at js)
    → AreItems at × (Some (items_behind at) ≡ as_array (data_of ts))
place_items ts at (j, begins, some) tells =
    let (d, read) = some_of (of_json j) some in
    let (js, is, inside) = tells j begins in
    let (ds, items, array_is) = mapped array (of_items js) d (ap of_json (sym is) ∙ read) in
    ((js, inside, ap is_some items), ap Some (items_is at js ds inside items) ∙ ap as_array (sym array_is) ∙ ap as_array (sym (data_is ts j d begins read)))

pub place_no_items : (ts : List Token) → IsPlace ts → ((j : json.Json) → find.BeginsWith ts j → find.as_array j ≡ None) → None ≡ as_array (data_of ts)
place_no_items ts (j, begins, some) tells =
    let (d, read) = some_of (of_json j) some in
    ap (option_and_then of_items) (sym (tells j begins)) ∙ as_array_is j d read ∙ ap as_array (sym (data_is ts j d begins read))

pub place_members : (ts at : List Token) → IsPlace ts → ((j : json.Json) → find.BeginsWith ts j → (ms : json.Members) × (j ≡ json.object ms) × find.InMembers at ms)
    → AreMembers at × (Some (put_all (members_behind at) no_members) ≡ as_object (data_of ts))
place_members ts at (j, begins, some) tells =
    let (d, read) = some_of (of_json j) some in
    let (ms, is, inside) = tells j begins in
    let (found, members, object_is) = mapped object (of_members ms no_members) d (ap of_json (sym is) ∙ read) in (
      (ms, inside, ap is_some members),
      ap Some (ap (λ l. put_all l no_members) (members_is at ms inside) ∙ all_put ms no_members found members) ∙ ap as_object (sym object_is)
          ∙ ap as_object (sym (data_is ts j d begins read)),
    )

pub place_no_members : (ts : List Token) → IsPlace ts → ((j : json.Json) → find.BeginsWith ts j → find.as_object j ≡ None) → None ≡ as_object (data_of ts)
place_no_members ts (j, begins, some) tells =
    let (d, read) = some_of (of_json j) some in
    ap (option_and_then (λ ms. of_members ms no_members)) (sym (tells j begins)) ∙ as_object_is j d read ∙ ap as_object (sym (data_is ts j d begins read))
