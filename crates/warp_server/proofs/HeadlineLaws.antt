-- What was gathered, repaired and settled is what the headline says.
use Rattle.std.proofs.Common.{◌≡◌, ℕ, List, [], ◌∷◌, ◌++◌, map, Bool, true, false, bytes_eq, Option, Some, None, refl, sym, ap, subst, ◌∙◌, append-nil, append_assoc}
use Rattle.std.specs.Map.{keys_of, lookup}
use Rattle.std.specs.List.{list_any, AllByRecursion, AllZip, IsDistinct}
use Rattle.std.specs.Cmp.Lexicographic.{nat_list_eq_equiv}
use Rattle.std.proofs.lemmas.Bool.{cond-true, cond-false, or_parts}
use Rattle.indexmap.specs.IndexMap.{get, insert_all, insert_entry}
use Rattle.indexmap.proofs.MapLemmas.{insert_entry-absent, absent_from_lookup, absent_before}
use Rattle.upload_reader.specs.Upload.{UploadState}
use Rattle.conflict_desk.specs.Book.{Book, with_decision}
use Rattle.conflict_desk.specs.Desk.{Books, book_of, decided_on, refusal, after_call, after_calls, new_books}
use Rattle.conflict_desk.specs.declared.decision.Decision.{Decision}
use Rattle.conflict_desk.specs.declared.docket.Docket.{Docket}
use Rattle.conflict_desk.specs.declared.fault.DeskFault.{DeskFault}
use Rattle.site_line.specs.Reading.{site_decisions}
use Rattle.site_line.specs.declared.site.Site.{Site}
use Rattle.lanes_in_turn.specs.Lane.{IsTaken}
use Rattle.lanes_in_turn.specs.Round.{log_before, resumed_upload, without_lane, clients_of, has_twice}
use Rattle.upload_lanes.specs.Threads.{GathersFirst}
use Rattle.upload_lanes.proofs.TakenLaws.{IsLaneOf, lanes_of}
use Rattle.lanes_in_turn.specs.declared.gathered.Gathered.{Gathered}
use Rattle.lanes_in_turn.specs.declared.gathered.LaneResult.{LaneResult}
use Rattle.warp_run.specs.Conclusion.{repaired_site, site_settled}
use Rattle.warp_server.specs.Headline.{docket_of, HasPrefix, AreReplayed}
use Rattle.warp_run.specs.Repair.{docket_for}
use Rattle.conflict_desk.proofs.Decisions.{decided_in, unless_refused}

-- ---- the lanes of a round

-- entries of clients that differ stand behind one another
pub insert_behind : {X : Type 0} (es rest : List (List ℕ × X)) → IsDistinct bytes_eq (keys_of (es ++ rest)) → insert_all bytes_eq es rest ≡ es ++ rest
insert_behind es [] apart = sym (append-nil es)
insert_behind es (e ∷ rest) apart =
    let none = absent_from_lookup (bytes_eq e.0) es (absent_before nat_list_eq_equiv es rest e apart) in
    let behind : (es ++ e ∷ []) ++ rest ≡ es ++ e ∷ rest = append_assoc es (e ∷ []) rest in
    ap (λ some. insert_all bytes_eq some rest) (insert_entry-absent bytes_eq e.0 e.1 es none)
    ∙ insert_behind (es ++ e ∷ []) rest (subst (λ all. IsDistinct bytes_eq (keys_of all)) (sym behind) apart) ∙ behind

none_of : (client : List ℕ) (clients : List (List ℕ)) → list_any (bytes_eq client) clients ≡ false → AllByRecursion (λ other. bytes_eq client other ≡ false) clients
none_of client [] none = tt
none_of client (other ∷ clients) none = let (one, rest) = or_parts _ _ none in (one, none_of client clients rest)

pub distinct : (clients : List (List ℕ)) → has_twice clients ≡ false → IsDistinct bytes_eq clients
unfolding IsDistinct
distinct [] once = tt
distinct (client ∷ clients) once = let (one, rest) = or_parts _ _ once in (none_of client clients one, distinct clients rest)

zip_weaker : {X Y : Type 0} (P Q : X → Y → Type 0) → ((x : X) (y : Y) → P x y → Q x y) → (xs : List X) (ys : List Y) → AllZip P xs ys → AllZip Q xs ys
zip_weaker P Q goes [] [] all = tt
zip_weaker P Q goes [] (y ∷ ys) all = all
zip_weaker P Q goes (x ∷ xs) [] all = all
zip_weaker P Q goes (x ∷ xs) (y ∷ ys) all = (goes x y all.0, zip_weaker P Q goes xs ys all.1)

module _ {R : Type 0} (known : List ℕ → Option (LaneResult R)) (quota : ℕ) where
  pub same_keys : (uploads : List (UploadState R)) (lanes : List (List ℕ × LaneResult R)) → AllZip (IsLaneOf known quota) uploads lanes → keys_of lanes ≡ clients_of uploads
  same_keys [] [] are = refl
  same_keys [] (lane ∷ lanes) are = absurd are
  same_keys (upload ∷ uploads) [] are = absurd are
  same_keys (upload ∷ uploads) (lane ∷ lanes) are = rw (are.0.client, same_keys uploads lanes are.1) refl

module _ {R : Type 0} (quota : ℕ) (allows : ℕ → Bool → Type 0) (more : ℕ) (uploads : List (UploadState R)) (gathered : Gathered R) where
  -- the lanes of a first round are all
  pub first_entries : (first : GathersFirst allows more uploads quota gathered) → gathered.clients.entries ≡ first.2.lanes
  first_entries (earlier, empty, g) =
      let keys = same_keys (get bytes_eq earlier.clients) quota uploads g.lanes (lanes_of (get bytes_eq earlier.clients) quota _ uploads g.lanes g.taken.lanes_are) in
      g.clients_are ∙ ap (λ before. insert_all bytes_eq (map (λ entry. (entry.0, without_lane entry.1)) before) g.lanes) empty
      ∙ insert_behind [] g.lanes (subst (IsDistinct bytes_eq) (sym keys) (distinct (clients_of uploads) g.is_round.clients))

  pub all_prefixes : GathersFirst allows more uploads quota gathered → AllZip (HasPrefix quota) uploads gathered.clients.entries
  all_prefixes first =
      let known = get bytes_eq first.0.clients in
      subst (AllZip (HasPrefix quota) uploads) (sym (first_entries first))
      (zip_weaker (IsLaneOf known quota) (HasPrefix quota)
      (λ upload lane is. record {
        client = is.client;
        is_taken = subst (λ found. IsTaken (log_before quota upload found) (resumed_upload upload found) lane.1) (ap (lookup (bytes_eq upload.client)) first.1) is.is_taken;
      })
      uploads first.2.lanes (lanes_of known quota _ uploads first.2.lanes first.2.taken.lanes_are))

-- ---- decisions leave the cases

put_by : (b : Bool) (e : List ℕ × Book) (books : Books) (client : List ℕ) (book new : Book) → bytes_eq client e.0 ≡ b → new.cases ≡ book.cases → lookup (bytes_eq client) (e ∷ books) ≡ Some book
    → (lookup (bytes_eq client) books ≡ Some book → map docket_of (insert_entry bytes_eq books client new) ≡ map docket_of books)
    → map docket_of (insert_entry bytes_eq (e ∷ books) client new) ≡ map docket_of (e ∷ books)
put_by true e books client book new is same found rest =
    let here : Some e.1 ≡ Some book = sym (cond-true (bytes_eq client e.0) (Some e.1) (lookup (bytes_eq client) books) is) ∙ found in
    let own : e.1 ≡ book = cc in
    ap (map docket_of) (cond-true (bytes_eq client e.0) ((e.0, new) ∷ books) (e ∷ insert_entry bytes_eq books client new) is)
    ∙ ap (λ cases. record { client = e.0; cases = cases } ∷ map docket_of books) (same ∙ ap (λ b. b.cases) (sym own))
put_by false e books client book new is same found rest =
    ap (map docket_of) (cond-false (bytes_eq client e.0) ((e.0, new) ∷ books) (e ∷ insert_entry bytes_eq books client new) is)
    ∙ ap (λ others. docket_of e ∷ others) (rest (sym (cond-false (bytes_eq client e.0) (Some e.1) (lookup (bytes_eq client) books) is) ∙ found))

put_back : (books : Books) (client : List ℕ) (book new : Book) → lookup (bytes_eq client) books ≡ Some book → new.cases ≡ book.cases → map docket_of (insert_entry bytes_eq books client new) ≡ map docket_of books
put_back [] client book new found same = cc
put_back (e ∷ books) client book new found same = put_by (bytes_eq client e.0) e books client book new refl same found (λ deeper. put_back books client book new deeper same)

module _ (books : Books) (call : Decision) where
  decided_leaves : (found : Option Book) → book_of call.client books ≡ found → map docket_of (decided_in call.client call.visit call.choice books found) ≡ map docket_of books
  decided_leaves None is = refl
  decided_leaves (Some book) is = put_back books call.client book (with_decision call.visit call.choice book) is refl

  refused_leaves : (why : Option DeskFault) → map docket_of (unless_refused why (decided_on call.client call.visit call.choice books) books) ≡ map docket_of books
  refused_leaves None = decided_leaves (book_of call.client books) refl
  refused_leaves (Some fault) = refl

  call_leaves : map docket_of (after_call books call) ≡ map docket_of books
  call_leaves = refused_leaves (refusal call.client call.visit books)

pub calls_leave : (books : Books) (calls : List Decision) → map docket_of (after_calls books calls) ≡ map docket_of books
calls_leave books [] = refl
calls_leave books (call ∷ calls) = calls_leave (after_call books call) calls ∙ call_leaves books call

pub opened_as : (dockets : List Docket) → map docket_of (new_books dockets) ≡ dockets
opened_as [] = refl
opened_as (docket ∷ dockets) = ap (λ rest. docket ∷ rest) (opened_as dockets)

pub replayed : {R : Type 0} (site : Site) (gathered : Gathered R) → AreReplayed (repaired_site site) gathered (site_settled site gathered)
replayed site gathered =
    let dockets = map (docket_for (repaired_site site)) gathered.clients.entries in calls_leave (new_books dockets) (site_decisions site) ∙ opened_as dockets
