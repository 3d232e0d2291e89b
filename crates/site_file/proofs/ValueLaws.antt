-- What a line is as a JSON text, and what the first line says, as functions.
use Rattle.std.proofs.Common.{◌≡◌, List, ℕ, Bool, true, false, if◌then◌else◌, Option, Some, None, Result, Ok, Err, is_some, option_map, refl, sym, ◌∙◌}
use Rattle.std.specs.Option.{ok_or}
use Rattle.std.specs.Result.{result_err}
use Rattle.std.specs.Str.{IsUtf8, is_utf8}
use Rattle.std.proofs.lemmas.Str.{IsUtf8-from_is_utf8, is_utf8-from_IsUtf8}
use Rattle.serde_json.specs.Data.{Data}
use Rattle.serde_json.specs.Find.{as_object}
use Rattle.serde_json.specs.Read.{read}
use Rattle.page_tree.specs.FirstFault.{unless, ok_unless}
use Rattle.site_line.specs.Refused.{refused_member}
use Rattle.site_line.specs.Site.{Site, IsSiteOf, IsJsonOf, IsSiteLine, IsNoSite}
use Rattle.site_line.specs.declared.refused.SiteMember.{SiteMember}
use Rattle.site_line.proofs.RefusedLaws.{none_refused, site_of_unrefused}
use Rattle.site_file.specs.Addition.{value_in}
use Rattle.site_file.specs.SiteFile.{site_wrong, site_value_in}
use Rattle.site_file.specs.declared.wrong.LineWrong.{LineWrong}
use Rattle.site_file.specs.declared.wrong.LineWrong.TheVariants.{NotJson, NotOne, First}

pub value_read : (line : List ℕ) (d : Data) → IsUtf8 line → read line ≡ Some d → value_in line ≡ Ok d
unfolding value_in
value_read line d utf8 is = rw (is_utf8-from_IsUtf8 line utf8, is) refl

none_if : (test : Bool) (o : Option Data) → (test ≡ true → o ≡ None) → (if test then o else None) ≡ None
none_if true o none = none refl
none_if false o none = refl

pub value_refused : (line : List ℕ) → (IsUtf8 line → read line ≡ None) → value_in line ≡ Err NotJson
unfolding value_in
value_refused line none = rw (none_if (is_utf8 line) (read line) (λ utf8. none (IsUtf8-from_is_utf8 line utf8))) refl

-- ---- the first line

pub site_is_right : (d : Data) (site : Site) → IsSiteOf d site → site_wrong d ≡ None
site_is_right d site is = rw (is.object, none_refused d site is) refl

pub site_line_read : (line : List ℕ) (site : Site) → IsSiteLine line site → (d : Data) × (site_value_in line ≡ Ok d)
site_line_read line site (d, json, of) = (d, rw (value_read line d json.0 json.1, site_is_right d site of) refl)

not_first : (found : Option SiteMember) → option_map First found ≡ None → found ≡ None
not_first None is = refl
not_first (Some which) is = cc

right_by : (object : Bool) (found : Option SiteMember) → unless object NotOne (option_map First found) ≡ None → (object ≡ true) × (found ≡ None)
right_by true found is = (refl, not_first found is)
right_by false found is = cc

-- a value with which nothing is wrong is a site
pub right_is_site : (d : Data) → site_wrong d ≡ None → (site : Site) × IsSiteOf d site
right_is_site d right = let (object, none) = right_by (is_some (as_object d)) (refused_member d) right in site_of_unrefused d object none

-- ---- what is wrong with the first line

none_read : (found : Option Data) → ((d : Data) → found ≡ Some d → ⊥) → found ≡ None
none_read None never = refl
none_read (Some d) never = absurd (never d refl)

pub no_json : (line : List ℕ) → ((d : Data) → IsJsonOf line d → ⊥) → site_value_in line ≡ Err NotJson
no_json line never = rw (value_refused line (λ utf8. none_read (read line) (λ d is. never d (utf8, is)))) refl

told : (wrong : Option LineWrong) (d : Data) → result_err (ok_unless wrong d) ≡ wrong
told None d = refl
told (Some why) d = refl

pub wrong_told : (line : List ℕ) (d : Data) → value_in line ≡ Ok d → result_err (site_value_in line) ≡ site_wrong d
wrong_told line d is = rw is (told (site_wrong d) d)

first_told : (line : List ℕ) (d : Data) → IsUtf8 line → read line ≡ Some d → result_err (site_value_in line) ≡ site_wrong d
first_told line d utf8 is = wrong_told line d (value_read line d utf8 is)

-- the same of what was read, as it stands
module _ {V : Type 0} (view : V → Data) (line : List ℕ) (value : Option V) (given : value_in line ≡ ok_or (option_map view value) NotJson) where
  pub none_told : value ≡ None → Some NotJson ≡ result_err (site_value_in line)
  none_told is = let none : value_in line ≡ Err NotJson = rw is at given in rw none refl

  pub some_told : (v : V) → value ≡ Some v → result_err (site_value_in line) ≡ site_wrong (view v)
  some_told v is = let some : value_in line ≡ Ok (view v) = rw is at given in wrong_told line (view v) some

pub error_is : {A : Type 0} (said : Result A LineWrong) (why : LineWrong) → Some why ≡ result_err said → said ≡ Err why
error_is (Ok x) why is = cc
error_is (Err wrong) why is = let same : why ≡ wrong = cc in rw same refl

pub never_right : (line : List ℕ) → None ≡ result_err (site_value_in line) → (d : Data) × IsJsonOf line d × IsNoSite d → ⊥
never_right line right (d, json, none) =
    let (site, is) = right_is_site d (sym (first_told line d json.0 json.1) ∙ sym right) in none site is
