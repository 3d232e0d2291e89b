-- What a line says that isn't blank: a message whose cost and visit are at least 1, or a fault of its own, which is never want of memory or a failed read.
use Rattle.std.proofs.Common.{◌≡◌, ℕ, ◌≤◌, List, [], ◌∷◌, length, codes, Bool, true, false, ◌&&◌, nat_le, if◌then◌else◌, Option, Some, None, option_and_then, Result, Ok, Err, MatchResult, refl, ap, ◌∙◌, arith}
use Rattle.std.specs.Option.{ok_or}
use Rattle.std.specs.Result.{result_map_both}
use Rattle.std.proofs.lemmas.Bool.Decides.{nat_tests}
use Rattle.std.specs.Str.{is_utf8}
use Rattle.serde_json.specs.Data.{Data}
use Rattle.serde_json.specs.Read.{read}
use Rattle.serde_json.specs.Find.{get, as_number, as_u64, as_str}
use Rattle.page_tree.specs.FirstFault.{◌>>=◌}
use Rattle.page_tree.specs.Fault.{page_or_fault}
use Rattle.page_tree.proofs.RealFaults.{page_fault_real}
use Rattle.xpath_child.specs.Fault.{path_in}
use Rattle.xpath_child.proofs.RealFaults.{path_fault_real}
use Rattle.upload_reader.specs.Limits.{max_number}
use Rattle.upload_reader.specs.Member.{if_within, number_in, member_as, page_said, path_said, path_if_any, json_said}
use Rattle.upload_reader.specs.Message.{visit_in, says, kind_said, value_said, is_blank, line_said, IsPositive}
use Rattle.upload_reader.specs.inside.Taken.{EndsByText}
use Rattle.upload_reader.specs.declared.lane_fault.LaneEnd.TheVariants.{Fault}
use Rattle.upload_reader.specs.declared.lane_fault.LaneFault.{LaneFault}
use Rattle.upload_reader.specs.declared.lane_fault.LaneFault.TheVariants.{NotJson, BadMessage, BadPage, BadTarget}
use Rattle.upload_reader.specs.declared.line.Line.{Line}
use Rattle.upload_reader.specs.declared.line.Line.TheVariants.{Says, Bye}
use Rattle.upload_reader.specs.declared.message.Message.{Message}

-- ---- what is read, in steps

abbrev IsOwn : LaneFault → Type 0
IsOwn kind = (number : ℕ) → EndsByText (Fault number kind)

-- a value that is so, or a fault of the line's own
abbrev Reads : {A : Type 0} → (A → Type 0) → Result A LaneFault → Type 0
Reads Holds r = MatchResult r Holds IsOwn

-- any value
abbrev Clean : {A : Type 0} → Result A LaneFault → Type 0
Clean r = Reads (λ _. Unit {0}) r

and_then : {A B : Type 0} (Holds : B → Type 0) (r : Result A LaneFault) (f : A → Result B LaneFault) → Clean r → ((x : A) → Reads Holds (f x)) → Reads Holds (r >>= f)
and_then Holds (Ok x) f clean rest = rest x
and_then Holds (Err kind) f clean rest = clean

either : {A : Type 0} (Holds : A → Type 0) (test : Bool) (r s : Result A LaneFault) → Reads Holds r → Reads Holds s → Reads Holds (if test then r else s)
either Holds true r s first second = first
either Holds false r s first second = second

-- ---- members

own_bad : IsOwn BadMessage
own_bad number = (tt, refl)

or_bad_clean : {A : Type 0} (o : Option A) → Clean (ok_or o BadMessage)
or_bad_clean None = own_bad
or_bad_clean (Some x) = tt

json_clean : (line : List ℕ) → Clean (json_said line)
unfolding json_said
json_clean line = by (if is_utf8 line then read line else None)
  where
    by : (o : Option Data) → Clean (ok_or o NotJson)
    by None = λ number. (tt, refl)
    by (Some d) = tt

if_least : (test : Bool) (least n : ℕ) → (test ≡ true → least ≤ n) → Reads (λ v. least ≤ v) (ok_or (if test then Some n else None) BadMessage)
if_least true least n within = within refl
if_least false least n within = own_bad

of_least : (least : ℕ) (o : Option ℕ) → Reads (λ v. least ≤ v) (ok_or (option_and_then (if_within least) o) BadMessage)
of_least least None = own_bad
of_least least (Some n) = if_least (nat_le least n && nat_le n max_number) least n (λ within. grind (arith, nat_tests))

number_least : (least : ℕ) (o : Option Data) → Reads (λ v. least ≤ v) (ok_or (option_and_then (number_in least) o) BadMessage)
unfolding number_in
number_least least None = own_bad
number_least least (Some d) = of_least least (option_and_then as_u64 (as_number d))

mapped_clean : {A F : Type 0} (r : Result A F) (kind : F → LaneFault) → ((fault : F) → r ≡ Err fault → IsOwn (kind fault)) → Clean (result_map_both (λ x. x) kind r)
mapped_clean (Ok x) kind own = tt
mapped_clean (Err fault) kind own = own fault refl

page_clean : (d : Data) → Clean (page_said d)
unfolding page_said
page_clean d = mapped_clean (page_or_fault d) BadPage (λ fault is number. (page_fault_real d fault is, refl))

path_clean : (text : List ℕ) → Clean (path_said text)
unfolding path_said
path_clean text = mapped_clean (path_in text) BadTarget (λ fault is number. (path_fault_real text fault is, refl))

path_if_clean : (o : Option (List ℕ)) → Clean (path_if_any o)
path_if_clean None = tt
path_if_clean (Some text) = and_then _ _ _ (path_clean text) (λ path. tt)

-- ---- messages

ruleset members = (and_then, or_bad_clean, page_clean, path_clean, path_if_clean)

module _ (cost : ℕ) (some : 1 ≤ cost) where
  abbrev Fits : Result Message LaneFault → Type 0
  Fits r = Reads (λ message. IsPositive message cost) r

  abbrev LineFits : Line → Type 0
  LineFits (Says message) = IsPositive message cost
  LineFits Bye = Unit {0}

  of_visit : (d : Data) (f : ℕ → Result Message LaneFault) → ((v : ℕ) → (1 ≤ cost) × (1 ≤ v) → Fits (f v)) → Fits (visit_in d >>= f)
  of_visit d f rest = by (visit_in d) (number_least 1 (get (codes "visit") d))
    where
      by : (r : Result ℕ LaneFault) → Reads (λ v. 1 ≤ v) r → Fits (r >>= f)
      by (Ok v) least = rest v (some, least)
      by (Err kind) own = own

  says_fits : (r : Result Message LaneFault) → Fits r → Reads LineFits (says r)
  says_fits (Ok message) fits = fits
  says_fits (Err kind) own = own

  kind_fits : (kind : List ℕ) (d : Data) → Reads LineFits (kind_said kind d)
  unfolding kind_said
  kind_fits kind d = search (either, says_fits, of_visit, members, own_bad) depth 16

  line_fits : (line : List ℕ) → Reads LineFits (line_said line)
  unfolding line_said
  line_fits line = and_then LineFits (json_said line) value_said (json_clean line) (λ d. and_then LineFits (member_as as_str (codes "t") d) (λ kind. kind_said kind d) (or_bad_clean _) (λ kind. kind_fits kind d))

-- ---- any line

-- Where a line can't be read, the fault is the line's own.
pub said_own : (line : List ℕ) (kind : LaneFault) → line_said line ≡ Err kind → (number : ℕ) → EndsByText (Fault number kind)
said_own line kind is = rw is at (line_fits 1 (omega arith) line)

-- an empty line is blank
some_byte : (line : List ℕ) → is_blank line ≡ false → 1 ≤ length line
unfolding is_blank
some_byte [] text = cc
some_byte (byte ∷ line) text = omega arith

-- What a line says is positive at its length.
pub said_positive : (line : List ℕ) (said : Line) (message : Message) → is_blank line ≡ false → line_said line ≡ Ok said → said ≡ Says message → IsPositive message (length line)
said_positive line said message text is says = rw (is ∙ ap Ok says) at (line_fits (length line) (some_byte line text) line)
