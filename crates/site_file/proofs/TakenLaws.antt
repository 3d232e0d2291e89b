-- What is known of a site file behind so many lines of it.
use Rattle.std.proofs.Common.{◌≡◌, ℕ, ◌+◌, ◌<◌, ◌^◌, List, [], ◌∷◌, ◌++◌, length, drop, Bool, true, false, nat_lt, Some, option_map, Result, Ok, Err, refl, sym, ap, ◌∙◌, arith, append-nil, inl, inr, length-append}
use Rattle.std.specs.List.{AllByRecursion}
use Rattle.std.specs.Result.{result_err}
use Rattle.std.proofs.lemmas.List.{map-append}
use Rattle.byte_streams.specs.CompleteLines.{complete_lines, unended_line}
use Rattle.byte_streams.specs.Cutting.{cut, ending_of}
use Rattle.byte_streams.specs.Reading.{Reading, ReadsWhile, Advances, input, uncut_bytes}
use Rattle.byte_streams.specs.declared.fault.LineFault.{LineFault}
use Rattle.byte_streams.specs.declared.fault.LineFault.TheVariants as line
use Rattle.byte_streams.proofs.LineLaws.{at_least, no_line, whole_unended}
use Rattle.byte_streams.proofs.ReadingLaws.{reads_none}
use Rattle.upload_reader.proofs.FrontSteps.{passed_none, lines_long}
use Rattle.site_line.specs.Site.{Site as PlainSite, IsSiteLine}
use Rattle.site_file.specs.Addition.{Addition, addition_in}
use Rattle.site_file.specs.Kept.{IsUnread, SaysNoFile}
use Rattle.site_file.specs.SiteFile.{FileSite, with_additions, max_file_line, IsShort, SaysFile, IsSiteFile, FileIsUndecided, HasWrong, site_value_in, wrong_behind, none_behind}
use Rattle.site_file.specs.inside.{SaysFirst, StandsSoFar, AddsToSite, HasTaken, TakesFileLine, TakenWhole, no_file_line, nothing_added, kept_at_end}
use Rattle.site_file.specs.declared.file.NoSiteFile.{NoSiteFile}
use Rattle.site_file.specs.declared.file.NoSiteFile.TheVariants as none
use Rattle.site_file.specs.declared.growing.Growing.{Growing}
use Rattle.site_file.specs.declared.wrong.FileWrongKind.TheVariants.{NoLine, Says}
use Rattle.site_file.specs.declared.wrong.LineWrong.{LineWrong}
use Rattle.site_file.specs.declared.wrong.NoAddition.{NoAddition}
use Rattle.site_file.specs.declared.wrong.NoAddition.TheVariants.{Wrong, NoMemory}
use Rattle.site_file.proofs.FileLines.{AreBefore, reads_on, line_is_short, line_passed, line_is_wrong, ends_so, rest_is, all_lines, no_line_wrong}
use Rattle.site_file.proofs.ValueLaws.{site_line_read}

-- ---- what lines say

says_wrong : (front : List (List ℕ)) (file : FileSite) (line : List ℕ) (said : Result Addition LineWrong) → SaysFile front file → addition_in line ≡ said
    → wrong_behind front line ≡ option_map Says (result_err said)
says_wrong [] file line said says is = absurd says
says_wrong (first ∷ lines) file line said says is = rw is refl

says_more : (front : List (List ℕ)) (file : FileSite) (line : List ℕ) (add : Addition) → SaysFile front file → addition_in line ≡ Ok add
    → (site : PlainSite) × (adds : List Addition) × (file ≡ with_additions site adds) × SaysFile (front ++ line ∷ []) (with_additions site (adds ++ add ∷ []))
says_more [] file line add says is = absurd says
says_more (first ∷ lines) file line add (site, adds, of, said, same) is = (
  site,
  adds,
  same,
  (site, adds ++ add ∷ [], of, map-append addition_in lines (line ∷ []) ∙ rw (said, is) (sym (map-append Ok adds (add ∷ []))), refl),
)

short_more : (front : List (List ℕ)) (line : List ℕ) → AllByRecursion IsShort front → IsShort line → AllByRecursion IsShort (front ++ line ∷ [])
short_more [] line all is = (is, tt)
short_more (first ∷ lines) line all is = (all.0, short_more lines line all.1 is)

none_left : (bytes : List ℕ) → nat_lt 0 (length bytes) ≡ false → bytes ≡ []
none_left [] none = refl
none_left (byte ∷ bytes) none = absurd (omega (arith, at_least 0 (length (byte ∷ bytes)) none))

some_left : (bytes : List ℕ) → nat_lt 0 (length bytes) ≡ true → bytes ≡ [] → ⊥
some_left [] some none = cc
some_left (byte ∷ bytes) some none = cc

module _ {R : Type 0} (old now : Reading R) where
  abbrev Cuts : Type 0
  Cuts = Advances {A = Unit {0}} max_file_line old now (Ok tt)

  abbrev Stops : LineFault → Type 0
  Stops fault = Advances {A = Unit {0}} max_file_line old now (Err fault)

  -- ---- the first line

  module _ (unread : IsUnread old) where
    before_all : AreBefore old old.place []
    before_all = rw unread.place (passed_none max_file_line wrong_behind none_behind (input old) 0)

    pub first_reads : (result : Result (Unit {0}) LineFault) → Advances max_file_line old now result → ReadsWhile FileIsUndecided old now
    first_reads result moves = reads_on old now [] before_all unread.going old (reads_none FileIsUndecided old old refl refl) moves.reads

    pub begun : (growing : Growing) (plain : PlainSite) → Cuts → IsSiteLine now.line plain → StandsSoFar growing (with_additions plain []) → HasTaken now 1 growing
    begun growing plain moves is stands = let (d, read) = site_line_read now.line plain is in record {
      going = moves.fault;
      front = now.line ∷ [];
      count_is = refl;
      behind = line_passed old now [] before_all unread.going moves (rw read refl);
      short = (line_is_short old now [] before_all unread.going moves, tt);
      file = with_additions plain [];
      says = (plain, [], is, refl, refl);
      stands = stands;
    }

    pub first_is_wrong : (why : LineWrong) → Cuts → site_value_in now.line ≡ Err why → HasWrong (input now) (ending_of now.answers) (record { line = 1; kind = Says why })
    first_is_wrong why moves is = line_is_wrong old now [] before_all unread.going moves 1 why refl (rw is refl)

    pub no_first : (fault : LineFault) → Stops fault → SaysNoFile (input now) (ending_of now.answers) (no_file_line 1 fault)
    no_first line.NoMemory moves = tt
    no_first line.ReadFailed moves = (ends_so old now [] before_all unread.going line.ReadFailed moves (moves.tells (rw unread.going refl)) (λ long. cc)).0
    no_first line.TooManyReads moves = no_line_wrong old now [] before_all unread.going line.TooManyReads moves (moves.tells (rw unread.going refl)) 1 refl (λ is. cc) (λ is. absurd (cc))
    no_first line.LineTooLong moves = no_line_wrong old now [] before_all unread.going line.LineTooLong moves (moves.tells (rw unread.going refl)) 1 refl (λ is. cc) (λ is. absurd (cc))
    no_first line.Truncated moves = no_line_wrong old now [] before_all unread.going line.Truncated moves (moves.tells (rw unread.going refl)) 1 refl (λ is. cc) (λ is. inl refl)

    pub first_refused : (e : NoAddition) → Cuts → SaysFirst now.line (Err e) → SaysNoFile (input now) (ending_of now.answers) (nothing_added 1 e)
    first_refused (Wrong why) moves is = first_is_wrong why moves is
    first_refused NoMemory moves is = tt

  -- ---- a further one

  module _ (count : ℕ) (growing : Growing) (taken : HasTaken old count growing) where
    pub next_reads : (first : Reading R) (result : Result (Unit {0}) LineFault) → ReadsWhile FileIsUndecided first old → Advances max_file_line old now result → ReadsWhile FileIsUndecided first now
    next_reads first result earlier moves = reads_on old now taken.front taken.behind taken.going first earlier moves.reads

    pub taken_more : (new : Growing) (add : Addition) → Cuts → addition_in now.line ≡ Ok add → AddsToSite add growing new → HasTaken now (count + 1) new
    taken_more new add moves is adds_to = let (site, adds, same, says) = says_more taken.front taken.file now.line add taken.says is in record {
      going = moves.fault;
      front = taken.front ++ now.line ∷ [];
      count_is = omega (arith, taken.count_is, length-append taken.front (now.line ∷ []));
      behind = line_passed old now taken.front taken.behind taken.going moves (says_wrong taken.front taken.file now.line (Ok add) taken.says is);
      short = short_more taken.front now.line taken.short (line_is_short old now taken.front taken.behind taken.going moves);
      file = with_additions site (adds ++ add ∷ []);
      says = says;
      stands = adds_to site adds (rw same at taken.stands);
    }

    pub next_is_wrong : (why : LineWrong) → Cuts → addition_in now.line ≡ Err why → HasWrong (input now) (ending_of now.answers) (record { line = count + 1; kind = Says why })
    next_is_wrong why moves is = line_is_wrong old now taken.front taken.behind taken.going moves (count + 1) why (omega (arith, taken.count_is))
        (says_wrong taken.front taken.file now.line (Err why) taken.says is)

    next_wrong : (fault : LineFault) → Stops fault → cut max_file_line (drop old.place (input now)) (ending_of now.answers) ≡ Some (Err fault)
        → (fault ≡ line.ReadFailed → ⊥) → (fault ≡ line.Truncated → uncut_bytes now ≡ [] → ⊥) → HasWrong (input now) (ending_of now.answers) (record { line = count + 1; kind = NoLine fault })
    next_wrong fault moves stops read unended =
        no_line_wrong old now taken.front taken.behind taken.going fault moves stops (count + 1) (omega (arith, taken.count_is)) read (λ is. inr (unended is))

    nothing_uncut : Stops line.Truncated → uncut_bytes now ≡ [] → IsSiteFile (input now) (ending_of now.answers) taken.file
    nothing_uncut moves none =
        let stops : cut max_file_line (drop old.place (input now)) (ending_of now.answers) ≡ Some (Err line.Truncated) = moves.tells (rw taken.going refl) in
        let left : drop old.place (input now) ≡ [] = rw (← moves.place) none in
        let all : complete_lines (input now) ≡ taken.front = all_lines old now taken.front taken.behind taken.going line.Truncated moves stops ∙ ap (λ rest. taken.front ++ complete_lines rest) left
        ∙ ap (λ rest. taken.front ++ rest) (no_line [] refl) ∙ append-nil taken.front in record {
          short = rw all taken.short;
          says = rw all taken.says;
          nothing_behind = rest_is old now taken.front taken.behind taken.going line.Truncated moves stops ∙ ap unended_line left ∙ whole_unended [] refl;
          ends = (ends_so old now taken.front taken.behind taken.going line.Truncated moves stops (λ long. cc)).0;
        }

    pub ended : (fault : LineFault) (has_rest : Bool) → Stops fault → has_rest ≡ nat_lt 0 (length (uncut_bytes now)) → TakenWhole now (kept_at_end (count + 1) fault has_rest growing)
    ended line.Truncated false moves is = (taken.file, nothing_uncut moves (none_left (uncut_bytes now) (sym is)), taken.stands)
    ended line.Truncated true moves is = next_wrong line.Truncated moves (moves.tells (rw taken.going refl)) (λ same. cc) (λ same none. some_left (uncut_bytes now) (sym is) none)
    ended line.NoMemory has_rest moves is = tt
    ended line.ReadFailed has_rest moves is = (ends_so old now taken.front taken.behind taken.going line.ReadFailed moves (moves.tells (rw taken.going refl)) (λ long. cc)).0
    ended line.TooManyReads has_rest moves is = next_wrong line.TooManyReads moves (moves.tells (rw taken.going refl)) (λ same. cc) (λ same none. cc)
    ended line.LineTooLong has_rest moves is = next_wrong line.LineTooLong moves (moves.tells (rw taken.going refl)) (λ same. cc) (λ same none. cc)

    pub next_refused : (new : Growing) (e : NoSiteFile) → Cuts → TakesFileLine (count + 1) now.line growing new (Err e) → SaysNoFile (input now) (ending_of now.answers) e
    next_refused new (none.Wrong wrong) moves (why, is, same) = rw same (next_is_wrong why moves is)
    next_refused new none.ReadFailed moves is = absurd is
    next_refused new none.NoMemory moves is = tt

    pub count_few : (result : Result (Unit {0}) LineFault) → Advances max_file_line old now result → count + 1 < 2 ^ 64
    count_few (Ok done) moves = omega (arith, taken.count_is, lines_long taken.front, taken.behind.bytes, moves.place, moves.bounded)
    count_few (Err fault) moves = omega (arith, taken.count_is, lines_long taken.front, taken.behind.bytes, moves.place, moves.bounded)
