-- What the next line of some bytes is, and what a search for it keeps, read by read.
use Rattle.std.proofs.Common.{◌≡◌, ℕ, ◌<◌, ◌≤◌, List, length, take, option_map, Option, Some, None, Ok, Err, refl, ap, ◌∙◌, arith, ◌++◌, ◌+◌, ◌-◌, ◌*◌, drop, length-take, length-drop}
use Rattle.byte_streams.specs.Cutting.{cut, cut_by, line_length, ending_of}
use Rattle.byte_streams.specs.declared.fault.LineFault.{LineFault}
use Rattle.byte_streams.specs.declared.fault.LineFault.TheVariants.{LineTooLong}
use Rattle.std.proofs.lemmas.List.{drop-append-le}
use Rattle.byte_streams.specs.Answers.{Answer, bytes_of}
use Rattle.byte_streams.specs.Reading.{Reading, input, uncut_bytes, ReadsWhile, NoLineYet, StopsLine, Advances}
use Rattle.byte_streams.proofs.Feeds.{before_feed, no_feed, no_less_before, line_ends}
use Rattle.byte_streams.proofs.ReadingLaws.{bytes_of-append, reads_then, reads_none}

-- a line end within the limit: the line before it, whatever comes later
pub cut_line : (limit : ℕ) (bytes : List ℕ) (ending : Option LineFault) (n : ℕ) → line_length limit bytes ≡ Some n → cut limit bytes ending ≡ Some (Ok (take n bytes))
unfolding cut
cut_line limit bytes ending n h = ap (λ found. cut_by found limit bytes ending) h

-- none, and more bytes than the limit
pub cut_too_long : (limit : ℕ) (bytes : List ℕ) (ending : Option LineFault) → line_length limit bytes ≡ None → limit < length bytes → cut limit bytes ending ≡ Some (Err LineTooLong)
unfolding cut
cut_too_long limit bytes ending none long = ap (λ found. cut_by found limit bytes ending) none ∙ grind arith

-- none, and no more bytes than the limit: the ending decides
pub cut_by_ending : (limit : ℕ) (bytes : List ℕ) (ending : Option LineFault) → line_length limit bytes ≡ None → length bytes ≤ limit → cut limit bytes ending ≡ option_map (λ fault. Err fault) ending
unfolding cut
cut_by_ending limit bytes ending none short = ap (λ found. cut_by found limit bytes ending) none ∙ grind arith

-- ---- a search

-- what was searched and held no line end holds none in front of what came later
pub still_none : {R : Type 0} (Undecided : List Answer → Type 0) (limit : ℕ) (old new : Reading R) → old.place ≤ length (input old) → new.place ≡ old.place → ReadsWhile Undecided old new
    → line_length limit (uncut_bytes old) ≡ None → length (uncut_bytes old) ≤ limit → length (uncut_bytes old) ≤ before_feed (uncut_bytes new)
still_none Undecided limit old new within place reads none short =
    let grown : uncut_bytes new ≡ uncut_bytes old ++ bytes_of reads.more = rw (place, reads.answers, bytes_of-append old.answers reads.more) (drop-append-le old.place (input old) (bytes_of reads.more) within) in
    rw grown (omega (arith, no_feed limit (uncut_bytes old) none short, no_less_before (uncut_bytes old) (bytes_of reads.more)))

-- the next read was needed: what came before it held no line
pub reads_for_line : {R : Type 0} (limit : ℕ) (old now new : Reading R) → now.place ≡ old.place → line_length limit (uncut_bytes now) ≡ None → length (uncut_bytes now) ≤ limit
    → ReadsWhile (NoLineYet limit old.place) old now → ReadsWhile (λ answers. answers ≡ now.answers) now new → ReadsWhile (NoLineYet limit old.place) old new
reads_for_line limit old now new place none short before then =
    reads_then (NoLineYet limit old.place) (λ answers. answers ≡ now.answers) old now new (λ rest same. rw (same, ← place) (cut_by_ending limit (uncut_bytes now) None none short)) before then

-- the input ended where no line was found
pub refuses_ending : {R : Type 0} (limit : ℕ) (now new : Reading R) (fault : LineFault) (ending : Option LineFault) → new.place ≡ now.place → line_length limit (uncut_bytes now) ≡ None → length (uncut_bytes now) ≤ limit
    → input new ≡ input now → StopsLine fault (option_map (λ fault. Err fault) ending) → StopsLine fault (cut limit (uncut_bytes new) ending)
refuses_ending limit now new fault ending place none short same ends = rw (place, same, cut_by_ending limit (uncut_bytes now) ending none short) ends

-- ---- a line that was found and cut

-- the line that was found is the next one, and the place is behind it
pub advanced : {R : Type 0} (limit : ℕ) (old now new : Reading R) (count : ℕ) → old.fault ≡ None → ReadsWhile (NoLineYet limit old.place) old now → now.place ≡ old.place
    → line_length limit (uncut_bytes now) ≡ Some count → new.first ≡ now.first → new.answers ≡ now.answers → new.line ≡ take count (uncut_bytes now) → new.place ≡ length (input new) - length (drop (count + 1) (uncut_bytes now)) → new.fault ≡ None
    → length (input new) ≤ 8192 * 1048576 → Advances {A = Unit {0}} limit old new (Ok tt)
advanced limit old now new count none reads place found first answers line at fault bound =
    let (at_feed, within, short) = line_ends limit count (uncut_bytes now) found in
    let same_input : length (input new) ≡ length (input now) = ap (λ answers. length (bytes_of answers)) answers in
    record {
      reads = reads_then (NoLineYet limit old.place) (NoLineYet limit old.place) old now new (λ rest undecided. undecided) reads (reads_none (NoLineYet limit old.place) now new first answers);
      tells = λ _. rw (answers, ← place, cut_line limit (uncut_bytes now) (ending_of now.answers) count found, line) refl;
      place = omega (arith, at, ap length line, length-take count (uncut_bytes now), length-drop (count + 1) (uncut_bytes now), length-drop now.place (input now), within);
      fault = fault;
      again = rw none tt;
      bounded = omega (arith, at, bound);
    }
