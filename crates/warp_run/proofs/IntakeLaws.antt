-- What reading the site line and the hello behind it gives, by how lines are cut.
use Rattle.std.proofs.Common.{◌≡◌, ℕ, List, Option, Some, Ok, Err, refl, sym, subst, ◌∙◌, inl, inr}
use Rattle.serde_json.specs.Data.{Data}
use Rattle.byte_streams.specs.Answers.{Answer}
use Rattle.byte_streams.specs.Cutting.{ending_of, StopsAtEnd}
use Rattle.byte_streams.specs.Reading.{Reading, ReadsWhile, Advances, input}
use Rattle.byte_streams.specs.Writing.{CallWrites, WritesNothing}
use Rattle.byte_streams.specs.declared.fault.LineFault.{LineFault}
use Rattle.upload_reader.specs.Upload as upload
use Rattle.upload_reader.specs.declared.hello_fault.HelloFault.{HelloFault}
use Rattle.upload_reader.specs.declared.hello_fault.HelloFault.TheVariants as hello
use Rattle.site_line.specs.Site.{IsJsonOf, IsNoSite}
use Rattle.site_line.specs.declared.site.Site.{Site}
use Rattle.site_line.specs.declared.fault.SiteFault.{SiteFault}
use Rattle.site_line.specs.declared.fault.SiteFault.TheVariants as site_fault
use Rattle.warp_run.specs.Run.{site_line, max_site_bytes, HasBadSite, HasBadHello, HasFailedRead, Reads, ReadWhileUndecided, Meets, fresh_lines}
use Rattle.warp_run.specs.Intake.{SaysNoSite, IsBehindSite, bad_site, no_hello}
use Rattle.warp_run.specs.declared.status.Status.{Status}
use Rattle.warp_run.specs.declared.status.Status.TheVariants.{Done, BadSite, BadHello, OutOfMemory, InputOutput}
use Rattle.warp_run.proofs.NeededLaws.{goes_nowhere, line_later}

-- ---- the site line

same_value : (line : List ℕ) (d e : Data) → IsJsonOf line d → IsJsonOf line e → d ≡ e
same_value line d e is also = let same : Some d ≡ Some e = sym is.1 ∙ also.1 in cc

pub bad_refused : (bytes line : List ℕ) (ending : Option LineFault) (fault : SiteFault) → site_line bytes ending ≡ Some (Ok line)
    → (fault ≡ site_fault.NotJson → (d : Data) → IsJsonOf line d → ⊥)
    → (fault ≡ site_fault.BadMember → (d : Data) × IsJsonOf line d × IsNoSite d) → SaysNoSite (bad_site fault) bytes ending
bad_refused bytes line ending site_fault.NotJson is not_json bad_member = inr (line, is, λ site (d, json, of). not_json refl d json)
bad_refused bytes line ending site_fault.BadMember is not_json bad_member =
    let (d, json, none) = bad_member refl in
    inr (line, is, λ site (e, json', of). none site (rw (same_value line e d json' json) at of))
bad_refused bytes line ending site_fault.NoMemory is not_json bad_member = tt

-- the line that was cut of lines of which nothing was read
pub line_cut : {R : Type 0} (old new : Reading R) (line : List ℕ) → old ≡ fresh_lines old.first → Advances {A = Unit {0}} max_site_bytes old new (Ok tt) → line ≡ new.line
    → site_line (input new) (ending_of new.answers) ≡ Some (Ok line)
line_cut old new line fresh advances same =
    let from_none : Advances {A = Unit {0}} max_site_bytes (fresh_lines old.first) new (Ok tt) = subst (λ l. Advances max_site_bytes l new (Ok tt)) fresh advances in
    rw same (from_none.tells refl)

-- why there is nothing to report
abbrev pub IsRefused : Status → List ℕ → Option LineFault → Type 0
IsRefused BadHello input ending = HasBadHello input ending
IsRefused status input ending = SaysNoSite status input ending

pub is_refused : (status : Status) (bytes : List ℕ) (ending : Option LineFault) → SaysNoSite status bytes ending → IsRefused status bytes ending
is_refused BadHello bytes ending holds = absurd holds
is_refused other bytes ending holds = holds

-- ---- the reader is given back

module _ {R : Type 0} (was_read : List Answer → Type 0) (lines : Reading R) (told : was_read lines.answers) (needed : ReadWhileUndecided lines.answers)
    (ends : StopsAtEnd lines.answers) where
  pub given_back : (P : List ℕ → Option LineFault → Type 0) → P (input lines) (ending_of lines.answers) → Reads was_read ReadWhileUndecided P
  given_back P holds = record { more = lines.answers; told = told; needed = needed; ends = ends; holds = holds }

  pub refused_meets : (status : Status) → IsRefused status (input lines) (ending_of lines.answers) → (writes : CallWrites) → WritesNothing writes → Meets was_read writes status
  refused_meets InputOutput holds writes nothing = inl (nothing, given_back HasFailedRead holds)
  refused_meets BadSite holds writes nothing = (nothing, given_back HasBadSite holds)
  refused_meets BadHello holds writes nothing = (nothing, given_back HasBadHello holds)
  refused_meets OutOfMemory holds writes nothing = inl nothing
  refused_meets Done holds writes nothing = absurd holds

-- ---- the upload behind the site line

module _ {R : Type 0} (lines : Reading R) (site : Site) (at_site : IsBehindSite lines site) (new : Reading R) where
  bad_hello : (count : ℕ) (fault : HelloFault) → ReadsWhile (upload.NotGreeted lines.place) lines new
      → upload.Greets lines.place new (record { lines = count; answer = Err fault }) → HasBadHello (input new) (ending_of new.answers)
  bad_hello count fault reads greets = (
    fault,
    record {
      line = lines.line;
      cut_is = line_later lines site at_site new reads;
      site = at_site.plain;
      site_is = at_site.site_is;
      lines = count;
      begins = rw at_site.place at (greets (input new) (ending_of new.answers) (goes_nowhere (input new) _));
    },
  )

  pub hello_refused : (fault : HelloFault) → upload.Refuses lines new fault → IsRefused (no_hello fault) (input new) (ending_of new.answers)
  hello_refused hello.NoMemory why = tt
  hello_refused fault why = bad_hello why.lines fault why.reads (why.greets at_site.fault (λ e. cc))
