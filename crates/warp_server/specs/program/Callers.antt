-- What serving answers and writes, by who came and what was given back: this project's own rules.
use Rattle.std.specs.Prelude.{◌≡◌, ◌≢◌, ℕ, ◌<◌, ◌≤◌, List, [], ◌∷◌, length, map, true, ◌⊎◌, ⊤}
use Rattle.std.specs.List.{AllByRecursion, Any, FoldsTo, filter_map}
use Rattle.byte_streams.specs.Answers.{Answer}
use Rattle.byte_streams.specs.Reading.{Reading}
use Rattle.byte_streams.specs.Writing.{CallWrites, Takes, TakesPart, WritesNothing}
use Rattle.upload_reader.specs.Upload.{UploadState, Begins, Refuses}
use Rattle.upload_reader.specs.declared.hello_fault.HelloFault.{HelloFault}
use Rattle.upload_reader.specs.declared.hello_fault.HelloFault.TheVariants.{NoMemory}
use Rattle.site_line.specs.Reading.{site_quota}
use Rattle.site_line.specs.declared.site.Site.{Site}
use Rattle.lanes_in_turn.specs.Round.{has_twice, clients_of}
use Rattle.lanes_in_turn.specs.declared.gathered.Gathered.{Gathered}
use Rattle.lanes_in_turn.specs.declared.gathered.LaneResult.{LaneResult}
use Rattle.lanes_in_turn.specs.declared.gathered.Stop.TheVariants as stops
use Rattle.warp_run.specs.Conclusion.{repaired_site, site_settled}
use Rattle.warp_server.specs.Headline.{HeadlineOfRounds}
use Rattle.warp_run.specs.Report.{report_text}
use Rattle.warp_run.specs.Run.{fresh_lines, IsReadOf}
use Rattle.warp_server.specs.Rounds.{GathersRound}
use Rattle.warp_run.specs.Shortage.{status_of}
use Rattle.warp_run.specs.declared.status.Status.{Status}
use Rattle.warp_run.specs.declared.status.Status.TheVariants.{Done, BadSite, BadHello, OutOfMemory, InputOutput}

-- What callers and their sources say of themselves, from the one to the other.
pub record Sayings (C R : Type 0) : Type 1 where
  -- just these reads were made of the source
  pub was_read : R → R → List Answer → Type 0
  -- someone came with that source
  pub brings : C → R → C → Type 0
  -- nobody came
  pub nobody : C → C → Type 0
  -- that source was given back
  pub takes : C → R → C → Type 0

abbrev pub sayings : {C R : Type 0} → (R → R → List Answer → Type 0) → (C → R → C → Type 0) → (C → C → Type 0)
    → (C → R → C → Type 0) → Sayings C R
sayings was_read brings nobody takes = record { was_read = was_read; brings = brings; nobody = nobody; takes = takes }

-- Callers that say nothing, as connections: no contract knows what came of them.
abbrev pub silent : {R : Type 0} → (R → R → List Answer → Type 0) → Sayings (Unit {0}) R
silent was_read = sayings was_read (λ _ _ _. ⊤) (λ _ _. ⊤) (λ _ _ _. ⊤)

-- ---- the sources of a round

-- the upload behind the hello that its source begins with
abbrev pub IsGreeted : {R : Type 0} → UploadState R → Type 0
IsGreeted upload = Begins (fresh_lines upload.lines.first) upload

-- the source doesn't begin with a hello
pub record BeginsBadly {R : Type 0} (told : R → R → List Answer → Type 0) (first : R) : Type 0 where
  pub read : Reading R
  pub fault : HelloFault
  pub refuses : Refuses (fresh_lines first) read fault
  pub not_memory : fault ≢ NoMemory
  pub now : R
  pub is_read : IsReadOf told first now read.answers

-- the uploads that these lanes hold
abbrev pub uploads_in : {R : Type 0} → List (List ℕ × LaneResult R) → List (UploadState R)
uploads_in entries = filter_map (λ entry. entry.1.upload) entries

-- its source was read as the upload tells
abbrev pub IsReadSo : {R : Type 0} → (R → R → List Answer → Type 0) → UploadState R → Type 0
IsReadSo {R} was_read upload = (now : R) × IsReadOf was_read upload.lines.first now upload.lines.answers

-- one round more, of which each upload was read so
abbrev pub RoundIsRead : {R : Type 0} → (R → R → List Answer → Type 0) → ℕ → Gathered R → List (UploadState R)
    → Gathered R → Type 0
RoundIsRead was_read quota earlier uploads gathered = (gathers : GathersRound quota earlier uploads gathered)
    × AllByRecursion (IsReadSo was_read) (uploads_in gathers.round.clients.entries)

module _ {C R : Type 0} (says : Sayings C R) where
  -- so many came, and these uploads begin with the hellos of their sources
  pub record CameWith (lanes : ℕ) (callers : C) (uploads : List (UploadState R)) (now : C) : Type 0 where
    pub count : length uploads ≡ lanes
    pub greeted : AllByRecursion IsGreeted uploads
    pub brought : FoldsTo says.brings callers (map (λ upload. upload.lines.first) uploads) now

  -- one of the sources doesn't begin with a hello; these sources aren't given back
  abbrev pub CameBadly : ℕ → C → C → Type 0
  CameBadly lanes callers now = (readers : List R) × (length readers ≡ lanes)
      × Any (BeginsBadly says.was_read) readers × FoldsTo says.brings callers readers now

  -- too few came; these sources aren't given back
  abbrev pub TooFewCame : ℕ → C → C → Type 0
  TooFewCame lanes callers now = (readers : List R) × (between : C) × (length readers < lanes)
      × FoldsTo says.brings callers readers between × says.nobody between now

  -- the upload's source was given back, read as the upload tells
  abbrev pub GivesBack : C → UploadState R → C → Type 0
  GivesBack callers upload now = (reader : R) × IsReadOf says.was_read upload.lines.first reader upload.lines.answers
      × says.takes callers reader now

  -- two uploads of a round are of one client, and all sources are given back
  abbrev pub ClientCameTwice : ℕ → C → C → Type 0
  ClientCameTwice lanes callers now = (uploads : List (UploadState R)) × (has_twice (clients_of uploads) ≡ true)
      × ((begun : C) × CameWith lanes callers uploads begun × FoldsTo GivesBack begun uploads now)

  -- why a round isn't made; where memory is refused nothing is said of the callers
  abbrev pub RoundFails : ℕ → C → C → Status → Type 0
  RoundFails lanes callers now BadHello = CameBadly lanes callers now ⊎ ClientCameTwice lanes callers now
  RoundFails lanes callers now OutOfMemory = Unit {0}
  RoundFails lanes callers now InputOutput = TooFewCame lanes callers now
  RoundFails lanes callers now other = ⊥

  -- One round more: these uploads were brought, taken to their ends behind what was gathered earlier, and the source of
  -- each given back.
  pub record MakesRound (quota lanes : ℕ) (callers : C) (earlier : Gathered R) (uploads : List (UploadState R))
      (gathered : Gathered R) (now : C) : Type 0 where
    pub begun : C
    pub came : CameWith lanes callers uploads begun
    pub gathers : GathersRound quota earlier uploads gathered
    pub back : FoldsTo GivesBack begun (uploads_in gathers.round.clients.entries) now

-- ---- serving on that site, by so many lanes a round and so many rounds

module _ {C R : Type 0} (says : Sayings C R) (site : Site) (lanes rounds : ℕ) (callers : C) where
  -- from these callers, before whom nothing was gathered, to those: these rounds, the last of them first
  abbrev pub MakesRounds : List (List (UploadState R)) → Gathered R → C → Type 0
  MakesRounds [] gathered now = (gathered.clients.entries ≡ []) × (gathered.stop ≡ stops.None) × (now ≡ callers)
  MakesRounds (uploads ∷ before) gathered now =
      (earlier : Gathered R) × (between : C) × MakesRounds before earlier between
      × MakesRound says (site_quota site) lanes between earlier uploads gathered now

  -- Nothing is served: behind fewer rounds, all whole, there is no further one, for that reason.
  pub record NoFurtherRound (now : C) (status : Status) : Type 0 where
    pub made : List (List (UploadState R))
    pub gathered : Gathered R
    pub between : C
    pub makes : MakesRounds made gathered between
    pub whole : status_of gathered ≡ Done
    pub fewer : length made < rounds
    pub why : RoundFails says lanes between now status

  -- all rounds were made, unless memory was refused in the last
  pub record MakesAll (gathered : Gathered R) (now : C) : Type 0 where
    pub made : List (List (UploadState R))
    pub makes : MakesRounds made gathered now
    pub few : length made ≤ rounds
    pub whole : status_of gathered ≡ Done → length made ≡ rounds

  -- that text reports what they gathered, repaired and settled, of which the server promises the headline
  pub record HasServed (now : C) (status : Status) (text : List ℕ) : Type 0 where
    pub gathered : Gathered R
    pub all : MakesAll gathered now
    pub status_is : status_of gathered ≡ status
    pub headline : HeadlineOfRounds (repaired_site site) (site_quota site) all.made gathered
        (site_settled site gathered)
    pub text_is : text ≡ report_text (site_settled site gathered)

  module _ (now : C) (call : CallWrites) where
    -- the text that goes with the status was written whole
    abbrev pub WritesServed : Status → Type 0
    WritesServed status = (text : List ℕ) × HasServed now status text × Takes call text 0

    -- else nothing was written, or a part of it from its front, and then a write failed or took nothing
    abbrev pub Serves : Status → Type 0
    Serves Done = WritesServed Done
    Serves BadHello = WritesNothing call × NoFurtherRound now BadHello
    Serves OutOfMemory = WritesNothing call ⊎ WritesServed OutOfMemory
    Serves InputOutput = (WritesNothing call × NoFurtherRound now InputOutput)
        ⊎ ((status : Status) × (text : List ℕ) × HasServed now status text × TakesPart call text)
    Serves BadSite = ⊥
