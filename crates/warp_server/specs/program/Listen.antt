-- What listening answers and writes, by what its file and its port gave: this project's own rules.
use Rattle.std.specs.Prelude.{◌≡◌, ℕ, List, [], ◌∷◌, Option, Some, Result, Ok, Err, ◌⊎◌}
use Rattle.std.specs.Net.Addr.{ipv4_octets}
use Rattle.std.specs.Net.Socket.{socket_ip, socket_port}
use Rattle.std.specs.IoError.{error_kind}
use Rattle.std.specs.declared.io.Error.{Error}
use Rattle.std.specs.declared.io.ErrorKind.{ErrorKind}
use Rattle.std.specs.declared.io.ErrorKind.TheVariants as error
use Rattle.std.specs.declared.net.ip_addr.IpAddr.TheVariants.{V4}
use Rattle.std.specs.declared.net.ipv4_addr.Ipv4Addr.{Ipv4Addr}
use Rattle.std.specs.declared.net.socket_addr.SocketAddr.{SocketAddr}
use Rattle.byte_streams.specs.Answers.{Answer}
use Rattle.byte_streams.specs.Reading.{MadeWhile, NoLineYet}
use Rattle.byte_streams.specs.Writing.{CallWrites, WritesNothing}
use Rattle.byte_streams.specs.declared.fault.LineFault.{LineFault}
use Rattle.site_line.specs.Site.{Site as PlainSite, IsSiteLine}
use Rattle.site_line.specs.Reading.{AnswersAs}
use Rattle.site_line.specs.declared.site.Site.{Site}
use Rattle.warp_run.specs.Intake.{SaysNoSite}
use Rattle.warp_run.specs.Run.{site_line, max_site_bytes, Reads}
use Rattle.warp_server.specs.program.Callers.{Sayings, Serves}
use Rattle.warp_server.specs.declared.program.call.Listening.{Listening}
use Rattle.warp_run.specs.declared.status.Status.{Status}
use Rattle.warp_run.specs.declared.status.Status.TheVariants.{OutOfMemory, InputOutput}

-- what it ends by where a file or a port can't be opened
abbrev pub unopened_status : ErrorKind → Status
unopened_status error.OutOfMemory = OutOfMemory
unopened_status kind = InputOutput

-- that port of 127.0.0.1, which only this machine reaches
abbrev pub IsLocal : ℕ → SocketAddr → Type 0
IsLocal port address = (socket_port address ≡ port)
    × ((ip : Ipv4Addr) × (socket_ip address ≡ V4 ip) × (ipv4_octets ip ≡ 127 ∷ 0 ∷ 0 ∷ 1 ∷ []))

-- ---- the file of the site

-- the first line says that site
abbrev pub SaysSite : Site → List ℕ → Option LineFault → Type 0
SaysSite site input ending = (line : List ℕ) × (site_line input ending ≡ Some (Ok line))
    × ((plain : PlainSite) × IsSiteLine line plain × AnswersAs site plain)

-- What was read of the file holds so. Each read was made where those before it held no first line yet, and none behind
-- the file's end.
abbrev pub ReadsFile : {F : Type 0} → (F → F → List Answer → Type 0) → F → (List ℕ → Option LineFault → Type 0) → Type 0
ReadsFile {F} was_read file P =
    Reads (λ reads. (now : F) × was_read file now reads) (MadeWhile (NoLineYet max_site_bytes 0) []) P

-- ---- listening

-- `opened` says what to open the file at a path gave, and `bound` which callers to listen at an address gave.
module _ {F C : Type 0} (opened : List ℕ → Result F Error → Type 0) (bound : SocketAddr → Result C Error → Type 0)
    (was_read : F → F → List Answer → Type 0) where
  -- the file at that path was opened, and what was read of it holds so
  abbrev pub ReadsSiteFile : List ℕ → (List ℕ → Option LineFault → Type 0) → Type 0
  ReadsSiteFile path P = (file : F) × opened path (Ok file) × ReadsFile was_read file P

  -- to listen at that port gave that
  abbrev pub Binds : ℕ → Result C Error → Type 0
  Binds port result = (address : SocketAddr) × IsLocal port address × bound address result

  -- why nothing is served: no file, no site in it, or no port; where memory is refused nothing is said
  abbrev pub IsUnopened : Listening → Status → Type 0
  IsUnopened listening status = (status ≡ OutOfMemory)
      ⊎ ((error : Error) × opened listening.site_file (Err error) × (status ≡ unopened_status (error_kind error)))
      ⊎ ReadsSiteFile listening.site_file (SaysNoSite status)
      ⊎ ((site : Site) × (error : Error) × ReadsSiteFile listening.site_file (SaysSite site)
      × Binds listening.port (Err error) × (status ≡ unopened_status (error_kind error)))

  -- Nothing is written where nothing is served. Else the site that the file says is served to those who come to the
  -- port, in as many lanes and rounds as were given.
  abbrev pub Listens : {R : Type 0} → Sayings C R → Listening → CallWrites → Status → Type 0
  Listens callers listening call status = (WritesNothing call × IsUnopened listening status)
      ⊎ ((site : Site) × (came now : C) × ReadsSiteFile listening.site_file (SaysSite site)
      × Binds listening.port (Ok came) × Serves callers site listening.lanes listening.rounds came now call status)
