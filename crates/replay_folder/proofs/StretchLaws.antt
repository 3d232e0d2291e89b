-- What threads make of names, as they draw them.
use Rattle.std.proofs.Common.{◌≡◌, ℕ, List, [], ◌∷◌, ◌++◌, slice_get, Some, Result, Ok, Err, sym, subst}
use Rattle.std.specs.Prelude.{IfOk}
use Rattle.std.specs.List.{AllByRecursion}
use Rattle.std.specs.declared.io.Error.{Error}
use Rattle.byte_streams.specs.Answers.{Answer}
use Rattle.upload_reader.specs.Upload.{UploadState}
use Rattle.warp_server.specs.program.Callers.{IsGreeted}
use Rattle.shared_stock.specs.Slots.{AreMade, WasMade}
use Rattle.shared_stock.specs.declared.slots.Made.{Made}
use Rattle.shared_stock.proofs.MadeLaws.{Shares, was_made}
use Rattle.replay_folder.specs.declared.drawing.DrawnName.{DrawnName}
use Rattle.replay_folder.specs.declared.drawn_files.DrawnFile.{DrawnFile}
use Rattle.replay_folder.specs.declared.ends.UploadEnd.{UploadEnd}
use Rattle.replay_folder.specs.declared.names.Named.{Named}
use Rattle.replay_folder.specs.inside.{GreetsNamed}
use Rattle.replay_folder.specs.inside.Stretch.{AreFilesOf, IsDrawn, IsFileOf}
use Rattle.replay_folder.proofs.TakenFilesLaws.{all_append}

-- one more was made
pub made_more : {X : Type 0} (makes : ℕ → X → Type 0) (old new : List (Made X)) (made : Made X) → new ≡ old ++ made ∷ [] → makes made.number made.one → AreMade makes old → AreMade makes new
made_more makes old new made is here all = subst (AreMade makes) (sym is) (all_append (λ one. makes one.number one.one) old (made ∷ []) all (here, tt))

module _ {R : Type 0} (was_read : R → R → List Answer → Type 0) (opened : List ℕ → Result R Error → Type 0) where
  greeted_by : (named : Named) (said : Result (UploadState R) UploadEnd) → GreetsNamed was_read opened named said → IfOk said IsGreeted
  greeted_by named (Ok upload) greets = greets.3
  greeted_by named (Err end) greets = tt

  pub drawn_greeted : (names : List Named) (drawn : DrawnName R) → IsDrawn was_read opened names drawn → IfOk drawn.said IsGreeted
  drawn_greeted names drawn is = greeted_by is.one drawn.said is.greets

  pub files_made : (quota : ℕ) (names : List Named) (shares : Shares (DrawnFile R)) (files : List (DrawnFile R)) → AllByRecursion (λ share. IfOk share (λ made. AreMade (IsFileOf was_read opened quota names) made.items)) shares
      → ((number : ℕ) (file : DrawnFile R) → slice_get files number ≡ Some file → WasMade shares number file) → AreFilesOf was_read opened quota names files
  files_made quota names shares files all each number file at = was_made (IsFileOf was_read opened quota names) shares number file all (each number file at)
