-- A round whose lanes were taken is closed: its names are told, and its logs are put among those of all clients.
use Rattle.std.proofs.Common.{◌≡◌, ℕ, List, [], ◌++◌, map, bytes_eq, inl, inr, refl, sym, ap, subst, ◌∙◌}
use Rattle.std.specs.List.{AllByRecursion}
use Rattle.indexmap.specs.IndexMap.{get}
use Rattle.byte_streams.specs.Answers.{Answer}
use Rattle.lanes_in_turn.specs.Round.{clients_of}
use Rattle.lanes_in_turn.specs.declared.gathered.Gathered.{Gathered}
use Rattle.lanes_in_turn.specs.declared.gathered.LaneResult.{LaneResult}
use Rattle.warp_run.specs.Shortage.{status_of}
use Rattle.warp_run.specs.declared.status.Status.TheVariants.{Done}
use Rattle.replay_folder.specs.inside.{AreHeld, Closes, IsOwnRound, IsSameBehind, KeepsLogs, held_end}
use Rattle.replay_folder.specs.inside.Stretch.{PutsRound}
use Rattle.replay_folder.specs.declared.open_round.OpenRound.{OpenRound}
use Rattle.replay_folder.specs.declared.open_round.TakenFiles.{TakenFiles}
use Rattle.replay_folder.proofs.OwnRoundLaws.{held_same, same_round}

module _ {R : Type 0} (was_read : R → R → List Answer → Type 0) (quota : ℕ) (round : OpenRound R) (taken : TakenFiles R) (held : AreHeld round) where
  abbrev before : Gathered R
  before = round.taken.gathered

  -- of no upload
  pub nothing_closed : round.uploads.items ≡ [] → taken.gathered ≡ before → taken.status ≡ round.taken.status → taken.ends.items ≡ round.taken.ends.items ++ map (held_end before) round.held.items
      → Closes was_read quota round taken
  nothing_closed none same status_same told = λ earlier keeps status.
      let said = held_same before earlier held.said
      (subst (AllByRecursion (λ upload. get bytes_eq before.clients upload.client ≡ get bytes_eq earlier.clients upload.client)) (sym none ∙ held.uploads) tt) in record {
        gathered = earlier;
        keeps = subst (λ kept. KeepsLogs kept earlier) (sym same) keeps;
        status = status_same ∙ status;
        takes = inl (none, refl);
        told = told ∙ ap (λ ends. round.taken.ends.items ++ ends) (ap (map (held_end before)) held.held ∙ said ∙ ap (map (held_end earlier)) (sym held.held));
      }

  -- of some that were taken behind the logs of their own clients
  pub round_closed : (own : Gathered R) (hollow : List (List ℕ × LaneResult R)) → round.taken.status ≡ Done → IsOwnRound was_read quota (get bytes_eq before.clients) round.uploads.items own
      → IsSameBehind (clients_of round.uploads.items) before.clients.entries hollow → PutsRound hollow round.taken.ends.items round.held.items own taken → Closes was_read quota round taken
  round_closed own hollow whole is same put = λ earlier keeps status.
      let done : status_of earlier ≡ Done = sym status ∙ whole in
      let all = same_round was_read quota before earlier own taken.gathered hollow round.uploads.items keeps done is same put.entries put.stop in
      let said = held_same own all.gathered held.said
      (subst (AllByRecursion (λ upload. get bytes_eq own.clients upload.client ≡ get bytes_eq all.gathered.clients upload.client)) held.uploads all.found) in record {
        gathered = all.gathered;
        keeps = all.keeps;
        status = put.status ∙ all.status;
        takes = inr all.read;
        told = put.told ∙ ap (λ ends. round.taken.ends.items ++ ends) (ap (map (held_end own)) held.held ∙ said ∙ ap (map (held_end all.gathered)) (sym held.held));
      }
