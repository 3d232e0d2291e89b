use Rattle.std.proofs.Common.{◌<◌, length, bytes_eq, inl, inr, sym, ap, subst, ◌∙◌, arith}
use Rattle.std.specs.List.{list_any}
use Rattle.std.proofs.lemmas.Result.{IfOk-weaker}
use Rattle.lanes_in_turn.specs.Round.{max_round_lanes}
use Rattle.replay_folder.specs.inside.Stretch.{HasRoomFor}
use Rattle.replay_folder.proofs.TakenFilesLaws.{is_no_whole, is_whole}
use Rattle.replay_folder.proofs.taken_round.hold_waiting.Goals as goal

pub returns-then-is_short-clause-told : goal.returns-then-is_short-clause-told
returns-then-is_short-clause-told g c =
    IfOk-weaker c.leave_unread.result _ _ (λ more leaves. inl (is_no_whole c.args.round.taken.status (sym c.is_short.ensures ∙ c.if-is_short.true), leaves)) c.leave_unread.ensures

pub returns-then-is_short-clause-few : goal.returns-then-is_short-clause-few
returns-then-is_short-clause-few g c =
    IfOk-weaker c.leave_unread.result _ _ (λ more leaves. subst (λ uploads. length uploads < max_round_lanes) (sym (leaves.uploads ∙ c.requires.none)) (omega arith)) c.leave_unread.ensures

pub returns-clause-told : goal.returns-clause-told
returns-clause-told g c =
    let room : HasRoomFor c.args.round c.args.upload = record {
      few = subst (λ uploads. length uploads < max_round_lanes) (sym c.requires.none) (omega arith);
      other = ap (list_any (λ one. bytes_eq c.args.upload.client one.client)) c.requires.none;
    } in
    IfOk-weaker c.hold_upload.result _ _ (λ more holds. inr (is_whole c.args.round.taken.status (sym c.is_short.ensures ∙ c.if-is_short.false), room, holds)) c.hold_upload.ensures
