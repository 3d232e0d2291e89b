use Rattle.std.proofs.Common.{◌≡◌, ◌∷◌, sym, subst, ◌∙◌, rules}
use Rattle.std.proofs.lemmas.List.{nil_from_length}
use Rattle.std.specs.List.{AllByRecursion}
use Rattle.upload_reader.specs.Upload.{IsUntouched}
use Rattle.replay_folder.proofs.OwnLanesLaws.{IsMoving, none_moved, one_moved, all_moved}
use Rattle.replay_folder.proofs.own_lanes.move_out.Goals as goal

pub loop-upload-init : goal.loop-upload-init
loop-upload-init g c =
    let uploads = c.args.uploads.items in let clients = c.args.clients.now.entries in
    let all = sym c.into_iter-upload-iterator.ensures.into_iter_gives.0 in record {
      moving = subst (λ left. IsMoving c.args.quota clients uploads clients left c.in_ok-lanes.lanes.items) all (none_moved c.args.quota clients uploads c.requires.apart c.in_ok-lanes.lanes.items c.in_ok-lanes.ensures.items);
      untouched = subst (AllByRecursion IsUntouched) all c.requires.untouched;
    }

pub loop-upload-preserved : goal.loop-upload-preserved
loop-upload-preserved g c =
    let rest = c.loop-upload.upload-iterator.rest.items in
    let first : rest ≡ c.in-Some.upload ∷ c.next.new.self.rest.items = search rules in
    let moved = c.in_ok-move_lane.ensures in record {
      moving = one_moved c.args.quota c.args.clients.now.entries c.args.uploads.items c.loop-upload.clients.entries c.move_lane.new.clients.entries c.in-Some.upload c.next.new.self.rest.items rest c.loop-upload.lanes.items _ c.in_ok-move_lane.field-0
          first c.loop-upload.invariant.moving moved.lane moved.others moved.same c.in_ok-push.ensures.items;
      untouched = (subst (AllByRecursion IsUntouched) first c.loop-upload.invariant.untouched).1;
    }

pub returns-clause-lanes : goal.returns-clause-lanes
returns-clause-lanes g c =
    let rest = c.loop-upload.upload-iterator.rest in
    all_moved c.args.quota c.args.clients.now.entries c.args.uploads.items c.loop-upload.clients.entries rest.items c.loop-upload.lanes.items
    (nil_from_length rest.items (sym rest.ok.0 ∙ c.in-None.ensures.steps.0)) c.loop-upload.invariant.moving
