use Rattle.std.proofs.Common.{◌≡◌, ◌++◌, drop}
use Rattle.std.specs.List.{flat_map}
use Rattle.review_lists.specs.UploadList.{upload_entry}
use Rattle.review_lists.proofs.upload_list.add_uploads_at.Given as goal

abbrev pub invariant-loop-place : goal.invariant-loop-place
invariant-loop-place l = let entries = upload_entry l.told in
    l.out.items ++ flat_map entries (drop l.place-index l.places) ≡ l.initial.out.items ++ flat_map entries l.places
