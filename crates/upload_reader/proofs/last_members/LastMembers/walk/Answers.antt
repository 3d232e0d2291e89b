use Rattle.std.proofs.Common.{◌≡◌, refl, ap, sym, ◌∙◌, subst}
use Rattle.std.specs.List.{AllByRecursion}
use Rattle.serde_json.specs.Data.{object, no_members, put}
use Rattle.serde_json.specs.Find.{get}
use Rattle.json_document.specs.Standing.{data_of, put_all}
use Rattle.upload_reader.specs.inside.Walked.{named_members, AreLastMembers}
use Rattle.upload_reader.proofs.Walked.{put_found}
use Rattle.upload_reader.proofs.last_members.LastMembers.walk.Goals as goal

pub loop-name-init : goal.loop-name-init
loop-name-init c = (no_members, c.none-last.ensures, refl)

pub loop-name-preserved : goal.loop-name-preserved
loop-name-preserved c =
    let name = c.in-Some.name.now in
    let d = data_of c.in-Some.place in
    let done = c.loop-name.invariant.0 in (
      put name d done,
      subst (AllByRecursion (λ f. f.1 ≡ get f.0 (object (put name d done)))) (sym c.put.ensures) (put_found name d done (named_members c.loop-name.last) c.loop-name.invariant.1),
      ap (λ pairs. put_all pairs done) (sym c.in-Some.ensures.value) ∙ c.loop-name.invariant.2,
    )

pub returns : goal.returns
returns c = subst (λ ms. AreLastMembers (object ms) c.loop-name.last) (ap (λ pairs. put_all pairs c.loop-name.invariant.0) (sym c.in_default.ensures.value) ∙ c.loop-name.invariant.2) c.loop-name.invariant.1
