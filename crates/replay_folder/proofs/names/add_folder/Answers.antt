use Rattle.std.proofs.Common.{map, ap, refl, subst, ◌++◌, ◌∙◌}
use Rattle.std.proofs.lemmas.Result.{on_ok_weaker}
use Rattle.std.specs.List.Sorted.{IsPermutation}
use Rattle.replay_folder.specs.Names.{in_folder}
use Rattle.replay_folder.specs.declared.names.Named.TheVariants.{File}
use Rattle.replay_folder.proofs.names.add_folder.Goals as goal

pub returns : goal.returns
returns c =
    on_ok_weaker c.add_names.result
    (λ longer. (
      map (λ name. File (in_folder c.args.folder.now name)) c.sorted-chosen.result.items,
      longer ∙ ap (λ names. c.args.all.now.items ++ map (λ name. File (in_folder c.args.folder.now name)) names) c.as_slice.ensures.value,
      record { chosen = c.sorted-chosen.result.items; same = subst (λ names. IsPermutation names c.sorted-chosen.result.items) c.in_ok-choose.ensures c.sorted-chosen.ensures.same; sorted = c.sorted-chosen.ensures.sorted; are = refl },
    ))
    c.add_names.ensures
