use Rattle.std.proofs.Common.{ℕ, List, [], ◌∷◌, map, filter_map, bytes_eq, sym, ap, ◌∙◌, lit<}
use Rattle.std.proofs.lemmas.Iterator.Consumers.{YieldsList-end, YieldsList-at}
use Rattle.std.proofs.lemmas.Iterator.Splits.{YieldsList-from_str_split}
use Rattle.std.proofs.lemmas.List.{map-append}
use Rattle.indexmap.specs.IndexSet.{insert_all}
use Rattle.collect_http.specs.Asking.{visit_in_part}
use Rattle.collect_http.proofs.Parts.{one_inserted}
use Rattle.collect_http.proofs.asking.visits_of_query.Goals as goal
use denote.Ref.{Bor}

abbrev seen : List (Bor (List ℕ)) → List (List ℕ)
seen parts = map (λ (x : Bor (List ℕ)). x.now) parts

pub loop-part-preserved : goal.loop-part-preserved
loop-part-preserved c = record {
  next = tt;
  finite = tt;
  so_far = one_inserted visit_in_part (seen c.loop-part.yielded) c.in-Some.part.now _ _ c.loop-part.invariant.so_far c.in_ok-add_visit.ensures
      ∙ ap (λ xs. insert_all bytes_eq [] (filter_map visit_in_part xs)) (sym (map-append (λ (x : Bor (List ℕ)). x.now) c.loop-part.yielded (c.in-Some.part ∷ [])));
}

pub returns : goal.returns
returns c =
    let road = YieldsList-at c.into_iter-part-iterator.ensures.into_iter_gives (YieldsList-from_str_split 38 c.args.query.now (lit< tt) c.split-part-items.ensures.text c.split-part-items.ensures.has_more c.split-part-items.ensures.pattern) in
    let end = YieldsList-end road c.loop-part.yielded _ c.loop-part.yielded_by _ _ c.in-None.is c.next.ensures.steps in
    c.loop-part.invariant.so_far ∙ ap (λ a. insert_all bytes_eq [] (filter_map visit_in_part a)) end.0
