use Rattle.std.proofs.Common.{ℕ, List, [], ◌∷◌, length, map, filter_map, Some, eqb, sym, ap, ◌∙◌, lit<}
use Rattle.std.proofs.lemmas.Iterator.Consumers.{YieldsList-so_far, YieldsList-turn, YieldsList-end, YieldsList-at}
use Rattle.std.proofs.lemmas.Iterator.Splits.{YieldsList-from_str_split}
use Rattle.std.proofs.lemmas.List.{map-append}
use Rattle.std.specs.List.{slice_split}
use Rattle.collect_http.specs.Asking.{name_in_part}
use Rattle.collect_http.proofs.Parts.{at_place, none_more, first_is, first_none}
use Rattle.collect_http.proofs.cookie.client_in.Goals as goal
use denote.Ref.{Bor}

abbrev seen : List (Bor (List ℕ)) → List (List ℕ)
seen parts = map (λ (x : Bor (List ℕ)). x.now) parts

pub returns-in-Ok : goal.returns-in-Ok
returns-in-Ok c =
    let all = slice_split (λ b. eqb b 59) c.args.field.now in
    let road = YieldsList-at c.into_iter-part-iterator.ensures.into_iter_gives (YieldsList-from_str_split 59 c.args.field.now (lit< tt) c.split-part-items.ensures.text c.split-part-items.ensures.has_more c.split-part-items.ensures.pattern) in
    let so_far = YieldsList-so_far road c.loop-part.yielded _ c.loop-part.yielded_by in
    let turn = YieldsList-turn road c.loop-part.yielded _ c.loop-part.yielded_by _ _ c.in-Some.part c.in-Some.is c.next.ensures.steps in
    ap Some c.in-Ok.ensures ∙ sym (first_is name_in_part all (seen c.loop-part.yielded) _ c.in-Some.part.now c.in-Some-name_in_part.name.now
    (at_place all (seen c.loop-part.yielded) (length c.loop-part.yielded) c.in-Some.part.now so_far turn.0 turn.1) c.loop-part.invariant.none (sym c.in-Some-name_in_part.ensures))

pub loop-part-preserved : goal.loop-part-preserved
loop-part-preserved c = record {
  next = tt;
  finite = tt;
  none = ap (filter_map name_in_part) (map-append (λ (x : Bor (List ℕ)). x.now) c.loop-part.yielded (c.in-Some.part ∷ []))
      ∙ none_more name_in_part (seen c.loop-part.yielded) c.in-Some.part.now c.loop-part.invariant.none (sym c.in-None-name_in_part.ensures);
}

pub returns : goal.returns
returns c =
    let all = slice_split (λ b. eqb b 59) c.args.field.now in
    let road = YieldsList-at c.into_iter-part-iterator.ensures.into_iter_gives (YieldsList-from_str_split 59 c.args.field.now (lit< tt) c.split-part-items.ensures.text c.split-part-items.ensures.has_more c.split-part-items.ensures.pattern) in
    let end = YieldsList-end road c.loop-part.yielded _ c.loop-part.yielded_by _ _ c.in-None.is c.next.ensures.steps in
    sym (first_none name_in_part all (seen c.loop-part.yielded) (sym end.0) c.loop-part.invariant.none)
