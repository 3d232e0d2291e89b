use Rattle.std.proofs.Common.{◌≡◌, ◌<◌, [], List, ℕ, length, get_or, slice_range, string_bytes, sym, ◌∙◌, ap, subst, arith}
use Rattle.page_tree.specs.inside.Cuts.{texts_cut, IsCut, AreCuts, start_in}
use Rattle.page_tree.proofs.Cutting.{cut_at, cut_count}
use Rattle.page_tree.proofs.texts.Texts.get.Goals as goal

-- the cut of a text, by what the looks at the ends gave
looked : (joined ends : List ℕ) (texts : List (List ℕ)) (n start end : ℕ) → texts_cut 0 joined ends ≡ texts → AreCuts 0 joined ends → n < length texts
    → start ≡ start_in 0 ends n → end ≡ get_or ends n end → (slice_range joined start end ≡ get_or texts n []) × IsCut joined start end
looked joined ends texts n start end view are less begins stops =
    let there : n < length ends = omega (arith, less, ap length view, cut_count 0 joined ends) in
    let (same, is) = cut_at joined 0 ends n end are there in
    let last : get_or ends n end ≡ end = sym stops in (
      ap (λ s. slice_range joined s end) begins ∙ ap (slice_range joined (start_in 0 ends n)) stops ∙ sym same ∙ ap (λ ts. get_or ts n []) view,
      rw begins (subst (IsCut joined (start_in 0 ends n)) last is),
    )

pub start_in-start-requires : goal.start_in-start-requires
start_in-start-requires c =
    rw c.as_slice.ensures.value (omega (arith, c.requires, ap length c.self.view_is, cut_count 0 (string_bytes c.self.inside.joined) c.self.inside.ends.items))

pub index-end-requires : goal.index-end-requires
index-end-requires c = omega (arith, c.requires, ap length c.self.view_is, cut_count 0 (string_bytes c.self.inside.joined) c.self.inside.ends.items)

pub range-requires-clause-start_le_end : goal.range-requires-clause-start_le_end
range-requires-clause-start_le_end c =
    (looked (string_bytes c.self.inside.joined) c.self.inside.ends.items c.args.self.now c.args.number c.start_in-start.result c.index-end.result.now
    c.self.view_is c.self.invariant c.requires (rw (← c.as_slice.ensures.value) c.start_in-start.ensures) c.index-end.ensures).1.order

pub range-requires-clause-start_boundary : goal.range-requires-clause-start_boundary
range-requires-clause-start_boundary c =
    rw c.deref.ensures (λ _. (looked (string_bytes c.self.inside.joined) c.self.inside.ends.items c.args.self.now c.args.number c.start_in-start.result
    c.index-end.result.now c.self.view_is c.self.invariant c.requires (rw (← c.as_slice.ensures.value) c.start_in-start.ensures) c.index-end.ensures).1.starts)

pub range-requires-clause-end_boundary : goal.range-requires-clause-end_boundary
range-requires-clause-end_boundary c =
    rw c.deref.ensures (looked (string_bytes c.self.inside.joined) c.self.inside.ends.items c.args.self.now c.args.number c.start_in-start.result
    c.index-end.result.now c.self.view_is c.self.invariant c.requires (rw (← c.as_slice.ensures.value) c.start_in-start.ensures) c.index-end.ensures).1.ends

pub returns : goal.returns
returns c =
    rw (c.range.ensures.value, c.deref.ensures) (looked (string_bytes c.self.inside.joined) c.self.inside.ends.items c.args.self.now c.args.number
    c.start_in-start.result c.index-end.result.now c.self.view_is c.self.invariant c.requires (rw (← c.as_slice.ensures.value) c.start_in-start.ensures)
    c.index-end.ensures).0
