-- A value of no bytes is made, at the values that the caller picked. Nothing is read of what was passed. Assumes `Logic`.
use Rattle.std.proofs.Common.{[], ◌∷◌, refl}
use Rattle.std.proofs.raw_atomic.Walks.{proved}
use mir.Syntax.{a_type, named}
use mir.Val.{Val, vstruct, vcons, vnil}
use mir.MapTy.{inst_fn}
use types.Kit.{‵, raw, ◌⊛◌, ◌$◌, ◌∵◌, !, qed, done, move, keep, split, join, suffices}
use types.Part.{agg}
use types.Run.{enter, no_more, and_then, returns}
use types.ByLocal.{alloc_all, pass_all, free_all, look_at, get, sets}
use denote.Exit.{yes}
use denote.Param.{param, layouts}
use denote.RattleType.{RattleType, owns}
use denote.Ref.{shr_vals, shr_Tells}
use denote.Shadow.{pure_i}
use denote.Signature.{plain, shr_ref_to, types_at}
use denote.Steps.{nothing}
use denote.Triple.Entry.{alive}
use denote.Triple.Walked.{Stays, walk_of, says, stay_dropped, Goes-dropped, ends_at}
use Rattle.upload_reader.specs.contracts.trace.Trace.{the_row}
use Rattle.upload_reader.specs.contracts.trace.Trace.holding as f
use Rattle.upload_reader.proofs.trace.Trace.holding.Statement.{statement}
use Rattle.upload_reader.proofs.trace.Trace.holding.Code as code

-- the struct as the machine has it: one field, which has none
abbrev stored : Val
stored = vstruct (vcons (vstruct vnil) vnil)

pub holding_spec : {M : Type 1} → statement M
holding_spec 𝓤 𝓛 𝓜 𝓡 wired T U V LT LU LV =
    let at = layouts (a_type ∷ a_type ∷ a_type ∷ []) (T, (U, (V, tt))) in
    let R : RattleType = the_row (param 0 T) in let P : RattleType = param 1 U in let Q : RattleType = param 2 V in
    let before = shr_ref_to (0 ∷ []) tt (plain (λ _. P)) in let item = shr_ref_to (1 ∷ []) tt (plain (λ _. Q)) in
    let E = f.ended T U V in let c = f.clauses T U V 𝓛 𝓜.mem 𝓡.returns in
    let hs : Stays E.signature.params E.kept = (stay_dropped before yes, (stay_dropped item yes, tt)) in
    let W = walk_of 𝓛 E hs c in
    proved 𝓛 E hs c 𝓜 𝓡 (Goes-dropped 𝓛 5 before yes (λ κs x w. refl), (Goes-dropped 𝓛 5 item yes (λ κs x w. refl), tt))
    (f.Key.name at) (inst_fn at code.function) (code.unfolded 𝓤 𝓛.H 𝓜 𝓡 wired (T, (U, (V, tt))))
    (λ κs. (shr_vals, (shr_vals, tt))) (λ κs. (shr_Tells (named 0) κs.0 P, (shr_Tells (named 1) κs.1.0 Q, tt))) (λ κs qs bounds a values _.
    let y : W.Ghost = ((κs, qs, bounds, a, (shr_vals a.0, (shr_vals a.1.0, tt))), values) in
    let made : R.Denot = record { of = record {}; items = values } in
    qed 𝓛 ((raw (alive 𝓛 E.signature κs qs) ⊛ ‵ (owns (types_at E.signature.params κs) a y.0.4)) ∷ raw ((c κs a).requires values) ∷ []) ∵
    split ! $ keep ! (0 ∷ []) $
    enter ! _ _ _ _ _ $ alloc_all ! (λ l. pass_all ! refl ((tt, tt), ((tt, tt), tt)) $
    sets ! (agg ! (no_more !)) refl (tt, tt) $ sets ! (agg ! (and_then ! (get ! refl) (no_more !))) refl (tt, (tt, tt)) $
    returns ! (look_at ! 0 refl) $ free_all ! refl $
    pure_i ! (R.own_val made (stored ∷ [])) ((λ vss. (tt, ((λ uss. (tt, tt)), tt))), tt) (((vstruct vnil ∷ [], tt), (refl, ((tt, (refl, tt)), tt))), tt) $
    suffices ! _ (ends_at 𝓛 E hs c y stored made (tt, (tt, tt)) (tt, (tt, tt))) $ says ! refl $
    nothing ! $ nothing ! $ join ! $ nothing ! $ join ! $ move ! (2 ∷ 0 ∷ 1 ∷ []) $ done !))
