-- The names that several of the proofs by hand cite.
pub use Rattle.std.proofs.Common.{[], ◌∷◌, ◌++◌, Some, None, refl}
pub use Rattle.std.proofs.raw_atomic.Walks.{proved}
pub use base.Logic.{id⊢}
pub use base.Fml.{ftrue, flft}
pub use mir.Syntax.{named}
pub use mir.Val.{vunit, vstruct, vcons, vnil}
pub use types.Kit.{‵, raw, ◌⊛◌, ◌$◌, ◌∵◌, !, qed, done, move, keep, use1, split, join, fsplit3, feq_i, suffices, frame, group}
pub use types.Run.{enter, of_opd, unit_lit, no_more, and_then, returns}
pub use types.ByLocal.{alloc_all, pass_all, free_all, look_at, get, sets}
pub use denote.Ref.{MutRef, mut_vals, mut_Tells}
pub use denote.Signature.{plain}
pub use denote.Steps.{nothing, opens, closes}
pub use denote.Triple.Walked.{Stays, walk_of, says, stay_ref, Goes-ref, stay_none_slice, Goes-none_slice, ends_at}
