-- The names that the walks cite.
pub use Rattle.std.proofs.Common.{◌≡◌, Bool, true, false, nat_lt, cond, subst, lit<, ℕ, [], ◌∷◌, ◌++◌, refl, sym, w8, w16, w64}
pub use Rattle.std.proofs.raw_atomic.Walks.{proved}
pub use base.Fraction.{full_share}
pub use base.Logic.{ent, sep, id⊢}
pub use base.Fml.{Incl-refl, feq, ftrue, flft, flent, GName}
pub use mir.Syntax.{named}
pub use mir.Val.{vint, vptr}
pub use contract.Monad.{fact}
pub use contract.Running.{tables}
pub use prog.Wp.{WpFn}
pub use types.Kit.{‵, raw, ◌⊛◌, some, later, at_ret, ◌$◌, ◌∵◌, !, qed, done, move, keep, drop, use1, use2, use3, split, join, fsplit, fpack, feq_i, pick, await, rewrite, suffices, frame, group}
pub use types.SemTy.{Body}
pub use types.Tokens.{lft_new, lft_end, lent_back}
pub use types.Run.{enter, init, assigns, first, branches, skips, exec, returns_within, of_opd, lit, bin, addr, stop, no_more, and_then, returns}
pub use types.ByLocal.{alloc_all, pass_all, free_all, look_at, get, through, sets, lands_as, env}
pub use denote.Builtin.{usize, SliceRefOf, u8, u16, u32, u64}
pub use denote.Exit.{yes}
pub use denote.Laws.{Is, shows}
pub use denote.Lend.{lends_ref, ref_back, lends_shr}
pub use denote.Memory.{mem, part_at}
pub use denote.Plain.{uint_Makes, uint_vals, uint_Tells, uint_Lawful}
pub use denote.RawPtr.{Ptr, RawPtr, block_ptr, rawptr_vals, rawptr_Tells, rawptr_Lawful}
pub use denote.Ref.{MutRef, ShrRef}
pub use denote.Signature.{plain}
pub use denote.Steps.{nothing, owned, heard, peeks}
pub use denote.Triple.Call.{calls_at}
pub use denote.Triple.Clauses.{lasts}
pub use denote.Triple.Entry.{on_entry}
pub use denote.Triple.Spec.{triple_of}
pub use denote.Triple.Walked.{Stays, walk_of, says, stay_dropped, Goes-dropped, ends_at}
pub use denote.Triple.Table.{framed}
pub use denote.RattleType.{owns}
pub use denote.Slice.{ShrSlice, shr_slice_vals, shr_slice_Tells}
pub use borrow.Table.OneValue.{part_in}
pub use base.Logic.{via, guard_i}
pub use mir.Val.{Fits}
pub use types.Logic.{sem}
pub use denote.RawPtr.{null_ptr, Testable, tests_null}

-- what holds at null and at each place in a block holds at a pointer
pub at_each : (P : Ptr → Type 1) (p : Ptr) → P null_ptr → ((b o : ℕ) → P (block_ptr b o)) → P p
at_each P (block_ptr b o) null block = block b o
at_each P null_ptr null block = null
