-- What the walks of the exports are written in.
pub use Rattle.std.proofs.Common.{◌≡◌, ◌≤◌, ℕ, List, [], ◌∷◌, ◌++◌, refl, ap, w8, w32, w64}
pub use base.Fraction.{full_share}
pub use base.Logic.{id⊢}
pub use base.Fml.{ftrue, flft, froom}
pub use mir.Syntax.{named}
pub use types.Kit.{‵, raw, ◌⊛◌, ◌$◌, !, move, drop, use1, split, join, fsplit, fjoin}
pub use types.Run.{enter, of_opd, unit_lit, addr, init, load, look, stop, no_more, and_then, assigns, returns}
pub use types.ByLocal.{alloc_all, pass_all, free_all, look_at, get, through, sets, lands_as, is}
pub use contract.Monad.{fact}
pub use contract.Running.{tables}
pub use denote.Builtin.{u8}
pub use denote.Memory.{lone}
pub use denote.RawPtr.{Ptr, block_ptr, ptr_val, at_block, lies_at, room_at}
pub use denote.Ref.{Bor}
pub use denote.RattleType.{owns}
pub use denote.Signature.{types_at}
pub use denote.Slice.{shr_slice_vals, shr_slice_Lawful}
pub use denote.Plain.{uint_Lawful, uint_vals, Nothing-Lawful}
pub use denote.Steps.{nothing, heard}
pub use denote.Triple.Entry.{alive}
pub use denote.Triple.Spec.{triple_of}
pub use denote.Triple.Table.{framed}
pub use Rattle.kobdzila_c.proofs.Export.{at, exported, blocks}
pub use Rattle.kobdzila_c.proofs.Steps.{ref_to, ref_vals, borrows, reads_out, written, calls}
pub use Rattle.kobdzila_c.proofs.Taken.{Taken, slots, pointer, uint, slice, allocator, front, out_of, with_out, fronted}
pub use Rattle.kobdzila_c.proofs.Taken.{stored_all, back, word}
pub use Rattle.kobdzila_c.proofs.Walks.{looks, looks_to, points, gives, gives_made, gives_to, returns_any, returns_said}
pub use Rattle.std_heap.proofs.Handle.{heap_val}
