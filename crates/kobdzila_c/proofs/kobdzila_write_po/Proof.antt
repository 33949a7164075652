-- `kobdzila_write_po`: the pointer becomes a `&` for the lifetime for which the catalogue is shared, `write_text` makes
-- the text, and it is moved into the caller's memory.
use Rattle.kobdzila_c.proofs.Kit.{List, [], ◌∷◌, ◌++◌, refl, ap, w32, id⊢, ‵, ◌⊛◌, ◌$◌, !, move, drop, use1, split}
use Rattle.kobdzila_c.proofs.Kit.{join, fsplit, fjoin, enter, of_opd, unit_lit, addr, init, stop, no_more, and_then}
use Rattle.kobdzila_c.proofs.Kit.{assigns, returns, alloc_all, pass_all, free_all, look_at, get, through, sets}
use Rattle.kobdzila_c.proofs.Kit.{lands_as, is, tables, Ptr, block_ptr, ptr_val, at_block, room_at, owns, types_at}
use Rattle.kobdzila_c.proofs.Kit.{nothing, heard, triple_of, framed, at, exported, blocks, ref_to, ref_vals, borrows}
use Rattle.kobdzila_c.proofs.Kit.{calls, Taken, slots, pointer, uint, allocator, front, out_of, with_out, fronted}
use Rattle.kobdzila_c.proofs.Kit.{stored_all, back, gives_to, heap_val}
use Rattle.std.proofs.Common.{nat_lt}
use Rattle.c_outputs.specs.declared.outputs.HeldOutput.{HeldOutput}
use Rattle.c_outputs.specs.Outputs.{IsPoText}
use Rattle.c_answers.specs.contracts.opened.Opened.{the_row as O}
use Rattle.c_outputs.specs.contracts.outputs.HeldOutput.{the_row as R}
use Rattle.c_outputs.proofs.outputs.HeldOutput.TheLaws.{the_row_laws}
use Rattle.kobdzila_c.specs.Shared.{reads}
use Rattle.kobdzila_c.specs.contracts.kobdzila_write_po as f
use Rattle.kobdzila_c.proofs.kobdzila_write_po.Statement.{statement}
use Rattle.kobdzila_c.proofs.kobdzila_write_po.Code as code
use Rattle.c_outputs.specs.contracts.write_text as g
use Rattle.c_outputs.proofs.write_text.Met.{met}

abbrev passed : List (Taken 0)
passed = uint w32 ∷ []

abbrev taken : List (Taken 0)
taken = allocator ∷ pointer ∷ passed ++ (pointer ∷ [])

pub kobdzila_write_po_spec : {M : Type 1} → statement M
kobdzila_write_po_spec 𝓤 𝓛 𝓜 𝓡 wired =
    let c = f.clauses 𝓛 𝓜.mem 𝓡.returns in let e = code.function in
    exported 𝓛 taken [] back c 𝓜 𝓡 e f.Key.name (code.unfolded 𝓤 𝓛.H 𝓜 𝓡 wired) (λ κs qs bounds a gh typed.
    let p = a.1.0 in let r = front κs passed a.1.1 in let out = out_of κs passed a.1.1 in
    let μ = gh.0 in let s = gh.1 in let x = gh.2 in let Has = λ (t : HeldOutput). IsPoText (nat_lt 0 r.0) x t in
    let y = λ (t : Ptr). at 𝓛 taken [] back c κs qs bounds (a.0, (p, with_out κs passed r t)) gh in
    use1 𝓛 (‵ (reads μ s p x) ⊛ ‵ (room_at R out)) (id⊢ 𝓤 _) $ split ! $ fsplit ! $ borrows ! O p x (λ in_block.
    -- [the catalogue; the token of μ; the room; the tokens; the arguments]
    move ! (4 ∷ []) $ fsplit ! $ move ! (1 ∷ []) $ fsplit ! $ drop ! $
    use1 𝓛 (‵ (owns (types_at (slots passed) κs) r (stored_all κs passed r))) (fronted 𝓛 κs passed a.1.1) $
    move ! (2 ∷ 0 ∷ []) $ fjoin ! $ move ! (1 ∷ 0 ∷ []) $ fjoin ! $
    -- [the arguments; the token of μ; the room; the tokens]
    move ! (2 ∷ []) $ blocks 𝓛 taken [] back c 𝓜 𝓡 e (λ t. room_at R t) (id⊢ 𝓤 _) y out typed (λ b o typed.
    move ! (2 ∷ 3 ∷ []) $ join ! $ move ! (0 ∷ 2 ∷ []) $
    enter ! _ _ _ _ _ $ alloc_all ! (λ l. pass_all ! refl typed $
    sets ! (of_opd ! (get ! refl)) refl (tt, tt) $
    sets ! (is ! (of_opd ! (get ! refl)) (ap ptr_val (at_block p in_block))) refl (tt, tt) $
    sets ! (addr ! (through ! refl (stop !))) refl (tt, tt) $
    let G = triple_of 𝓛 g.signature (g.spec 𝓛 𝓜.mem 𝓡.returns) in
    let z : G.Ghost = (
      (
        (μ, κs),
        (s, qs),
        tt,
        (a.0, (ref_to p x, r)),
        (
          heap_val ∷ [],
          (
            ref_vals p,
            stored_all κs passed
                r,
          ),
        ),
      ),
      tt,
    ) in
    nothing ! $ calls ! (framed 𝓤 𝓛.H 𝓜 (tables 𝓤 𝓛.H 𝓜 𝓡 𝓡.env)) g.ended (g.clauses 𝓛 𝓜.mem 𝓡.returns) (met 𝓤 𝓛 𝓜 𝓡
    (code.calls-c_outputs::write_text 𝓡.env wired)) z ((the_row_laws).lawful 𝓛) refl refl refl (and_then ! (get ! refl)
    (and_then ! (get ! refl) (and_then ! (get ! refl) (no_more !)))) (λ v t w ok. heard ! (Has t) (λ has.
    lands_as ! refl refl ok.0 $ assigns ! (of_opd ! (get ! refl)) (through ! refl (stop !)) (init ! 2 refl ok.0) $
    sets ! (of_opd ! (unit_lit !)) refl (tt, tt) $ returns ! (look_at ! 0 refl) $ free_all ! refl $
    gives_to 𝓛 taken c (y (block_ptr b o)) R refl Has t has b o refl))))))
