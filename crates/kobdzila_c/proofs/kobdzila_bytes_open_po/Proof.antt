-- `kobdzila_bytes_open_po`: what was handed over is moved out of the caller's memory, `open_handed_po` opens it, and
-- the catalogue is moved back.
use Rattle.kobdzila_c.proofs.Kit.{List, [], ◌∷◌, ◌++◌, refl, full_share, w32, id⊢, froom, ‵, ◌$◌, !, move, drop, use1}
use Rattle.kobdzila_c.proofs.Kit.{fsplit, fjoin, enter, of_opd, unit_lit, init, load, look, stop, no_more, and_then}
use Rattle.kobdzila_c.proofs.Kit.{assigns, returns, alloc_all, pass_all, free_all, look_at, get, through, sets}
use Rattle.kobdzila_c.proofs.Kit.{lands_as, tables, lone, Ptr, block_ptr, lies_at, nothing, heard, triple_of, framed}
use Rattle.kobdzila_c.proofs.Kit.{at, exported, reads_out, calls, Taken, pointer, uint, allocator, front, with_out}
use Rattle.kobdzila_c.proofs.Kit.{back, points, gives_made, heap_val, uint_vals}
use Rattle.c_answers.specs.declared.opened.Opened.{Opened}
use Rattle.std.proofs.Common.{nat_lt}
use Rattle.c_opening.specs.Handing.{IsOpenedHandedPo}
use Rattle.c_opening.specs.Opening.{options_of}
use Rattle.c_answers.specs.contracts.opened.Opened.{the_row as R}
use Rattle.c_answers.proofs.opened.Opened.TheLaws.{the_row_laws}
use Rattle.kobdzila_c.specs.contracts.kobdzila_bytes_open_po as f
use Rattle.kobdzila_c.proofs.kobdzila_bytes_open_po.Statement.{statement}
use Rattle.kobdzila_c.proofs.kobdzila_bytes_open_po.Code as code
use Rattle.c_opening.specs.contracts.open_handed_po as g
use Rattle.c_opening.proofs.open_handed_po.Met.{met}

abbrev passed : List (Taken 0)
passed = allocator ∷ uint w32 ∷ uint w32 ∷ uint w32 ∷ uint w32 ∷ []

abbrev taken : List (Taken 0)
taken = passed ++ (pointer ∷ [])

pub kobdzila_bytes_open_po_spec : {M : Type 1} → statement M
kobdzila_bytes_open_po_spec 𝓤 𝓛 𝓜 𝓡 wired =
    let c = f.clauses 𝓛 𝓜.mem 𝓡.returns in let e = code.function in
    exported 𝓛 taken [] back c 𝓜 𝓡 e f.Key.name (code.unfolded 𝓤 𝓛.H 𝓜 𝓡 wired) (λ κs qs bounds a x typed.
    let r = front κs passed a in let options = options_of a.1.0 a.1.1.0 in
    let Has = λ (t : Opened). IsOpenedHandedPo x options (nat_lt 0 a.1.1.1.0) t in
    let y = λ (p : Ptr). at 𝓛 taken [] back c κs qs bounds (with_out κs passed r p) x in
    points 𝓛 passed c 𝓜 𝓡 e κs qs a y (λ p. lies_at R full_share p x) (id⊢ 𝓤 _) refl typed (λ b o typed.
    move ! (2 ∷ []) $ reads_out ! R refl ((the_row_laws).lawful 𝓛) x b o (λ v ok.
    enter ! _ _ _ _ _ $ alloc_all ! (λ l. pass_all ! refl typed $
    sets ! (of_opd ! (get ! refl)) refl (tt, tt) $
    sets ! (of_opd ! (get ! refl)) refl (tt, tt) $
    sets ! (of_opd ! (load ! (through ! refl (stop !)) (look ! 1 refl))) refl ok.0 $
    let G = triple_of 𝓛 g.signature (g.spec 𝓛 𝓜.mem 𝓡.returns) in
    let z : G.Ghost = (
      (
        κs,
        qs,
        tt,
        (a.0, (a.1.0, (a.1.1.0, (a.1.1.1.0, (a.1.1.1.1.0, (x, tt)))))),
        (
          heap_val ∷ [],
          (
            uint_vals w32 a.1.0,
            (
              uint_vals w32 a.1.1.0,
              (
                uint_vals w32 a.1.1.1.0,
                (uint_vals w32 a.1.1.1.1.0, (v ∷ [], tt)),
              ),
            ),
          ),
        ),
      ),
      tt,
    ) in
    nothing ! $ move ! (1 ∷ 0 ∷ []) $ fjoin ! $ move ! (3 ∷ []) $ fsplit ! $ move ! (1 ∷ []) $ fsplit ! $
    move ! (1 ∷ []) $ fsplit ! $ move ! (1 ∷ []) $ fsplit ! $ move ! (1 ∷ []) $ fsplit ! $
    move ! (0 ∷ 6 ∷ []) $ fjoin ! $ move ! (1 ∷ []) $ drop ! $ move ! (1 ∷ 0 ∷ []) $ fjoin ! $ move ! (1 ∷ 0 ∷ []) $
    fjoin ! $ move ! (1 ∷ 0 ∷ []) $ fjoin ! $ move ! (1 ∷ 0 ∷ []) $ fjoin ! $
    nothing ! $ move ! (0 ∷ 3 ∷ 1 ∷ []) $
    calls ! (framed 𝓤 𝓛.H 𝓜 (tables 𝓤 𝓛.H 𝓜 𝓡 𝓡.env)) g.ended (g.clauses 𝓛 𝓜.mem 𝓡.returns) (met 𝓤 𝓛 𝓜 𝓡
    (code.calls-c_opening::open_handed_po 𝓡.env wired)) z ((the_row_laws).lawful 𝓛) refl refl refl (and_then !
    (get ! refl)
    (and_then ! (get ! refl) (and_then ! (get ! refl) (and_then ! (get ! refl) (and_then ! (get ! refl) (and_then !
    (get ! refl) (no_more !))))))) (λ w t ws ok. heard ! (Has t) (λ has. move ! (2 ∷ []) $
    use1 𝓛 (‵ (froom (lone R.mir) b o)) (𝓛.laws.at_room (lone R.mir) b o v) $ move ! (1 ∷ 2 ∷ []) $
    lands_as ! refl refl ok.0 $ assigns ! (of_opd ! (get ! refl)) (through ! refl (stop !)) (init ! 2 refl ok.0) $
    sets ! (of_opd ! (unit_lit !)) refl (tt, tt) $ returns ! (look_at ! 0 refl) $ free_all ! refl $
    gives_made 𝓛 taken c (y (block_ptr b o)) R refl Has t has b o refl))))))
