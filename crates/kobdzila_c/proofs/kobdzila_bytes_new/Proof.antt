-- `kobdzila_bytes_new`: `new_bytes` makes what bytes are handed over to, which is moved into the caller's memory.
use Rattle.kobdzila_c.proofs.Kit.{List, [], ◌∷◌, ◌++◌, refl, w64, id⊢, ◌$◌, !, enter, of_opd, unit_lit, init}
use Rattle.kobdzila_c.proofs.Kit.{stop, no_more, and_then, assigns, returns, alloc_all, pass_all, free_all, look_at}
use Rattle.kobdzila_c.proofs.Kit.{get, through, sets, lands_as, tables, Ptr, block_ptr, room_at, nothing, heard}
use Rattle.kobdzila_c.proofs.Kit.{triple_of, framed, at, exported, calls, Taken, pointer, uint, allocator}
use Rattle.kobdzila_c.proofs.Kit.{front, with_out, stored_all, back, points, gives_made}
use Rattle.c_answers.specs.declared.opened.Opened.{Opened}
use Rattle.c_opening.specs.Handing.{IsHanded}
use Rattle.c_answers.specs.contracts.opened.Opened.{the_row as R}
use Rattle.c_answers.proofs.opened.Opened.TheLaws.{the_row_laws}
use Rattle.kobdzila_c.specs.contracts.kobdzila_bytes_new as f
use Rattle.kobdzila_c.proofs.kobdzila_bytes_new.Statement.{statement}
use Rattle.kobdzila_c.proofs.kobdzila_bytes_new.Code as code
use Rattle.c_opening.specs.contracts.new_bytes as g
use Rattle.c_opening.proofs.new_bytes.Met.{met}

abbrev passed : List (Taken 0)
passed = allocator ∷ uint w64 ∷ []

abbrev taken : List (Taken 0)
taken = passed ++ (pointer ∷ [])

pub kobdzila_bytes_new_spec : {M : Type 1} → statement M
kobdzila_bytes_new_spec 𝓤 𝓛 𝓜 𝓡 wired =
    let c = f.clauses 𝓛 𝓜.mem 𝓡.returns in let e = code.function in
    exported 𝓛 taken [] back c 𝓜 𝓡 e f.Key.name (code.unfolded 𝓤 𝓛.H 𝓜 𝓡 wired) (λ κs qs bounds a gh typed.
    let r = front κs passed a in let Has = λ (t : Opened). IsHanded [] t in
    let y = λ (p : Ptr). at 𝓛 taken [] back c κs qs bounds (with_out κs passed r p) gh in
    points 𝓛 passed c 𝓜 𝓡 e κs qs a y (λ p. room_at R p) (id⊢ 𝓤 _) refl typed (λ b o typed.
    enter ! _ _ _ _ _ $ alloc_all ! (λ l. pass_all ! refl typed $
    sets ! (of_opd ! (get ! refl)) refl (tt, tt) $
    let G = triple_of 𝓛 g.signature (g.spec 𝓛 𝓜.mem 𝓡.returns) in
    let z : G.Ghost = ((κs, qs, tt, r, stored_all κs passed r), tt) in
    nothing ! $ calls ! (framed 𝓤 𝓛.H 𝓜 (tables 𝓤 𝓛.H 𝓜 𝓡 𝓡.env)) g.ended (g.clauses 𝓛 𝓜.mem 𝓡.returns) (met 𝓤 𝓛 𝓜 𝓡
    (code.calls-c_opening::new_bytes 𝓡.env wired)) z ((the_row_laws).lawful 𝓛) refl refl refl (and_then ! (get ! refl)
    (and_then ! (get ! refl) (no_more !))) (λ v t w ok. heard ! (Has t) (λ has.
    lands_as ! refl refl ok.0 $ assigns ! (of_opd ! (get ! refl)) (through ! refl (stop !)) (init ! 2 refl ok.0) $
    sets ! (of_opd ! (unit_lit !)) refl (tt, tt) $ returns ! (look_at ! 0 refl) $ free_all ! refl $
    gives_made 𝓛 taken c (y (block_ptr b o)) R refl Has t has b o refl)))))
