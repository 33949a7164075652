-- `kobdzila_store_notice`: the pointer becomes a `&` for the lifetime for which the store is shared, and the notice
-- is stored.
use Rattle.kobdzila_c.proofs.Kit.{List, [], ◌∷◌, ◌++◌, refl, ap, ◌$◌, !, enter, of_opd, unit_lit, addr, init, stop}
use Rattle.kobdzila_c.proofs.Kit.{no_more, and_then, assigns, returns, alloc_all, pass_all, free_all, look_at, get}
use Rattle.kobdzila_c.proofs.Kit.{through, sets, lands_as, is, tables, Ptr, block_ptr, ptr_val, at_block, nothing}
use Rattle.kobdzila_c.proofs.Kit.{heard, triple_of, framed, at, exported, ref_to, ref_vals, calls, Taken, pointer}
use Rattle.kobdzila_c.proofs.Kit.{front, with_out, stored_all, back, looks_to, gives_to}
use Rattle.c_stores.specs.declared.stores.HeldNotice.{HeldNotice}
use Rattle.c_stores.specs.Storing.{IsNoticeOf}
use Rattle.c_stores.specs.contracts.stores.HeldStore.{the_row as O}
use Rattle.c_stores.specs.contracts.stores.HeldNotice.{the_row as R}
use Rattle.c_stores.proofs.stores.HeldNotice.TheLaws.{the_row_laws}
use Rattle.kobdzila_c.specs.contracts.kobdzila_store_notice as f
use Rattle.kobdzila_c.proofs.kobdzila_store_notice.Statement.{statement}
use Rattle.kobdzila_c.proofs.kobdzila_store_notice.Code as code
use Rattle.c_stores.specs.contracts.notice as g
use Rattle.c_stores.proofs.notice.Met.{met}

abbrev passed : List (Taken 0)
passed = []

abbrev taken : List (Taken 0)
taken = pointer ∷ passed ++ (pointer ∷ [])

pub kobdzila_store_notice_spec : {M : Type 1} → statement M
kobdzila_store_notice_spec 𝓤 𝓛 𝓜 𝓡 wired =
    let c = f.clauses 𝓛 𝓜.mem 𝓡.returns in let e = code.function in
    exported 𝓛 taken [] back c 𝓜 𝓡 e f.Key.name (code.unfolded 𝓤 𝓛.H 𝓜 𝓡 wired) (λ κs qs bounds a gh typed.
    let p = a.0 in let r = front κs passed a.1 in let μ = gh.0 in let s = gh.1 in let x = gh.2 in
    let Has = λ (t : HeldNotice). IsNoticeOf x t in
    let y = λ (t : Ptr). at 𝓛 taken [] back c κs qs bounds (p, with_out κs passed r t) gh in
    looks_to 𝓛 passed c 𝓜 𝓡 e κs qs a y O R x refl typed (λ in_block b o typed.
    enter ! _ _ _ _ _ $ alloc_all ! (λ l. pass_all ! refl typed $
    sets ! (of_opd ! (get ! refl)) refl (tt, tt) $
    sets ! (is ! (of_opd ! (get ! refl)) (ap ptr_val (at_block p in_block))) refl (tt, tt) $
    sets ! (addr ! (through ! refl (stop !))) refl (tt, tt) $
    let G = triple_of 𝓛 g.signature (g.spec 𝓛 𝓜.mem 𝓡.returns) in
    let z : G.Ghost = (((μ, κs), (s, qs), tt, (ref_to p x, r), (ref_vals p, stored_all κs passed r)), tt) in
    nothing ! $ calls ! (framed 𝓤 𝓛.H 𝓜 (tables 𝓤 𝓛.H 𝓜 𝓡 𝓡.env)) g.ended (g.clauses 𝓛 𝓜.mem 𝓡.returns) (met 𝓤 𝓛 𝓜 𝓡
    (code.calls-c_stores::notice 𝓡.env wired)) z ((the_row_laws).lawful 𝓛) refl refl refl (and_then ! (get ! refl)
    (no_more !)) (λ v t w ok. heard ! (Has t) (λ has.
    lands_as ! refl refl ok.0 $ assigns ! (of_opd ! (get ! refl)) (through ! refl (stop !)) (init ! 2 refl ok.0) $
    sets ! (of_opd ! (unit_lit !)) refl (tt, tt) $ returns ! (look_at ! 0 refl) $ free_all ! refl $
    gives_to 𝓛 taken c (y (block_ptr b o)) R refl Has t has b o refl)))))
