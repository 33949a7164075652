-- `kobdzila_store_load`: the catalogue's pointer becomes a `&` for the lifetime for which it is shared, the store is
-- moved out of the caller's memory, `stores::load` adds the load, and the store is moved back.
use Rattle.kobdzila_c.proofs.Kit.{List, [], ◌∷◌, refl, ap, w8, id⊢, ftrue, flft, froom, ‵, raw, ◌⊛◌, ◌$◌, !, move}
use Rattle.kobdzila_c.proofs.Kit.{drop, use1, split, join, fsplit, fjoin, enter, of_opd, unit_lit, addr, init, load}
use Rattle.kobdzila_c.proofs.Kit.{look, stop, no_more, and_then, assigns, returns, alloc_all, pass_all, free_all}
use Rattle.kobdzila_c.proofs.Kit.{look_at, get, through, sets, lands_as, is, tables, lone, Ptr, block_ptr, ptr_val}
use Rattle.kobdzila_c.proofs.Kit.{at_block, shr_slice_vals, nothing, heard, alive, triple_of, framed, at, exported}
use Rattle.kobdzila_c.proofs.Kit.{blocks, ref_to, ref_vals, borrows, reads_out, written, calls, Taken, pointer, slice}
use Rattle.kobdzila_c.proofs.Kit.{allocator, back, gives, heap_val}
use Rattle.c_stores.specs.declared.stores.HeldStore.{HeldStore}
use Rattle.c_stores.specs.Storing.{IsLoaded}
use Rattle.c_answers.specs.contracts.opened.Opened.{the_row as O}
use Rattle.c_stores.specs.contracts.stores.HeldStore.{the_row as R}
use Rattle.c_stores.proofs.stores.HeldStore.TheLaws.{the_row_laws}
use Rattle.kobdzila_c.specs.Shared.{holds_store, reads}
use Rattle.kobdzila_c.specs.contracts.kobdzila_store_load as f
use Rattle.kobdzila_c.proofs.kobdzila_store_load.Statement.{statement}
use Rattle.kobdzila_c.proofs.kobdzila_store_load.Code as code
use Rattle.c_stores.specs.contracts.load as g
use Rattle.c_stores.proofs.load.Met.{met}

abbrev taken : List (Taken 2)
taken = allocator ∷ slice w8 0 tt ∷ slice w8 1 tt ∷ pointer ∷ pointer ∷ []

pub kobdzila_store_load_spec : {M : Type 1} → statement M
kobdzila_store_load_spec 𝓤 𝓛 𝓜 𝓡 wired =
    let c = f.clauses 𝓛 𝓜.mem 𝓡.returns in let e = code.function in
    exported 𝓛 taken [] back c 𝓜 𝓡 e f.Key.name (code.unfolded 𝓤 𝓛.H 𝓜 𝓡 wired) (λ κs qs bounds a gh typed.
    let domain = a.1.0 in let locale = a.1.1.0 in let q = a.1.1.1.0 in let held = a.1.1.1.1.0 in
    let μ = gh.0 in let s = gh.1 in let u = gh.2 in let x = gh.3 in
    let Has = λ (r : HeldStore). IsLoaded x domain.now locale.now u r in
    let y = λ (r : Ptr). at 𝓛 taken [] back c κs qs bounds (a.0, (domain, (locale, (q, (r, tt))))) gh in
    let k0 = ‵ (flft κs.0 qs.0) in let k1 = ‵ (flft κs.1.0 qs.1.0) in
    use1 𝓛 (‵ (holds_store held x) ⊛ ‵ (reads μ s q u)) (id⊢ 𝓤 _) $ split ! $ move ! (1 ∷ []) $ fsplit ! $
    borrows ! O q u (λ in_block.
    -- [the catalogue; the token of μ; the store; the tokens; the arguments]
    move ! (4 ∷ []) $ fsplit ! $ move ! (1 ∷ []) $ fsplit ! $ move ! (1 ∷ []) $ fsplit ! $ move ! (1 ∷ []) $ drop ! $
    -- [the locale; the domain; the allocator; the catalogue; the token of μ; the store; the tokens]
    move ! (5 ∷ []) $ blocks 𝓛 taken [] back c 𝓜 𝓡 e (λ r. holds_store r x) (id⊢ 𝓤 _) y held typed (λ b o typed.
    reads_out ! R refl ((the_row_laws).lawful 𝓛) x b o (λ v fits.
    -- [the store; its memory; the locale; the domain; the allocator; the catalogue; the token of μ; the tokens]
    enter ! _ _ _ _ _ $ alloc_all ! (λ l. pass_all ! refl typed $
    sets ! (of_opd ! (get ! refl)) refl (tt, tt) $
    sets ! (is ! (of_opd ! (get ! refl)) (ap ptr_val (at_block q in_block))) refl (tt, tt) $
    sets ! (addr ! (through ! refl (stop !))) refl (tt, tt) $
    sets ! (of_opd ! (get ! refl)) refl (tt, tt) $
    sets ! (of_opd ! (load ! (through ! refl (stop !)) (look ! 1 refl))) refl fits.0 $
    let G = triple_of 𝓛 g.signature (g.spec 𝓛 𝓜.mem 𝓡.returns) in
    let z : G.Ghost = (
      (
        (κs.0, (κs.1.0, (μ, tt))),
        (qs.0, (qs.1.0, (s, tt))),
        tt,
        (a.0, (domain, (locale, (ref_to q u, (x, tt))))),
        (heap_val ∷ [], (shr_slice_vals domain, (shr_slice_vals locale, (ref_vals q, (v ∷ [], tt))))),
      ),
      tt,
    ) in
    nothing ! $ move ! (1 ∷ 0 ∷ []) $ fjoin ! $ move ! (5 ∷ 0 ∷ []) $ fjoin ! $ move ! (2 ∷ 0 ∷ []) $ fjoin ! $
    move ! (2 ∷ 0 ∷ []) $ fjoin ! $ move ! (2 ∷ 0 ∷ []) $ fjoin ! $
    -- [the arguments; the store's memory; the token of μ; the tokens]
    move ! (3 ∷ []) $ use1 𝓛 (k0 ⊛ (k1 ⊛ ‵ ftrue)) (id⊢ 𝓤 _) $ split ! $ move ! (1 ∷ []) $ split ! $
    move ! (5 ∷ 1 ∷ []) $ join ! $ move ! (1 ∷ 0 ∷ []) $ join ! $ move ! (1 ∷ 0 ∷ []) $ join ! $
    nothing ! $ calls ! (framed 𝓤 𝓛.H 𝓜 (tables 𝓤 𝓛.H 𝓜 𝓡 𝓡.env)) g.ended (g.clauses 𝓛 𝓜.mem 𝓡.returns) (met 𝓤 𝓛 𝓜 𝓡
    (code.calls-c_stores::load 𝓡.env wired)) z ((the_row_laws).lawful 𝓛) refl refl refl (and_then ! (get ! refl)
    (and_then ! (get ! refl) (and_then ! (get ! refl) (and_then ! (get ! refl) (and_then ! (get ! refl)
    (no_more !)))))) (λ w r ws ok. heard ! (Has r) (λ has.
    -- [what was made; the tokens; the store's memory]
    move ! (2 ∷ []) $ use1 𝓛 (‵ (froom (lone R.mir) b o)) (𝓛.laws.at_room (lone R.mir) b o v) $ move ! (1 ∷ 2 ∷ []) $
    lands_as ! refl refl ok.0 $ assigns ! (of_opd ! (get ! refl)) (through ! refl (stop !)) (init ! 2 refl ok.0) $
    sets ! (of_opd ! (unit_lit !)) refl (tt, tt) $ returns ! (look_at ! 0 refl) $ free_all ! refl $
    move ! (2 ∷ 0 ∷ []) $ written ! R refl Has r has b o $ move ! (1 ∷ []) $ split ! $ move ! (1 ∷ []) $ split ! $
    move ! (1 ∷ []) $ split ! $
    -- [the token of μ; nothing; the two tokens; the store]
    move ! (0 ∷ 4 ∷ []) $ join ! $ move ! (2 ∷ 1 ∷ []) $ join ! $ move ! (2 ∷ 0 ∷ []) $ join ! $
    use1 𝓛 (raw (alive 𝓛 f.signature κs qs)) (id⊢ 𝓤 _) $ gives 𝓛 taken c (y (block_ptr b o)) refl)))))))
