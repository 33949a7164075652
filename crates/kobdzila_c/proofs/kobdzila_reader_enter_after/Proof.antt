-- `kobdzila_reader_enter_after`: the reader is moved out of the caller's memory, `enter_after` makes it enter, and it
-- is moved back.
use Rattle.kobdzila_c.proofs.Kit.{List, [], ◌∷◌, refl, ap, id⊢, froom, ‵, raw, ◌⊛◌, ◌$◌, !, move, drop, use1, split}
use Rattle.kobdzila_c.proofs.Kit.{join, fsplit, fjoin, enter, of_opd, unit_lit, addr, init, load, look, stop, no_more}
use Rattle.kobdzila_c.proofs.Kit.{and_then, assigns, returns, alloc_all, pass_all, free_all, look_at, get, through}
use Rattle.kobdzila_c.proofs.Kit.{sets, lands_as, is, fact, tables, lone, Ptr, block_ptr, ptr_val, at_block, nothing}
use Rattle.kobdzila_c.proofs.Kit.{heard, triple_of, framed, at, exported, blocks, ref_to, ref_vals, borrows}
use Rattle.kobdzila_c.proofs.Kit.{reads_out, calls, Taken, pointer, back, gives_to}
use Rattle.c_sets.specs.declared.sets.HeldSet.{HeldSet}
use Rattle.c_stores.specs.Storing.{AreOfOne, IsEnteredAfter}
use Rattle.c_stores.specs.contracts.stores.HeldNotice.{the_row as O}
use Rattle.c_sets.specs.contracts.sets.HeldSet.{the_row as R}
use Rattle.c_sets.proofs.sets.HeldSet.TheLaws.{the_row_laws}
use Rattle.kobdzila_c.specs.Shared.{holds_set, reads_notice}
use Rattle.kobdzila_c.specs.contracts.kobdzila_reader_enter_after as f
use Rattle.kobdzila_c.proofs.kobdzila_reader_enter_after.Statement.{statement}
use Rattle.kobdzila_c.proofs.kobdzila_reader_enter_after.Code as code
use Rattle.c_stores.specs.contracts.enter_after as g
use Rattle.c_stores.proofs.enter_after.Met.{met}

abbrev taken : List (Taken 0)
taken = pointer ∷ pointer ∷ []

pub kobdzila_reader_enter_after_spec : {M : Type 1} → statement M
kobdzila_reader_enter_after_spec 𝓤 𝓛 𝓜 𝓡 wired =
    let c = f.clauses 𝓛 𝓜.mem 𝓡.returns in let e = code.function in
    exported 𝓛 taken [] back c 𝓜 𝓡 e f.Key.name (code.unfolded 𝓤 𝓛.H 𝓜 𝓡 wired) (λ κs qs bounds a gh typed.
    let q = a.1.0 in let x = gh.0 in let μ = gh.1 in let s = gh.2 in let u = gh.3 in
    let Has = λ (r : HeldSet). IsEnteredAfter x u r in
    let y = λ (r : Ptr). at 𝓛 taken [] back c κs qs bounds (r, (q, tt)) gh in
    use1 𝓛 ((‵ (holds_set a.0 x) ⊛ ‵ (reads_notice μ s q u)) ⊛ raw (fact 𝓤 (AreOfOne x u))) (id⊢ 𝓤 _) $ split ! $
    split ! $ move ! (1 ∷ []) $ fsplit ! $ borrows ! O q u (λ in_block.
    -- [the notice; the token of μ; the reader; that both are of one store; the tokens; the arguments]
    move ! (5 ∷ []) $ drop ! $ nothing ! $ move ! (1 ∷ 0 ∷ []) $ fjoin ! $ move ! (2 ∷ []) $
    blocks 𝓛 taken [] back c 𝓜 𝓡 e (λ r. holds_set r x) (id⊢ 𝓤 _) y a.0 typed (λ b o typed.
    reads_out ! R refl ((the_row_laws).lawful 𝓛) x b o (λ v fits.
    -- [the reader; its memory; the notice; the token of μ; that both are of one store; the tokens]
    enter ! _ _ _ _ _ $ alloc_all ! (λ l. pass_all ! refl typed $
    sets ! (of_opd ! (get ! refl)) refl (tt, tt) $
    sets ! (of_opd ! (get ! refl)) refl (tt, tt) $
    sets ! (of_opd ! (load ! (through ! refl (stop !)) (look ! 1 refl))) refl fits.0 $
    sets ! (is ! (of_opd ! (get ! refl)) (ap ptr_val (at_block q in_block))) refl (tt, tt) $
    sets ! (addr ! (through ! refl (stop !))) refl (tt, tt) $
    let G = triple_of 𝓛 g.signature (g.spec 𝓛 𝓜.mem 𝓡.returns) in
    let z : G.Ghost = (((μ, κs), (s, qs), tt, (x, (ref_to q u, tt)), (v ∷ [], (ref_vals q, tt))), tt) in
    move ! (0 ∷ 2 ∷ []) $ fjoin ! $ move ! (2 ∷ 4 ∷ []) $ join ! $ move ! (3 ∷ 0 ∷ 1 ∷ []) $
    calls ! (framed 𝓤 𝓛.H 𝓜 (tables 𝓤 𝓛.H 𝓜 𝓡 𝓡.env)) g.ended (g.clauses 𝓛 𝓜.mem 𝓡.returns) (met 𝓤 𝓛 𝓜 𝓡
    (code.calls-c_stores::enter_after 𝓡.env wired)) z ((the_row_laws).lawful 𝓛) refl refl refl (and_then ! (get ! refl)
    (and_then ! (get ! refl) (no_more !))) (λ w r ws ok. heard ! (Has r) (λ has.
    -- [what was made; the tokens; the reader's memory]
    move ! (2 ∷ []) $ use1 𝓛 (‵ (froom (lone R.mir) b o)) (𝓛.laws.at_room (lone R.mir) b o v) $ move ! (1 ∷ 2 ∷ []) $
    lands_as ! refl refl ok.0 $ assigns ! (of_opd ! (get ! refl)) (through ! refl (stop !)) (init ! 2 refl ok.0) $
    sets ! (of_opd ! (unit_lit !)) refl (tt, tt) $ returns ! (look_at ! 0 refl) $ free_all ! refl $
    gives_to 𝓛 taken c (y (block_ptr b o)) R refl Has r has b o refl)))))))
