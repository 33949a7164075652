-- `kobdzila_entrance_close`: the entrance is moved out of the caller's memory, and `close_entrance` drops it.
use Rattle.kobdzila_c.proofs.Kit.{List, [], ◌∷◌, refl, full_share, id⊢, froom, ‵, ◌$◌, !, move, drop, use1, fjoin}
use Rattle.kobdzila_c.proofs.Kit.{enter, of_opd, unit_lit, load, look, stop, no_more, and_then, returns, alloc_all}
use Rattle.kobdzila_c.proofs.Kit.{pass_all, free_all, look_at, get, through, sets, lands_as, tables, lone, Ptr}
use Rattle.kobdzila_c.proofs.Kit.{block_ptr, lies_at, Nothing-Lawful, nothing, triple_of, framed, at, exported}
use Rattle.kobdzila_c.proofs.Kit.{reads_out, calls, Taken, pointer, back, points, gives}
use Rattle.c_stores.specs.contracts.stores.HeldEntrance.{the_row as R}
use Rattle.c_stores.proofs.stores.HeldEntrance.TheLaws.{the_row_laws}
use Rattle.kobdzila_c.specs.contracts.kobdzila_entrance_close as f
use Rattle.kobdzila_c.proofs.kobdzila_entrance_close.Statement.{statement}
use Rattle.kobdzila_c.proofs.kobdzila_entrance_close.Code as code
use Rattle.c_stores.specs.contracts.close_entrance as g
use Rattle.c_stores.proofs.close_entrance.Met.{met}

abbrev passed : List (Taken 0)
passed = []

abbrev taken : List (Taken 0)
taken = pointer ∷ []

pub kobdzila_entrance_close_spec : {M : Type 1} → statement M
kobdzila_entrance_close_spec 𝓤 𝓛 𝓜 𝓡 wired =
    let c = f.clauses 𝓛 𝓜.mem 𝓡.returns in let e = code.function in
    exported 𝓛 taken [] back c 𝓜 𝓡 e f.Key.name (code.unfolded 𝓤 𝓛.H 𝓜 𝓡 wired) (λ κs qs bounds a x typed.
    let y = λ (p : Ptr). at 𝓛 taken [] back c κs qs bounds (p, tt) x in
    points 𝓛 passed c 𝓜 𝓡 e κs qs a y (λ p. lies_at R full_share p x) (id⊢ 𝓤 _) refl typed (λ b o typed.
    move ! (2 ∷ []) $ reads_out ! R refl ((the_row_laws).lawful 𝓛) x b o (λ v ok.
    enter ! _ _ _ _ _ $ alloc_all ! (λ l. pass_all ! refl typed $
    sets ! (of_opd ! (get ! refl)) refl (tt, tt) $
    sets ! (of_opd ! (load ! (through ! refl (stop !)) (look ! 1 refl))) refl ok.0 $
    let G = triple_of 𝓛 g.signature (g.spec 𝓛 𝓜.mem 𝓡.returns) in
    let z : G.Ghost = ((κs, qs, tt, (x, tt), (v ∷ [], tt)), tt) in
    move ! (0 ∷ 3 ∷ []) $ fjoin ! $ nothing ! $ move ! (0 ∷ 3 ∷ 1 ∷ []) $
    calls ! (framed 𝓤 𝓛.H 𝓜 (tables 𝓤 𝓛.H 𝓜 𝓡 𝓡.env)) g.ended (g.clauses 𝓛 𝓜.mem 𝓡.returns) (met 𝓤 𝓛 𝓜 𝓡
    (code.calls-c_stores::close_entrance 𝓡.env wired)) z (Nothing-Lawful 𝓛) refl refl refl (and_then ! (get ! refl)
    (no_more !)) (λ w t ws ok. drop ! $ drop ! $
    lands_as ! refl refl ok.0 $ sets ! (of_opd ! (unit_lit !)) refl (tt, tt) $
    returns ! (look_at ! 0 refl) $ free_all ! refl $ move ! (1 ∷ []) $
    use1 𝓛 (‵ (froom (lone R.mir) b o)) (𝓛.laws.at_room (lone R.mir) b o v) $ move ! (1 ∷ 0 ∷ []) $
    gives 𝓛 taken c (y (block_ptr b o)) refl)))))
