-- `kobdzila_set_with`: both pointers become a `&` for the lifetimes for which the set and the catalogue are shared,
-- `with_one` makes the set, and it is moved into the caller's memory.
use Rattle.kobdzila_c.proofs.Kit.{List, [], ◌∷◌, refl, ap, w8, id⊢, ftrue, flft, ‵, raw, ◌⊛◌, ◌$◌, !, move, drop}
use Rattle.kobdzila_c.proofs.Kit.{use1, split, join, fsplit, fjoin, enter, of_opd, unit_lit, addr, init, stop}
use Rattle.kobdzila_c.proofs.Kit.{no_more, and_then, assigns, returns, alloc_all, pass_all, free_all, look_at, get}
use Rattle.kobdzila_c.proofs.Kit.{through, sets, lands_as, is, tables, Ptr, block_ptr, ptr_val, at_block, room_at}
use Rattle.kobdzila_c.proofs.Kit.{shr_slice_vals, nothing, heard, alive, triple_of, framed, at, exported, blocks}
use Rattle.kobdzila_c.proofs.Kit.{ref_to, ref_vals, borrows, written, calls, Taken, pointer, slice, allocator, back}
use Rattle.kobdzila_c.proofs.Kit.{gives, heap_val}
use Rattle.c_sets.specs.declared.sets.HeldSet.{HeldSet}
use Rattle.c_sets.specs.Making.{IsWith}
use Rattle.c_answers.specs.contracts.opened.Opened.{the_row as O}
use Rattle.c_sets.specs.contracts.sets.HeldSet.{the_row as R}
use Rattle.c_sets.proofs.sets.HeldSet.TheLaws.{the_row_laws}
use Rattle.kobdzila_c.specs.Shared.{reads, reads_set}
use Rattle.kobdzila_c.specs.contracts.kobdzila_set_with as f
use Rattle.kobdzila_c.proofs.kobdzila_set_with.Statement.{statement}
use Rattle.kobdzila_c.proofs.kobdzila_set_with.Code as code
use Rattle.c_sets.specs.contracts.with_one as g
use Rattle.c_sets.proofs.with_one.Met.{met}

abbrev taken : List (Taken 2)
taken = allocator ∷ pointer ∷ slice w8 0 tt ∷ slice w8 1 tt ∷ pointer ∷ pointer ∷ []

pub kobdzila_set_with_spec : {M : Type 1} → statement M
unfolding reads_set
kobdzila_set_with_spec 𝓤 𝓛 𝓜 𝓡 wired =
    let c = f.clauses 𝓛 𝓜.mem 𝓡.returns in let e = code.function in
    exported 𝓛 taken [] back c 𝓜 𝓡 e f.Key.name (code.unfolded 𝓤 𝓛.H 𝓜 𝓡 wired) (λ κs qs bounds a gh typed.
    let p = a.1.0 in let domain = a.1.1.0 in let locale = a.1.1.1.0 in let q = a.1.1.1.1.0 in
    let out = a.1.1.1.1.1.0 in let μ = gh.0 in let s = gh.1 in let x = gh.2 in
    let ν = gh.3 in let t = gh.4 in let u = gh.5 in
    let Has = λ (r : HeldSet). IsWith x domain.now locale.now u r in
    let y = λ (r : Ptr). at 𝓛 taken [] back c κs qs bounds (a.0, (p, (domain, (locale, (q, (r, tt)))))) gh in
    let k0 = ‵ (flft κs.0 qs.0) in let k1 = ‵ (flft κs.1.0 qs.1.0) in
    use1 𝓛 ((‵ (reads_set μ s p x) ⊛ ‵ (reads ν t q u)) ⊛ ‵ (room_at R out)) (id⊢ 𝓤 _) $ split ! $ split ! $
    fsplit ! $ borrows ! R p x (λ in_p. move ! (2 ∷ []) $ fsplit ! $ borrows ! O q u (λ in_q.
    -- [the catalogue; the token of ν; the set; the token of μ; the room; the tokens; the arguments]
    move ! (6 ∷ []) $ fsplit ! $ move ! (1 ∷ []) $ fsplit ! $ drop ! $ fsplit ! $ move ! (1 ∷ []) $ fsplit ! $
    move ! (1 ∷ []) $ drop ! $ nothing ! $ move ! (4 ∷ 0 ∷ []) $ fjoin ! $ move ! (1 ∷ 0 ∷ []) $ fjoin ! $
    move ! (1 ∷ 0 ∷ []) $ fjoin ! $ move ! (3 ∷ 0 ∷ []) $ fjoin ! $ move ! (1 ∷ 0 ∷ []) $ fjoin ! $
    -- [the arguments; the token of ν; the token of μ; the room; the tokens]
    move ! (3 ∷ []) $ blocks 𝓛 taken [] back c 𝓜 𝓡 e (λ r. room_at R r) (id⊢ 𝓤 _) y out typed (λ b o typed.
    move ! (4 ∷ []) $ use1 𝓛 (k0 ⊛ (k1 ⊛ ‵ ftrue)) (id⊢ 𝓤 _) $ split ! $ move ! (1 ∷ []) $ split ! $
    move ! (5 ∷ 1 ∷ []) $ join ! $ move ! (1 ∷ 0 ∷ []) $ join ! $ move ! (1 ∷ 0 ∷ []) $ join ! $ move ! (3 ∷ 0 ∷ []) $
    join ! $ move ! (0 ∷ 2 ∷ []) $
    -- [the tokens; the arguments; the room]
    enter ! _ _ _ _ _ $ alloc_all ! (λ l. pass_all ! refl typed $
    sets ! (of_opd ! (get ! refl)) refl (tt, tt) $
    sets ! (is ! (of_opd ! (get ! refl)) (ap ptr_val (at_block p in_p))) refl (tt, tt) $
    sets ! (addr ! (through ! refl (stop !))) refl (tt, tt) $
    sets ! (is ! (of_opd ! (get ! refl)) (ap ptr_val (at_block q in_q))) refl (tt, tt) $
    sets ! (addr ! (through ! refl (stop !))) refl (tt, tt) $
    let G = triple_of 𝓛 g.signature (g.spec 𝓛 𝓜.mem 𝓡.returns) in
    let z : G.Ghost = (
      (
        (μ, (κs.0, (κs.1.0, (ν, tt)))),
        (s, (qs.0, (qs.1.0, (t, tt)))),
        tt,
        (a.0, (ref_to p x, (domain, (locale, (ref_to q u, tt))))),
        (heap_val ∷ [], (ref_vals p, (shr_slice_vals domain, (shr_slice_vals locale, (ref_vals q, tt))))),
      ),
      tt,
    ) in
    nothing ! $ calls ! (framed 𝓤 𝓛.H 𝓜 (tables 𝓤 𝓛.H 𝓜 𝓡 𝓡.env)) g.ended (g.clauses 𝓛 𝓜.mem 𝓡.returns) (met 𝓤 𝓛 𝓜 𝓡
    (code.calls-c_sets::with_one 𝓡.env wired)) z ((the_row_laws).lawful 𝓛) refl refl refl (and_then ! (get ! refl)
    (and_then ! (get ! refl) (and_then ! (get ! refl) (and_then ! (get ! refl) (and_then ! (get ! refl)
    (no_more !)))))) (λ v r w ok. heard ! (Has r) (λ has.
    lands_as ! refl refl ok.0 $ assigns ! (of_opd ! (get ! refl)) (through ! refl (stop !)) (init ! 2 refl ok.0) $
    sets ! (of_opd ! (unit_lit !)) refl (tt, tt) $ returns ! (look_at ! 0 refl) $ free_all ! refl $
    move ! (2 ∷ 0 ∷ []) $ written ! R refl Has r has b o $ move ! (1 ∷ []) $ split ! $ move ! (1 ∷ []) $ split ! $
    move ! (1 ∷ []) $ split ! $ move ! (1 ∷ []) $ split ! $
    -- [the token of ν; nothing; the two tokens; the token of μ; the set]
    move ! (2 ∷ 1 ∷ []) $ join ! $ move ! (2 ∷ []) $ join ! $ move ! (2 ∷ 1 ∷ []) $ join ! $ move ! (0 ∷ 2 ∷ []) $
    join ! $ move ! (1 ∷ []) $ use1 𝓛 (raw (alive 𝓛 f.signature κs qs)) (id⊢ 𝓤 _) $
    gives 𝓛 taken c (y (block_ptr b o)) refl)))))))
