-- `kobdzila_set_languages`: the pointer becomes a `&` for the lifetime for which the set is shared,
-- `places::set_places` lists the places, and they are moved into the caller's memory.
use Rattle.kobdzila_c.proofs.Kit.{List, [], ◌∷◌, ◌++◌, refl, ap, w8, ◌$◌, !, enter, of_opd, unit_lit, addr, init}
use Rattle.kobdzila_c.proofs.Kit.{stop, no_more, and_then, assigns, returns, alloc_all, pass_all, free_all, look_at}
use Rattle.kobdzila_c.proofs.Kit.{get, through, sets, lands_as, is, tables, Ptr, block_ptr, ptr_val, at_block}
use Rattle.kobdzila_c.proofs.Kit.{nothing, heard, triple_of, framed, at, exported, ref_to, ref_vals, calls, Taken}
use Rattle.kobdzila_c.proofs.Kit.{pointer, slice, front, with_out, stored_all, back, looks_to, gives_to}
use Rattle.live_set.specs.declared.places.Places.{Places}
use Rattle.c_sets.specs.NamedPlaces.{AreSetPlaces}
use Rattle.c_sets.specs.contracts.sets.HeldSet.{the_row as O}
use Rattle.live_set.specs.contracts.places.Places.{the_row as R}
use Rattle.live_set.proofs.places.Places.TheLaws.{the_row_laws}
use Rattle.kobdzila_c.specs.Shared.{reads_set}
use Rattle.kobdzila_c.specs.contracts.kobdzila_set_languages as f
use Rattle.kobdzila_c.proofs.kobdzila_set_languages.Statement.{statement}
use Rattle.kobdzila_c.proofs.kobdzila_set_languages.Code as code
use Rattle.c_sets.specs.contracts.set_places as g
use Rattle.c_sets.proofs.set_places.Met.{met}

abbrev passed : List (Taken 2)
passed = slice w8 0 tt ∷ slice w8 1 tt ∷ []

abbrev taken : List (Taken 2)
taken = pointer ∷ passed ++ (pointer ∷ [])

pub kobdzila_set_languages_spec : {M : Type 1} → statement M
unfolding reads_set
kobdzila_set_languages_spec 𝓤 𝓛 𝓜 𝓡 wired =
    let c = f.clauses 𝓛 𝓜.mem 𝓡.returns in let e = code.function in
    exported 𝓛 taken [] back c 𝓜 𝓡 e f.Key.name (code.unfolded 𝓤 𝓛.H 𝓜 𝓡 wired) (λ κs qs bounds a gh typed.
    let p = a.0 in let r = front κs passed a.1 in let μ = gh.0 in let s = gh.1 in let x = gh.2 in
    let Has = λ (t : Places). AreSetPlaces x r.0.now r.1.0.now t in
    let y = λ (t : Ptr). at 𝓛 taken [] back c κs qs bounds (p, with_out κs passed r t) gh in
    looks_to 𝓛 passed c 𝓜 𝓡 e κs qs a y O R x refl typed (λ in_block b o typed.
    enter ! _ _ _ _ _ $ alloc_all ! (λ l. pass_all ! refl typed $
    sets ! (is ! (of_opd ! (get ! refl)) (ap ptr_val (at_block p in_block))) refl (tt, tt) $
    sets ! (addr ! (through ! refl (stop !))) refl (tt, tt) $
    let G = triple_of 𝓛 g.signature (g.spec 𝓛 𝓜.mem 𝓡.returns) in
    let z : G.Ghost = (((μ, κs), (s, qs), tt, (ref_to p x, r), (ref_vals p, stored_all κs passed r)), tt) in
    nothing ! $ calls ! (framed 𝓤 𝓛.H 𝓜 (tables 𝓤 𝓛.H 𝓜 𝓡 𝓡.env)) g.ended (g.clauses 𝓛 𝓜.mem 𝓡.returns) (met 𝓤 𝓛 𝓜 𝓡
    (code.calls-c_sets::set_places 𝓡.env wired)) z ((the_row_laws).lawful 𝓛) refl refl refl (and_then ! (get ! refl)
    (and_then ! (get ! refl) (and_then ! (get ! refl) (no_more !)))) (λ v t w ok. heard ! (Has t) (λ has.
    lands_as ! refl refl ok.0 $ assigns ! (of_opd ! (get ! refl)) (through ! refl (stop !)) (init ! 2 refl ok.0) $
    sets ! (of_opd ! (unit_lit !)) refl (tt, tt) $ returns ! (look_at ! 0 refl) $ free_all ! refl $
    gives_to 𝓛 taken c (y (block_ptr b o)) R refl Has t has b o refl)))))
