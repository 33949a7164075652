-- `kobdzila_number`: the pointer becomes a `&` for the lifetime for which the catalogue is shared, and
-- `answers::number` answers.
use Rattle.kobdzila_c.proofs.Kit.{◌≡◌, ℕ, List, [], ◌∷◌, refl, ap, w32, w64, ◌$◌, !, enter, of_opd, addr, stop}
use Rattle.kobdzila_c.proofs.Kit.{no_more, and_then, returns, alloc_all, pass_all, free_all, look_at, get, through}
use Rattle.kobdzila_c.proofs.Kit.{sets, lands_as, is, tables, ptr_val, at_block, uint_Lawful, nothing, heard}
use Rattle.kobdzila_c.proofs.Kit.{triple_of, framed, at, exported, ref_to, ref_vals, calls, Taken, pointer, uint}
use Rattle.kobdzila_c.proofs.Kit.{stored_all, word, looks, returns_said}
use Rattle.c_answers.specs.Listing.{number}
use Rattle.c_answers.specs.contracts.opened.Opened.{the_row as O}
use Rattle.kobdzila_c.specs.contracts.kobdzila_number as f
use Rattle.kobdzila_c.proofs.kobdzila_number.Statement.{statement}
use Rattle.kobdzila_c.proofs.kobdzila_number.Code as code
use Rattle.c_answers.specs.contracts.number as g
use Rattle.c_answers.proofs.number.Met.{met}

abbrev passed : List (Taken 0)
passed = uint w32 ∷ uint w64 ∷ []

abbrev taken : List (Taken 0)
taken = pointer ∷ passed

pub kobdzila_number_spec : {M : Type 1} → statement M
kobdzila_number_spec 𝓤 𝓛 𝓜 𝓡 wired =
    let c = f.clauses 𝓛 𝓜.mem 𝓡.returns in let e = code.function in
    exported 𝓛 taken [] (word w64) c 𝓜 𝓡 e f.Key.name (code.unfolded 𝓤 𝓛.H 𝓜 𝓡 wired) (λ κs qs bounds a gh typed.
    let p = a.0 in let μ = gh.0 in let s = gh.1 in let x = gh.2 in
    let Has = λ (t : ℕ). t ≡ number x a.1.0 a.1.1.0 in
    let y = at 𝓛 taken [] (word w64) c κs qs bounds a gh in
    looks 𝓛 passed (word w64) c 𝓜 𝓡 e κs qs a y O x refl (λ in_block.
    enter ! _ _ _ _ _ $ alloc_all ! (λ l. pass_all ! refl typed $
    sets ! (is ! (of_opd ! (get ! refl)) (ap ptr_val (at_block p in_block))) refl (tt, tt) $
    sets ! (addr ! (through ! refl (stop !))) refl (tt, tt) $
    let G = triple_of 𝓛 g.signature (g.spec 𝓛 𝓜.mem 𝓡.returns) in
    let z : G.Ghost = (((μ, κs), (s, qs), tt, (ref_to p x, a.1), (ref_vals p, stored_all κs passed a.1)), tt) in
    nothing ! $ calls ! (framed 𝓤 𝓛.H 𝓜 (tables 𝓤 𝓛.H 𝓜 𝓡 𝓡.env)) g.ended (g.clauses 𝓛 𝓜.mem 𝓡.returns) (met 𝓤 𝓛 𝓜 𝓡
    (code.calls-c_answers::number 𝓡.env wired)) z (uint_Lawful 𝓛 w64) refl refl refl (and_then ! (get ! refl)
    (and_then ! (get ! refl) (and_then ! (get ! refl) (no_more !)))) (λ v t w ok. heard ! (Has t) (λ has.
    lands_as ! refl refl ok.0 $ returns ! (look_at ! 0 refl) $ free_all ! refl $
    returns_said 𝓛 taken (word w64) c y t (Has t) has refl)))))
