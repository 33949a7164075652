-- `kobdzila_text`: the pointer becomes a `&` for the lifetime for which the catalogue is shared,
-- `answers::text` answers, and the answer is stored.
use Rattle.kobdzila_c.proofs.Kit.{◌≡◌, ℕ, List, [], ◌∷◌, ◌++◌, refl, ap, w32, w64, named, ◌$◌, !, enter, of_opd}
use Rattle.kobdzila_c.proofs.Kit.{unit_lit, addr, init, stop, no_more, and_then, assigns, returns, alloc_all}
use Rattle.kobdzila_c.proofs.Kit.{pass_all, free_all, look_at, get, through, sets, lands_as, is, tables, u8, Ptr}
use Rattle.kobdzila_c.proofs.Kit.{block_ptr, ptr_val, at_block, Bor, shr_slice_Lawful, nothing, heard, triple_of}
use Rattle.kobdzila_c.proofs.Kit.{framed, at, exported, ref_to, ref_vals, calls, Taken, pointer, uint, front}
use Rattle.kobdzila_c.proofs.Kit.{with_out, stored_all, back, looks_to, gives_to}
use Rattle.c_answers.specs.Listing.{text}
use Rattle.c_answers.specs.contracts.opened.Opened.{the_row as O}
use Rattle.kobdzila_c.specs.Shared.{Text}
use Rattle.kobdzila_c.specs.contracts.kobdzila_text as f
use Rattle.kobdzila_c.proofs.kobdzila_text.Statement.{statement}
use Rattle.kobdzila_c.proofs.kobdzila_text.Code as code
use Rattle.c_answers.specs.contracts.text as g
use Rattle.c_answers.proofs.text.Met.{met}

abbrev passed : List (Taken 0)
passed = uint w32 ∷ uint w64 ∷ uint w64 ∷ []

abbrev taken : List (Taken 0)
taken = pointer ∷ passed ++ (pointer ∷ [])

pub kobdzila_text_spec : {M : Type 1} → statement M
kobdzila_text_spec 𝓤 𝓛 𝓜 𝓡 wired =
    let c = f.clauses 𝓛 𝓜.mem 𝓡.returns in let e = code.function in
    exported 𝓛 taken [] back c 𝓜 𝓡 e f.Key.name (code.unfolded 𝓤 𝓛.H 𝓜 𝓡 wired) (λ κs qs bounds a gh typed.
    let p = a.0 in let r = front κs passed a.1 in let μ = gh.0 in let s = gh.1 in let x = gh.2 in
    let Has = λ (t : Bor (List ℕ)). t.now ≡ text x r.0 r.1.0 r.1.1.0 in
    let y = λ (t : Ptr). at 𝓛 taken [] back c κs qs bounds (p, with_out κs passed r t) gh in
    looks_to 𝓛 passed c 𝓜 𝓡 e κs qs a y O (Text μ) x refl typed (λ in_block b o typed.
    enter ! _ _ _ _ _ $ alloc_all ! (λ l. pass_all ! refl typed $
    sets ! (is ! (of_opd ! (get ! refl)) (ap ptr_val (at_block p in_block))) refl (tt, tt) $
    sets ! (addr ! (through ! refl (stop !))) refl (tt, tt) $
    let G = triple_of 𝓛 g.signature (g.spec 𝓛 𝓜.mem 𝓡.returns) in
    let z : G.Ghost = (((μ, κs), (s, qs), tt, (ref_to p x, r), (ref_vals p, stored_all κs passed r)), tt) in
    nothing ! $ calls ! (framed 𝓤 𝓛.H 𝓜 (tables 𝓤 𝓛.H 𝓜 𝓡 𝓡.env)) g.ended (g.clauses 𝓛 𝓜.mem 𝓡.returns) (met 𝓤 𝓛 𝓜 𝓡
    (code.calls-c_answers::text 𝓡.env wired)) z (shr_slice_Lawful 𝓛 (named 0) μ u8) refl refl refl
    (and_then ! (get ! refl) (and_then ! (get ! refl) (and_then ! (get ! refl) (and_then ! (get ! refl) (no_more !)))))
    (λ v t w ok. heard ! (Has t) (λ has.
    lands_as ! refl refl ok.0 $ assigns ! (of_opd ! (get ! refl)) (through ! refl (stop !)) (init ! 2 refl ok.0) $
    sets ! (of_opd ! (unit_lit !)) refl (tt, tt) $ returns ! (look_at ! 0 refl) $ free_all ! refl $
    gives_to 𝓛 taken c (y (block_ptr b o)) (Text μ) refl Has t has b o refl)))))
