-- How the walks of the exports begin and end, by what an export is handed: what is shared with it, what it takes out
-- of C's memory, and the memory that it writes to.
use Rattle.std.proofs.Common.{◌≡◌, ℕ, List, [], ◌∷◌, ◌++◌, subst}
use seplogic.Ra.Ura.{Ura}
use base.Fraction.{full_share}
use base.Fml.{Lft, Share, Fml, fsep, fex, fat, flft}
use base.Logic.{SProp, ent, sep, id⊢, never}
use mir.Syntax.{Fn, erased}
use mir.Val.{Val, vunit}
use prog.Model.{Model}
use types.Logic.{Logic, sem}
use types.Kit.{Item, Sq, mean, prop, ‵, raw, ◌⊛◌, ◌$◌, ◌∵◌, !, qed, done, move, drop, use1, split, join, fsplit, fjoin}
use types.Kit.{suffices}
use contract.Lifetimes.{Lfts, Shares, Outlives}
use contract.Monad.{fact}
use contract.Running.{Running}
use denote.Memory.{lone}
use denote.RattleType.{RattleType, Denots, owns}
use denote.RawPtr.{Ptr, InBlock, block_ptr, null_ptr, lies_at, room_at}
use denote.Ref.{ShrRef}
use denote.Signature.{Slot, types_at, type_at}
use denote.Struct.Lending.{lent_at}
use denote.Triple.Clauses.{Clauses, at_exit}
use denote.Triple.Entry.{Res, alive}
use denote.Triple.Walked.{says}
use Rattle.kobdzila_c.proofs.Export.{AreTyped, Runs, blocks, ended, ends, ends_unit, frame_of, signed}
use Rattle.kobdzila_c.proofs.Steps.{borrows, ref_to, ref_vals, written}
use Rattle.kobdzila_c.proofs.Taken.{Taken, back, front, fronted, lasts_at, out_of, pointer, slots, stored_all}

-- what lies in the room at out
abbrev pub made_at : (R : RattleType) → (R.Denot → Type 0) → Ptr → Fml
made_at R Has out = fex R.Denot (λ x. fex (Has x) (λ _. lies_at R full_share out x))

module _ {M : Type 1} {𝓤 : Ura M} (𝓛 : Logic 𝓤) {n : ℕ} where
  open 𝓛 use {H}

  -- what an export that returns nothing says at its end
  abbrev pub Says : (ts : List (Taken n)) (os : List (Outlives n)) (c : Clauses 𝓤 (ended 𝓛 ts os back))
      → (frame_of 𝓛 ts os back c).Ghost → SProp 𝓤
  Says ts os c y = (c y.0.0 y.0.3).ensures y.1 tt (at_exit (ended 𝓛 ts os back) y.0.0 y.0.3 (lasts_at y.0.0 ts y.0.3))

  -- the tokens: that of what is shared, and those of the export's own lifetimes
  abbrev pub tokens : Lft → Share → Lfts n → Shares n → List (Taken n) → Slot n → Item 𝓤
  tokens μ s κs qs ts result = ‵ (flft μ s) ⊛ raw (alive 𝓛 (signed 𝓛 ts [] result) κs qs)

  -- an export that reads what is shared with it
  module _ (ts : List (Taken n)) (result : Slot n) (c : Clauses 𝓤 (ended 𝓛 (pointer ∷ ts) [] result)) (𝓜 : Model 𝓤 H)
      (𝓡 : Running 𝓤 H 𝓜) (e : Fn) (κs : Lfts n) (qs : Shares n) (a : Denots (types_at (slots (pointer ∷ ts)) κs)) where
    pub looks : (y : (frame_of 𝓛 (pointer ∷ ts) [] result c).Ghost) (O : RattleType) (x : O.Denot) {μ : Lft} {s : Share}
        {P : SProp 𝓤} → P ≡ sem 𝓛 (fsep (lent_at O a.0 x μ) (flft μ s)) → (InBlock a.0
        → Sq 𝓛 (tokens μ s κs qs (pointer ∷ ts) result ∷ ‵ (fsep ((ShrRef erased μ O).own_val (ref_to a.0 x)
        (ref_vals a.0)) (owns (types_at (slots ts) κs) a.1 (stored_all κs ts a.1))) ∷ [])
        (prop (Runs 𝓛 (pointer ∷ ts) [] result c 𝓜 𝓡 e y))) → Sq 𝓛 (raw P
        ∷ raw (alive 𝓛 (signed 𝓛 (pointer ∷ ts) [] result) κs qs) ∷ ‵ (owns (types_at (slots (pointer ∷ ts)) κs) a
        (stored_all κs (pointer ∷ ts) a)) ∷ []) (prop (Runs 𝓛 (pointer ∷ ts) [] result c 𝓜 𝓡 e y))
    looks y O x {μ} {s} {P} asked k = use1 𝓛 (‵ (fsep (lent_at O a.0 x μ) (flft μ s)))
        (subst (λ (Q : SProp 𝓤). ent 𝓤 P Q) asked (id⊢ 𝓤 P)) $ fsplit ! $ borrows ! O a.0 x (λ in_block.
        move ! (3 ∷ []) $ fsplit ! $ drop ! $ move ! (1 ∷ 0 ∷ []) $ fjoin ! $ move ! (1 ∷ 2 ∷ []) $ join ! $
        k in_block)

  -- an export that writes what it makes of what is shared with it
  module _ (ts : List (Taken n)) (c : Clauses 𝓤 (ended 𝓛 (pointer ∷ ts ++ (pointer ∷ [])) [] back)) (𝓜 : Model 𝓤 H)
      (𝓡 : Running 𝓤 H 𝓜) (e : Fn) (κs : Lfts n) (qs : Shares n)
      (a : Denots (types_at (slots (pointer ∷ ts ++ (pointer ∷ []))) κs)) where
    abbrev all : List (Taken n)
    all = pointer ∷ ts ++ (pointer ∷ [])

    pub looks_to : (y : Ptr → (frame_of 𝓛 all [] back c).Ghost) (O R : RattleType) (x : O.Denot) {μ : Lft} {s : Share}
        {P : SProp 𝓤} → P ≡ sep 𝓤 (sem 𝓛 (fsep (lent_at O a.0 x μ) (flft μ s)))
        (sem 𝓛 (room_at R (out_of κs ts a.1))) → AreTyped 𝓛 all [] back c 𝓜 𝓡 e (y (out_of κs ts a.1))
        → (InBlock a.0 → (b o : ℕ) → AreTyped 𝓛 all [] back c 𝓜 𝓡 e (y (block_ptr b o))
        → Sq 𝓛 (tokens μ s κs qs all back ∷ ‵ (fsep ((ShrRef erased μ O).own_val (ref_to a.0 x) (ref_vals a.0))
        (owns (types_at (slots ts) κs) (front κs ts a.1) (stored_all κs ts (front κs ts a.1))))
        ∷ ‵ (room_at R (block_ptr b o)) ∷ []) (prop (Runs 𝓛 all [] back c 𝓜 𝓡 e (y (block_ptr b o)))))
        → Sq 𝓛 (raw P ∷ raw (alive 𝓛 (signed 𝓛 all [] back) κs qs) ∷ ‵ (owns (types_at (slots all) κs) a
        (stored_all κs all a)) ∷ []) (prop (Runs 𝓛 all [] back c 𝓜 𝓡 e (y (out_of κs ts a.1))))
    looks_to y O R x {μ} {s} {P} asked typed k = let out = out_of κs ts a.1 in
        use1 𝓛 (‵ (fsep (lent_at O a.0 x μ) (flft μ s)) ⊛ ‵ (room_at R out))
        (subst (λ (Q : SProp 𝓤). ent 𝓤 P Q) asked (id⊢ 𝓤 P)) $ split ! $ fsplit ! $ borrows ! O a.0 x (λ in_block.
        move ! (4 ∷ []) $ fsplit ! $ drop ! $ use1 𝓛 (‵ (owns (types_at (slots ts) κs) (front κs ts a.1)
        (stored_all κs ts (front κs ts a.1)))) (fronted 𝓛 κs ts a.1) $ move ! (1 ∷ 0 ∷ []) $ fjoin ! $
        move ! (2 ∷ []) $ blocks 𝓛 all [] back c 𝓜 𝓡 e (λ (p : Ptr). room_at R p) (id⊢ 𝓤 _) y out typed (λ b o typed'.
        move ! (2 ∷ 3 ∷ []) $ join ! $ move ! (0 ∷ 2 ∷ 1 ∷ []) $ k in_block b o typed'))

  -- an export with a pointer behind its other parameters, to where it writes or to what it takes
  module _ (ts : List (Taken n)) (c : Clauses 𝓤 (ended 𝓛 (ts ++ (pointer ∷ [])) [] back)) (𝓜 : Model 𝓤 H)
      (𝓡 : Running 𝓤 H 𝓜) (e : Fn) (κs : Lfts n) (qs : Shares n)
      (a : Denots (types_at (slots (ts ++ (pointer ∷ []))) κs)) where
    pub points : (y : Ptr → (frame_of 𝓛 (ts ++ (pointer ∷ [])) [] back c).Ghost) (F : Ptr → Fml)
        → ent 𝓤 (sem 𝓛 (F null_ptr)) (never 𝓤) → {P : SProp 𝓤} → P ≡ sem 𝓛 (F (out_of κs ts a))
        → AreTyped 𝓛 (ts ++ (pointer ∷ [])) [] back c 𝓜 𝓡 e (y (out_of κs ts a)) → ((b o : ℕ)
        → AreTyped 𝓛 (ts ++ (pointer ∷ [])) [] back c 𝓜 𝓡 e (y (block_ptr b o))
        → Sq 𝓛 (raw (alive 𝓛 (signed 𝓛 (ts ++ (pointer ∷ [])) [] back) κs qs) ∷ ‵ (owns (types_at (slots ts) κs)
        (front κs ts a) (stored_all κs ts (front κs ts a))) ∷ ‵ (F (block_ptr b o)) ∷ [])
        (prop (Runs 𝓛 (ts ++ (pointer ∷ [])) [] back c 𝓜 𝓡 e (y (block_ptr b o)))))
        → Sq 𝓛 (raw P ∷ raw (alive 𝓛 (signed 𝓛 (ts ++ (pointer ∷ [])) [] back) κs qs)
        ∷ ‵ (owns (types_at (slots (ts ++ (pointer ∷ []))) κs) a (stored_all κs (ts ++ (pointer ∷ [])) a)) ∷ [])
        (prop (Runs 𝓛 (ts ++ (pointer ∷ [])) [] back c 𝓜 𝓡 e (y (out_of κs ts a))))
    points y F h {P} asked typed k = let out = out_of κs ts a in move ! (2 ∷ []) $
        use1 𝓛 (‵ (owns (types_at (slots ts) κs) (front κs ts a) (stored_all κs ts (front κs ts a)))) (fronted 𝓛 κs
        ts a) $ move ! (1 ∷ []) $ use1 𝓛 (‵ (F out)) (subst (λ (Q : SProp 𝓤). ent 𝓤 P Q) asked (id⊢ 𝓤 P)) $
        blocks 𝓛 (ts ++ (pointer ∷ [])) [] back c 𝓜 𝓡 e F h y out typed (λ b o typed'. move ! (2 ∷ 1 ∷ []) $ k b o
        typed')

  -- the end of an export that returns nothing
  module _ (ts : List (Taken n)) (c : Clauses 𝓤 (ended 𝓛 ts [] back)) (y : (frame_of 𝓛 ts [] back c).Ghost) where
    pub gives : {i : Item 𝓤} → mean 𝓛 i ≡ Says ts [] c y
        → Sq 𝓛 (raw (alive 𝓛 (signed 𝓛 ts [] back) y.0.0 y.0.1) ∷ i ∷ []) (prop ((frame_of 𝓛 ts [] back c).post y
        vunit))
    gives {i} said = move ! (1 ∷ []) $ use1 𝓛 (raw (Says ts [] c y)) (subst (λ (Q : SProp 𝓤). ent 𝓤 (mean 𝓛 i) Q) said
        (id⊢ 𝓤 (mean 𝓛 i))) $ move ! (1 ∷ 0 ∷ []) $ suffices ! _ (ends_unit 𝓛 ts [] c y) $ done !

    module _ (R : RattleType) (one : R.mir ≡ lone R.mir ∷ []) (Has : R.Denot → Type 0) (r : R.Denot) (has : Has r)
        (b o : ℕ) {v : Val} where
      pub gives_made : sem 𝓛 (made_at R Has (block_ptr b o)) ≡ Says ts [] c y → Sq 𝓛 (‵ (R.own_val r (v ∷ []))
          ∷ raw (alive 𝓛 (signed 𝓛 ts [] back) y.0.0 y.0.1) ∷ ‵ (fat full_share (lone R.mir) b o v) ∷ [])
          (prop ((frame_of 𝓛 ts [] back c).post y vunit))
      gives_made said = move ! (2 ∷ 0 ∷ []) $ written ! R one Has r has b o $ move ! (1 ∷ 0 ∷ []) $ gives said

      pub gives_to : {μ : Lft} {s : Share} → sep 𝓤 (sem 𝓛 (flft μ s)) (sem 𝓛 (made_at R Has (block_ptr b o)))
          ≡ Says ts [] c y → Sq 𝓛 (‵ (R.own_val r (v ∷ [])) ∷ tokens μ s y.0.0 y.0.1 ts back
          ∷ ‵ (fat full_share (lone R.mir) b o v) ∷ []) (prop ((frame_of 𝓛 ts [] back c).post y vunit))
      gives_to said = move ! (2 ∷ 0 ∷ []) $ written ! R one Has r has b o $ move ! (1 ∷ []) $ split ! $
          move ! (0 ∷ 2 ∷ []) $ join ! $ move ! (1 ∷ 0 ∷ []) $ gives said

  -- the end of an export that looked at what is shared with it, and returns a value
  module _ (ts : List (Taken n)) (result : Slot n) (c : Clauses 𝓤 (ended 𝓛 ts [] result))
      (y : (frame_of 𝓛 ts [] result c).Ghost) (r : Res (signed 𝓛 ts [] result) y.0.0) where
    abbrev Told : SProp 𝓤
    Told = (c y.0.0 y.0.3).ensures y.1 r (at_exit (ended 𝓛 ts [] result) y.0.0 y.0.3 (lasts_at y.0.0 ts y.0.3))

    pub returns_any : {v : Val} {μ : Lft} {s : Share} → sem 𝓛 (flft μ s) ≡ Told
        → Sq 𝓛 (‵ ((type_at result y.0.0).own_val r (v ∷ [])) ∷ tokens μ s y.0.0 y.0.1 ts result ∷ [])
        (prop ((frame_of 𝓛 ts [] result c).post y v))
    returns_any {v} {μ} {s} said = move ! (1 ∷ []) $ split ! $ use1 𝓛 (raw Told)
        (subst (λ (Q : SProp 𝓤). ent 𝓤 (sem 𝓛 (flft μ s)) Q) said (id⊢ 𝓤 (sem 𝓛 (flft μ s)))) $
        move ! (1 ∷ 2 ∷ []) $ suffices ! _ (ends 𝓛 ts [] result c y v r) $ done !

    pub returns_said : {v : Val} {μ : Lft} {s : Share} (φ : Type 0) → φ → sep 𝓤 (sem 𝓛 (flft μ s)) (fact 𝓤 φ) ≡ Told
        → Sq 𝓛 (‵ ((type_at result y.0.0).own_val r (v ∷ [])) ∷ tokens μ s y.0.0 y.0.1 ts result ∷ [])
        (prop ((frame_of 𝓛 ts [] result c).post y v))
    returns_said {v} {μ} {s} φ has said = move ! (1 ∷ []) $ split ! $ use1 𝓛 (raw Told)
        (subst (λ (Q : SProp 𝓤). ent 𝓤 (sem 𝓛 (flft μ s)) Q) said (qed 𝓛 (‵ (flft μ s) ∷ []) ∵ says ! has $ done !)) $
        move ! (1 ∷ 2 ∷ []) $ suffices ! _ (ends 𝓛 ts [] result c y v r) $ done !
