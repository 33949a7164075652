-- The steps that the walks of the exports share: a pointer becomes a `&`, a value is read from C's memory or written
-- to it, and a function of the crates below is called.
use Rattle.std.proofs.Common.{◌≡◌, ℕ, List, [], ◌∷◌, refl, subst}
use seplogic.Ra.Ura.{Ura}
use base.Fraction.{full_share}
use base.Fml.{Lft, fex, fat}
use base.Logic.{SProp, ent, id⊢}
use mir.Syntax.{Body, Callee, Place, Opd as Operand, seq, call, erased}
use mir.Val.{Val, vptr}
use prog.Wp.{Env, Calls, Loops}
use types.Logic.{Logic, sem}
use types.Kit.{Item, Goal, Post, Seq, Step, step, mean, runs, lands, ‵, raw, ◌⊛◌, some, later, ◌$◌}
use types.Kit.{move, drop, use1, use2, split, join, fsplit, fjoin, fpack, feq_i, pick, await}
use types.Run.{Opds}
use sound.WpLaws.{FmC}
use borrow.Table.OneValue.{part_in, part_out}
use contract.Monad.{fact}
use denote.Laws.{Is, Lawful, Typed, shows}
use denote.Memory.{lone, part_at}
use denote.Opens.{hide}
use denote.RattleType.{RattleType, owns}
use denote.RawPtr.{Ptr, InBlock, block_ptr, block_of, count_of, lies_at}
use denote.Ref.{Bor, ShrRef}
use denote.Signature.{types_at, type_at}
use denote.Steps.{heard, peeks}
use denote.Struct.Lending.{lent_at, in_block_says}
use denote.Triple.Call.{calls_at}
use denote.Triple.Clauses.{Ended, Clauses, Lasts, lasts, at_exit, closing}
use denote.Triple.Entry.{Res, alive}
use denote.Triple.Spec.{triple_of}
use denote.Triple.Statement.{Triple}

-- the value of a `&` to what lies at p
abbrev pub ref_to : {X : Type 0} → Ptr → X → Bor X
ref_to p x = record { ref_ptr = (block_of p, count_of p); now = x }

abbrev pub ref_vals : Ptr → List Val
ref_vals p = vptr (block_of p) (count_of p) ∷ []

module _ {M : Type 1} {𝓤 : Ura M} {𝓛 : Logic 𝓤} {K : Type 0} {Γ : List (Item 𝓤)} where
  open 𝓛 use {H}

  module _ {G : Goal 𝓤 H} where
    -- what is lent at p is a `&`
    pub borrows : K → (R : RattleType) (p : Ptr) (x : R.Denot) {κ : Lft} → (InBlock p
        → Seq K 𝓛 (‵ ((ShrRef erased κ R).own_val (ref_to p x) (ref_vals p)) ∷ Γ) G)
        → Seq K 𝓛 (‵ (lent_at R p x κ) ∷ Γ) G
    borrows t R p x k = fsplit t $ use1 𝓛 (raw (fact 𝓤 (InBlock p))) (in_block_says 𝓛 p) $
        heard t (InBlock p) (λ inb. hide t $ feq_i t (List Val) (ref_vals p) (ref_vals p) refl $ fjoin t $ k inb)

    -- what lies in C's memory is a value and the memory
    pub reads_out : K → (R : RattleType) → R.mir ≡ lone R.mir ∷ [] → Lawful 𝓛 R → (x : R.Denot) (b o : ℕ)
        → ((v : Val) → Typed R.mir (v ∷ []) → Seq K 𝓛 (‵ (R.own_val x (v ∷ [])) ∷ ‵ (fat full_share (lone R.mir) b o v)
        ∷ Γ) G) → Seq K 𝓛 (‵ (lies_at R full_share (block_ptr b o) x) ∷ Γ) G
    reads_out t R one L x b o k =
        use1 𝓛 (some (λ (v : Val). ‵ (fat full_share (lone R.mir) b o v) ⊛ ‵ (R.own_val x (v ∷ []))))
        (part_out 𝓛 R one full_share x b o) $ pick t (λ v. split t $ move t (1 ∷ []) $
        peeks t R (Is R) (shows 𝓛 R) x (v ∷ []) (λ is. k v (L.typed x (v ∷ []) is)))

    -- a value and the memory that it was written to
    pub written : K → (R : RattleType) → R.mir ≡ lone R.mir ∷ [] → (Has : R.Denot → Type 0) (r : R.Denot) → Has r
        → (b o : ℕ) {v : Val} → Step K 𝓛 (‵ (fex R.Denot (λ x. fex (Has x) (λ _. lies_at R full_share (block_ptr b o)
        x))) ∷ Γ) G (‵ (fat full_share (lone R.mir) b o v) ∷ ‵ (R.own_val r (v ∷ [])) ∷ Γ) G
    written t R one Has r has b o {v} = step (λ k.
        use2 𝓛 (‵ (part_at R full_share r b o)) (part_in 𝓛 R one full_share r b o v) $
        fpack t (Has r) (λ _. lies_at R full_share (block_ptr b o) r) has $
        fpack t R.Denot (λ x. fex (Has x) (λ _. lies_at R full_share (block_ptr b o) x)) r $ k)

  -- a call, from what it asks, the tokens and the arguments; the tokens come back behind the result
  pub calls : {E : Env 𝓤 H} {C : Calls 𝓤 H} {f : Callee} {xs : List Operand} {Λ : Loops 𝓤 H} {q : Post 𝓤 H} {d : Place}
      {rest : Body} {i j k : Item 𝓤} → K → FmC 𝓤 H 𝓛.laws C → (T : Ended) (c : Clauses 𝓤 T)
      → Triple 𝓤 (C f) (triple_of 𝓛 T.signature (closing 𝓛 T c)) → (z : (triple_of 𝓛 T.signature (closing 𝓛 T c)).Ghost)
      → Lawful 𝓛 (type_at T.signature.result z.0.0) → mean 𝓛 i ≡ (c z.0.0 z.0.3).requires z.1
      → mean 𝓛 j ≡ alive 𝓛 T.signature z.0.0 z.0.1
      → mean 𝓛 k ≡ sem 𝓛 (owns (types_at T.signature.params z.0.0) z.0.3 z.0.4)
      → Opds K 𝓛 (raw ((triple_of 𝓛 T.signature (closing 𝓛 T c)).pre z) ∷ Γ) E xs ((triple_of 𝓛 T.signature
      (closing 𝓛 T c)).args z) → ((v : Val) (r : Res T.signature z.0.0) (w : Lasts T z.0.0 z.0.3)
      → Typed (type_at T.signature.result z.0.0).mir (v ∷ []) → Seq K 𝓛 (raw ((c z.0.0 z.0.3).ensures z.1 r (at_exit T
      z.0.0 z.0.3 w)) ∷ ‵ ((type_at T.signature.result z.0.0).own_val r (v ∷ [])) ∷ j ∷ Γ) (lands C Λ E d v rest q))
      → Seq K 𝓛 (i ∷ j ∷ k ∷ Γ) (runs C Λ E (seq (call f xs d) rest) q)
  calls {i = i} {j} {k} t fm T c met z L asked alive_is owned os after =
      let S = T.signature in let A = alive 𝓛 S z.0.0 z.0.1 in let R = type_at S.result z.0.0 in
      let Q = (c z.0.0 z.0.3).requires z.1 in let F = owns (types_at S.params z.0.0) z.0.3 z.0.4 in
      let said : (r : Res S z.0.0) → Lasts T z.0.0 z.0.3 → SProp 𝓤 = λ r w. (c z.0.0 z.0.3).ensures z.1 r
      (at_exit T z.0.0 z.0.3 w) in
      use1 𝓛 (raw Q) (subst (λ (P : SProp 𝓤). ent 𝓤 (mean 𝓛 i) P) asked (id⊢ 𝓤 _)) $ move t (1 ∷ []) $
      use1 𝓛 (raw A) (subst (λ (P : SProp 𝓤). ent 𝓤 (mean 𝓛 j) P) alive_is (id⊢ 𝓤 _)) $ move t (2 ∷ []) $
      use1 𝓛 (‵ F) (subst (λ (P : SProp 𝓤). ent 𝓤 (mean 𝓛 k) P) owned (id⊢ 𝓤 _)) $
      move t (1 ∷ 0 ∷ []) $ join t $ move t (0 ∷ 1 ∷ []) $ join t $
      use1 𝓛 (raw ((triple_of 𝓛 S (closing 𝓛 T c)).pre z)) (id⊢ 𝓤 _) $
      calls_at t fm (triple_of 𝓛 S (closing 𝓛 T c)) met z os (λ v.
      use1 𝓛 (later (some (λ (r : Res S z.0.0). (raw A ⊛ ‵ (R.own_val r (v ∷ []))) ⊛ some (λ (w : Lasts T z.0.0 z.0.3).
      ‵ (lasts T z.0.0 z.0.3 w) ⊛ raw (said r w))))) (id⊢ 𝓤 _) $
      await t tt $ pick t (λ r. split t $ split t $
      use1 𝓛 j (subst (λ (P : SProp 𝓤). ent 𝓤 P (mean 𝓛 j)) alive_is (id⊢ 𝓤 _)) $ move t (1 ∷ []) $
      peeks t R (Is R) (shows 𝓛 R) r (v ∷ []) (λ is. move t (2 ∷ []) $ pick t (λ w. split t $ drop t $
      after v r w (L.typed r (v ∷ []) is)))))
