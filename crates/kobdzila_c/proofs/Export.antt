-- What the walk of every export begins and ends with.
use Rattle.std.proofs.Common.{ℕ, List, [], ◌∷◌, refl, subst}
use seplogic.Ra.Ura.{Ura}
use base.Logic.{SProp, ent, sep, emp, id⊢, never}
use base.Fml.{Fml, ftrue}
use mir.Syntax.{Fn, Callee}
use mir.Val.{Val, vunit}
use prog.Wp.{WpFn, Closed}
use prog.Model.{Model}
use types.Logic.{Logic, sem}
use types.Kit.{‵, raw, prop, Item, Sq, ◌⊛◌, ◌$◌, ◌∵◌, !, qed, done, move, fjoin, use0, suffices, split, feq_i, regoal}
use contract.Lifetimes.{Lfts, Shares, AllOutlive, Outlives}
use contract.Running.{Running, tables}
use denote.Exit.{yes}
use denote.Laws.{Typed}
use denote.RattleType.{Denots, Valss, mirs, owns}
use denote.RawPtr.{Ptr, block_ptr, null_ptr, in_a_block}
use denote.Signature.{Slot, Signature, types_at, type_at}
use denote.Triple.Clauses.{Ended, Clauses, at_exit, closing}
use denote.Triple.End.{all, Fins}
use denote.Triple.Entry.{Res, alive}
use denote.Triple.Spec.{Meets}
use denote.Triple.Statement.{Contract}
use denote.Triple.Walked.{walk_of, has_of}
use Rattle.std.proofs.raw_atomic.Walks.{proved, leaves}
use Rattle.kobdzila_c.proofs.Taken.{Taken, back, slots, stays, spells, tell, stored_all, lasts_at, fit, go, all_typed}

module _ {M : Type 1} {𝓤 : Ura M} (𝓛 : Logic 𝓤) {n : ℕ} where
  open 𝓛 use {H}

  -- nothing is had of the parameters
  none_left : (κs : Lfts n) (ts : List (Taken n)) (a : Denots (types_at (slots ts) κs)) (w : Fins κs (slots ts)
      (all yes (slots ts)) a) (vss : Valss (types_at (slots ts) κs)) → ent 𝓤 (emp 𝓤) (sem 𝓛 (has_of κs (slots ts)
      (all yes (slots ts)) (stays ts) a w vss))
  none_left κs [] a w vss = id⊢ 𝓤 (emp 𝓤)
  none_left κs (t ∷ ts) a w vss = qed 𝓛 [] {P = sem 𝓛 (has_of κs (slots (t ∷ ts)) (all yes (slots (t ∷ ts)))
      (stays (t ∷ ts)) a w vss)} ∵ use0 𝓛 (‵ (has_of κs (slots ts) (all yes (slots ts)) (stays ts) a.1 w.1 vss.1))
      (none_left κs ts a.1 w.1 vss.1) $ use0 𝓛 (‵ ftrue) (id⊢ 𝓤 (emp 𝓤)) $ fjoin ! $ done !

  module _ (ts : List (Taken n)) (os : List (Outlives n)) (result : Slot n) where
    abbrev pub signed : Signature
    signed = record { lifetimes = n; outlives = os; params = slots ts; result = result }

    abbrev pub ended : Ended
    ended = record { signature = signed; kept = all yes (slots ts) }

    module _ (c : Clauses 𝓤 ended) where
      abbrev pub frame_of : Contract 𝓤
      frame_of = walk_of 𝓛 ended (stays ts) c

      -- what the walk is given
      abbrev pub at : (κs : Lfts n) (qs : Shares n) (bounds : AllOutlive n os κs) (a : Denots (types_at (slots ts) κs))
          → (c κs a).ghost → frame_of.Ghost
      at κs qs bounds a g = ((κs, qs, bounds, a, stored_all κs ts a), g)

      module _ (𝓜 : Model 𝓤 H) (𝓡 : Running 𝓤 H 𝓜) (e : Fn) where
        -- that the export's code runs
        abbrev pub Runs : frame_of.Ghost → SProp 𝓤
        Runs y = WpFn 𝓤 H (tables 𝓤 H 𝓜 𝓡 𝓡.env).C (tables 𝓤 H 𝓜 𝓡 𝓡.env).Λ e (frame_of.args y) (frame_of.post y)

        abbrev pub AreTyped : frame_of.Ghost → Type 0
        AreTyped y = Typed (mirs (types_at (slots ts) y.0.0)) (frame_of.args y)

        -- the export meets its contract, from a walk that begins with the `requires`, the tokens and the arguments
        pub exported : (k : Callee) → Closed 𝓤 H (tables 𝓤 H 𝓜 𝓡 𝓡.env).C (tables 𝓤 H 𝓜 𝓡 𝓡.env).Λ k e
            → ((κs : Lfts n) (qs : Shares n) (bounds : AllOutlive n os κs) (a : Denots (types_at (slots ts) κs))
            (g : (c κs a).ghost) → AreTyped (at κs qs bounds a g) → Sq 𝓛 (raw ((c κs a).requires g)
            ∷ raw (alive 𝓛 signed κs qs) ∷ ‵ (owns (types_at (slots ts) κs) a (stored_all κs ts a)) ∷ [])
            (prop (Runs (at κs qs bounds a g)))) → Meets 𝓛 signed ((tables 𝓤 H 𝓜 𝓡 𝓡.env).C k) (closing 𝓛 ended c)
        exported k closed walk = proved 𝓛 ended (stays ts) c 𝓜 𝓡 (go 𝓛 ts) k e closed (λ κs. spells κs ts)
            (λ κs. tell κs ts) (λ κs qs bounds a g are. qed 𝓛 ((raw (alive 𝓛 signed κs qs) ⊛ ‵ (owns (types_at (slots
            ts) κs) a (stored_all κs ts a))) ∷ raw ((c κs a).requires g) ∷ []) ∵ split ! $ move ! (2 ∷ []) $
            walk κs qs bounds a g (all_typed 𝓛 κs ts a are))

        -- what lies at a pointer lies in a block, since nothing lies at null
        pub blocks : {Γ : List (Item 𝓤)} (F : Ptr → Fml) → ent 𝓤 (sem 𝓛 (F null_ptr)) (never 𝓤) → (y : Ptr
            → frame_of.Ghost) (p : Ptr) → AreTyped (y p) → ((b o : ℕ) → AreTyped (y (block_ptr b o))
            → Sq 𝓛 (‵ (F (block_ptr b o)) ∷ Γ) (prop (Runs (y (block_ptr b o)))))
            → Sq 𝓛 (‵ (F p) ∷ Γ) (prop (Runs (y p)))
        blocks F h y p typed k = in_a_block ! p F h (λ b o e. regoal ! (λ (r : Ptr). prop (Runs (y r))) e refl $
            k b o (subst (λ (r : Ptr). AreTyped (y r)) e typed))

      -- the tokens, the result and the `ensures` are left
      pub ends : (y : frame_of.Ghost) (v : Val) (r : Res signed y.0.0) → ent 𝓤 (sep 𝓤 (alive 𝓛 signed y.0.0 y.0.1)
          (sep 𝓤 (sem 𝓛 ((type_at result y.0.0).own_val r (v ∷ []))) ((c y.0.0 y.0.3).ensures y.1 r (at_exit ended y.0.0
          y.0.3 (lasts_at y.0.0 ts y.0.3))))) (frame_of.post y v)
      ends y v r = let ws = lasts_at y.0.0 ts y.0.3 in
          qed 𝓛 (raw (alive 𝓛 signed y.0.0 y.0.1) ∷ ‵ ((type_at result y.0.0).own_val r (v ∷ []))
          ∷ raw ((c y.0.0 y.0.3).ensures y.1 r (at_exit ended y.0.0 y.0.3 ws)) ∷ []) ∵
          use0 𝓛 (‵ (has_of y.0.0 (slots ts) (all yes (slots ts)) (stays ts) y.0.3 ws y.0.4))
          (none_left y.0.0 ts y.0.3 ws y.0.4) $ move ! (1 ∷ 0 ∷ []) $
          suffices ! _ (leaves 𝓛 ended (stays ts) c y v r ws (fit y.0.0 ts y.0.3)) $ done !

  -- the same of an export that returns nothing
  pub ends_unit : (ts : List (Taken n)) (os : List (Outlives n)) (c : Clauses 𝓤 (ended ts os back))
      (y : (frame_of ts os back c).Ghost) → ent 𝓤 (sep 𝓤 (alive 𝓛 (signed ts os back) y.0.0 y.0.1)
      ((c y.0.0 y.0.3).ensures y.1 tt (at_exit (ended ts os back) y.0.0 y.0.3 (lasts_at y.0.0 ts y.0.3))))
      ((frame_of ts os back c).post y vunit)
  ends_unit ts os c y = qed 𝓛 (raw (alive 𝓛 (signed ts os back) y.0.0 y.0.1)
      ∷ raw ((c y.0.0 y.0.3).ensures y.1 tt (at_exit (ended ts os back) y.0.0 y.0.3 (lasts_at y.0.0 ts y.0.3))) ∷ []) ∵
      feq_i ! (List Val) (vunit ∷ []) (vunit ∷ []) refl $ move ! (1 ∷ 0 ∷ []) $
      suffices ! _ (ends ts os back c y vunit tt) $ done !
