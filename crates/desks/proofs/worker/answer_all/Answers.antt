use Rattle.std.proofs.Common.{rules, ◌≡◌, ◌+◌, List, [], ◌∷◌, ◌++◌, take, sym, ap, subst, ◌∙◌}
use Rattle.std.proofs.lemmas.List.{take_more}
use Rattle.live_set.specs.Asks.{QueryValue}
use Rattle.live_versions.specs.Batches.{version_of, StartsWith}
use Rattle.live_loads.proofs.Joining.{begins_trans}
use Rattle.desks.specs.Answers.{Answered}
use Rattle.desks.specs.declared.desk.Answer.{Answer}
use Rattle.desks.proofs.Answers.{answered_more, version_grows}
use Rattle.desks.proofs.worker.answer_all.Goals as goal

pub loop-index-preserved : goal.loop-index-preserved
loop-index-preserved g c =
    let qs = c.args.queries.now in
    let i = c.loop-index.index in
    let q = c.index-queries-index.result in
    let new = c.ask.new.self.batches in
    let old = c.loop-index.reader.batches in
    let first = c.args.reader.now.batches in
    let inv = c.loop-index.invariant in
    let told = c.in-Ok.ensures in
    let a : Answer = record { version = c.in-Ok.version; text = c.in-Ok.text } in
    let later : StartsWith new first = begins_trans new old first told.later inv.1 in
    let taken : take (i + 1) qs ≡ take i qs ++ q ∷ [] = take_more qs i q (search rules)
    ∙ ap (λ x. take i qs ++ x ∷ []) (sym c.index-queries-index.is) in
    let items : c.push.new.self.items ≡ c.loop-index.answers.items ++ a ∷ [] = search rules in
    let more : Answered new (version_of first) (take i qs ++ q ∷ []) (c.loop-index.answers.items ++ a ∷ []) =
    answered_more new old (version_of first) (take i qs) c.loop-index.answers.items q a told.later
    (version_grows new first later) (search rules) (search rules) inv.2 in (
      told.book ∙ inv.0,
      later,
      subst (λ (l : List QueryValue). Answered new (version_of first) l c.push.new.self.items) (sym taken) (subst (λ
          (l : List Answer). Answered new (version_of first) (take i qs ++ q ∷ []) l) (sym items) more),
    )
