use Rattle.std.proofs.Common.{◌≡◌, ◌∙◌, ap, sym, subst}
use Rattle.std.specs.List.{AllZip}
use Rattle.live_versions.specs.Seen.{SeenValue}
use Rattle.desks.specs.Desks.{IsServed}
use Rattle.desks.specs.Working.{HasLearnt}
use Rattle.desks.proofs.Desks.{worked_kept, kept_then, kept_book, worked_not_ahead, served_all, desk_fault}
use Rattle.desks.proofs.service.serve_slice.Goals as goal

pub returns-in_err-run_all-clause-kept : goal.returns-in_err-run_all-clause-kept
returns-in_err-run_all-clause-kept g c = worked_kept _ _ _ _ c.learn_all.ensures c.run_all.ensures.worked

pub first_fault-requires : goal.first_fault-requires
first_fault-requires g c = worked_not_ahead _ _ c.run_all.ensures.worked

pub returns-in-Some-clause-kept : goal.returns-in-Some-clause-kept
returns-in-Some-clause-kept g c = worked_kept _ _ _ _ c.learn_all.ensures c.run_all.ensures.worked

pub settle_all-requires : goal.settle_all-requires
settle_all-requires g c =
    let book = λ (f : SeenValue). f.book in
    let same = ap book c.tell-closing.ensures.notice ∙ c.run_all.ensures.book
    ∙ ap (λ p. p.seen.book) c.tell-opening.ensures.same in
    kept_book c.args.publisher.now.seen c.tell-closing.result _ _ same c.requires.book
    (worked_kept _ _ _ _ c.learn_all.ensures c.run_all.ensures.worked)

pub returns-in-Ok-clause-kept : goal.returns-in-Ok-clause-kept
returns-in-Ok-clause-kept g c =
    kept_then _ _ _ (worked_kept _ _ _ _ c.learn_all.ensures c.run_all.ensures.worked) c.settle_all.ensures.kept

pub returns-in-Ok-clause-desks : goal.returns-in-Ok-clause-desks
returns-in-Ok-clause-desks g c =
    let told : c.tell-closing.result ≡ c.tell-closing.new.self.seen = c.tell-closing.ensures.notice
    ∙ sym (ap (λ p. p.seen) c.tell-closing.ensures.same) in
    let learnt = subst (λ (f : SeenValue). AllZip (HasLearnt f) c.args.desks.now c.learn_all.new.desks)
    c.tell-opening.ensures.notice c.learn_all.ensures in
    subst (λ (f : SeenValue). AllZip (IsServed c.args.publisher.now.seen f) c.args.desks.now c.settle_all.new.desks)
    told (served_all _ _ _ _ _ _ learnt c.run_all.ensures.worked c.in_default.ensures.none c.in-Ok.ensures.settled)

pub returns-clause-kept : goal.returns-clause-kept
returns-clause-kept g c =
    kept_then _ _ _ (worked_kept _ _ _ _ c.learn_all.ensures c.run_all.ensures.worked) c.settle_all.ensures.kept

pub returns-in_err-run_all-clause-store : goal.returns-in_err-run_all-clause-store
returns-in_err-run_all-clause-store g c =
    let same = c.run_all.ensures.book ∙ ap (λ p. p.seen.book) c.tell-opening.ensures.same in
    kept_book c.args.publisher.now.seen c.run_all.new.publisher.seen _ _ same c.requires.book
    (worked_kept _ _ _ _ c.learn_all.ensures c.run_all.ensures.worked)

pub returns-in-Some-clause-store : goal.returns-in-Some-clause-store
returns-in-Some-clause-store g c =
    let same = c.run_all.ensures.book ∙ ap (λ p. p.seen.book) c.tell-opening.ensures.same in
    kept_book c.args.publisher.now.seen c.run_all.new.publisher.seen _ _ same c.requires.book
    (worked_kept _ _ _ _ c.learn_all.ensures c.run_all.ensures.worked)

pub returns-in-Ok-clause-store : goal.returns-in-Ok-clause-store
returns-in-Ok-clause-store g c =
    let same = ap (λ p. p.seen.book) c.tell-closing.ensures.same ∙ c.run_all.ensures.book
    ∙ ap (λ p. p.seen.book) c.tell-opening.ensures.same in
    kept_book c.args.publisher.now.seen c.tell-closing.new.self.seen _ _ same c.requires.book
    (kept_then _ _ _ (worked_kept _ _ _ _ c.learn_all.ensures c.run_all.ensures.worked) c.settle_all.ensures.kept)

pub returns-clause-store : goal.returns-clause-store
returns-clause-store g c =
    let same = ap (λ p. p.seen.book) c.tell-closing.ensures.same ∙ c.run_all.ensures.book
    ∙ ap (λ p. p.seen.book) c.tell-opening.ensures.same in
    kept_book c.args.publisher.now.seen c.tell-closing.new.self.seen _ _ same c.requires.book
    (kept_then _ _ _ (worked_kept _ _ _ _ c.learn_all.ensures c.run_all.ensures.worked) c.settle_all.ensures.kept)

pub returns-in-Some-clause-fault : goal.returns-in-Some-clause-fault
returns-in-Some-clause-fault g c =
    desk_fault c.run_all.new.publisher.seen c.run_all.new.desks _ c.in-Some.ensures.fault c.in-Some.ensures.of_desk
