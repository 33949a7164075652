use Rattle.life.proofs.Common.{◌≡◌, ◌∙◌, ap, sym, subst, AllZip, SeenValue, HasLearnt}
use Rattle.life.specs.Clients.{IsServed}
use Rattle.life.proofs.Clients.{kept_then, kept_book, learnt_kept, served_all}
use Rattle.life.proofs.service.run_slice.Goals as goal

pub run_all-requires-clause-book : goal.run_all-requires-clause-book
run_all-requires-clause-book g c = λ κs lives.
    kept_book c.args.publisher.now.seen c.tell-opening.new.self.seen _ _
    (ap (λ p. p.seen.book) c.tell-opening.ensures.same) c.requires.book (learnt_kept _ _ _ c.learn_all.ensures)

pub returns-in_err-run_all-clause-kept : goal.returns-in_err-run_all-clause-kept
returns-in_err-run_all-clause-kept g c =
    kept_then _ _ _ (learnt_kept _ _ _ c.learn_all.ensures) c.run_all.ensures.kept

pub settle_all-requires : goal.settle_all-requires
settle_all-requires g c =
    let book = λ (f : SeenValue). f.book in
    let same = ap book c.tell-closing.ensures.notice ∙ c.run_all.ensures.book
    ∙ ap (λ p. p.seen.book) c.tell-opening.ensures.same in
    kept_book c.args.publisher.now.seen c.tell-closing.result _ _ same c.requires.book
    (kept_then _ _ _ (learnt_kept _ _ _ c.learn_all.ensures) c.run_all.ensures.kept)

pub returns-in_err-settle_all-clause-kept : goal.returns-in_err-settle_all-clause-kept
returns-in_err-settle_all-clause-kept g c =
    kept_then _ _ _ (kept_then _ _ _ (learnt_kept _ _ _ c.learn_all.ensures) c.run_all.ensures.kept)
    c.settle_all.ensures.kept

pub returns-clause-kept : goal.returns-clause-kept
returns-clause-kept g c =
    kept_then _ _ _ (kept_then _ _ _ (learnt_kept _ _ _ c.learn_all.ensures) c.run_all.ensures.kept)
    c.settle_all.ensures.kept

pub returns-clause-served : goal.returns-clause-served
returns-clause-served g c =
    let told : c.tell-closing.result ≡ c.tell-closing.new.self.seen = c.tell-closing.ensures.notice
    ∙ sym (ap (λ p. p.seen) c.tell-closing.ensures.same) in
    let learnt = subst (λ (f : SeenValue). AllZip (HasLearnt f) c.args.clients.now c.learn_all.new.clients)
    c.tell-opening.ensures.notice c.learn_all.ensures in
    subst (λ (f : SeenValue). AllZip (IsServed c.args.publisher.now.seen f) c.args.clients.now c.settle_all.new.clients)
    told
    (served_all _ _ _ _ _ _ learnt c.run_all.ensures.kept c.in_ok-run_all.ensures.answered
    c.in_ok-settle_all.ensures.settled)
