use Rattle.life.proofs.Clients.{kept_book, served_all}
use Rattle.life.proofs.Seated.{seated_book, seated_learnt}
use Rattle.life.proofs.snapshots.run.run_clients.Goals as goal

pub settle_all-requires-clause-book : goal.settle_all-requires-clause-book
settle_all-requires-clause-book g c =
    let start = c.args.publisher.now.seen in
    kept_book start c.run_all.new.publisher.seen _ _ c.run_all.ensures.book
    (seated_book start c.args.clients.now c.requires.seated) c.run_all.ensures.kept

pub returns-clause-served : goal.returns-clause-served
returns-clause-served g c =
    let start = c.args.publisher.now.seen in
    served_all start c.run_all.new.publisher.seen _ _ _ _ (seated_learnt start c.args.clients.now c.requires.seated)
    c.run_all.ensures.kept c.in_ok-run_all.ensures.answered c.in_ok-settle_all.ensures
