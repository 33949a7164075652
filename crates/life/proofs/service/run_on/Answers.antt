use Rattle.life.proofs.Clients.{kept_book}
use Rattle.life.proofs.Running.{run_lives}
use Rattle.life.proofs.service.run_on.Goals as goal

pub returns-in-Ok-clause-life : goal.returns-in-Ok-clause-life
returns-in-Ok-clause-life g c =
    run_lives c.args.publisher.now c.run_slice.new.publisher c.args.commands.now c.run_slice.new.outcomes.items
    c.args.clients.now c.run_slice.new.clients c.in-Ok.ensures.does c.in-Ok.ensures.served

pub returns-in-Ok-clause-again : goal.returns-in-Ok-clause-again
returns-in-Ok-clause-again g c =
    kept_book c.args.publisher.now.seen c.run_slice.new.publisher.seen _ _ c.run_slice.ensures.book c.requires.book
    c.run_slice.ensures.kept

pub returns-in-Err-clause-again : goal.returns-in-Err-clause-again
returns-in-Err-clause-again g c =
    kept_book c.args.publisher.now.seen c.run_slice.new.publisher.seen _ _ c.run_slice.ensures.book c.requires.book
    c.run_slice.ensures.kept
