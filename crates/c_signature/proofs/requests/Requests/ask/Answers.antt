use Rattle.std.proofs.Common.{refl}
use Rattle.c_signature.proofs.RequestLemmas.{holds_next, holds_row}
use Rattle.c_signature.proofs.requests.Requests.ask.Goals as goal

pub returns-in_ok-push-in-None : goal.returns-in_ok-push-in-None
returns-in_ok-push-in-None c asked holds = rw c.in-None.is (holds_next asked c.args.self.now _ c.args.kind holds
    c.in_ok-push-in-None.ensures.items refl)

pub returns-in_ok-push-in-Some : goal.returns-in_ok-push-in-Some
returns-in_ok-push-in-Some c asked holds = rw c.in-Some.is (holds_row asked c.args.self.now _ c.in-Some.number
    c.args.kind holds refl c.in_ok-push-in-Some.ensures.items)
