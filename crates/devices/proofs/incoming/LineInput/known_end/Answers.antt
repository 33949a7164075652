use Rattle.std.proofs.Common.{◌∙◌, sym}
use Rattle.devices.proofs.Ends.{known_at, known_at_end, known_nowhere, rest_is}
use Rattle.devices.proofs.incoming.LineInput.known_end.Goals as goal

pub returns-in-Some : goal.returns-in-Some
returns-in-Some c = known_at c.args.self.now c.args.from c.args.searched c.in-Some.at c.requires.low c.requires.high
    c.requires.lacks (rw (c.left-left.ensures, rest_is c.args.self.now.left c.args.searched) at c.in-Some.ensures)

pub returns-then-has_ended : goal.returns-then-has_ended
returns-then-has_ended c =
    let none = rw (c.left-left.ensures, rest_is c.args.self.now.left c.args.searched) at c.in_default.ensures in
    rw c.left-left.ensures (known_at_end c.args.self.now c.args.from c.args.searched c.requires.low c.requires.high
    c.requires.lacks none (sym c.has_ended.ensures ∙ c.if-has_ended.true))

pub returns : goal.returns
returns c =
    let none = rw (c.left-left.ensures, rest_is c.args.self.now.left c.args.searched) at c.in_default.ensures in
    known_nowhere c.args.self.now c.args.from c.args.searched c.requires.high c.requires.lacks none
    (sym c.has_ended.ensures ∙ c.if-has_ended.false)
