use Rattle.std.proofs.Common.{◌∷◌, ◌-◌, length, refl, Some, None}
use Rattle.c_signature.specs.Pieces.{percent}
use Rattle.c_macros.proofs.ReaderLemmas.{no_directive, named_read, spelled_read}
use Rattle.c_macros.proofs.directives.read_directive.Goals as goal

pub returns-in-Some : goal.returns-in-Some
returns-in-Some c =
    let tail = c.read_head.result.1.now in
    let rest = c.in-Some.rest.now in
    named_read (record {
      head = c.read_head.result.0;
      own = Some c.in-Some.kind;
      named = Some (record { left = length tail; len = length tail - length rest });
    }) c.in-Some.kind (length tail) (length tail - length rest) (percent ∷ c.args.text.now) tail rest
    c.read_head.ensures c.in-Some.ensures refl refl refl refl

pub returns-in_err-argument : goal.returns-in_err-argument
returns-in_err-argument c = rw c.from_residual.ensures (no_directive c.read_head.result.0 (percent ∷ c.args.text.now)
    c.read_head.result.1.now c.read_head.ensures c.in_default.ensures c.in_err-argument.ensures)

pub returns : goal.returns
returns c = spelled_read (record { head = c.read_head.result.0; own = c.own_kind.result; named = None })
    c.in_ok-argument.argument (percent ∷ c.args.text.now) c.read_head.result.1.now c.in_ok-argument.rest.now
    c.read_head.ensures c.in_ok-argument.ensures c.own_kind.ensures refl
