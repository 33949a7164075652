use Rattle.std.proofs.Common.{map, take}
use Rattle.c_signature.specs.Signature.{ByNumber}
use Rattle.c_signature.specs.Asked.{request_of}
use Rattle.c_signature.proofs.requests.list_rows.Given as goal

abbrev pub invariant-rows : goal.invariant-rows
invariant-rows l = ByNumber (map request_of (take l.row-index l.rows)) l.kinds.items
