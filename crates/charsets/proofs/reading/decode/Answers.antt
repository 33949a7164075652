use Rattle.std.proofs.Common.{◌≡◌, ◌-◌, length, take, drop, Some, ap, sym, ◌∙◌, arith}
use Rattle.std.specs.String.{string_bytes}
use Rattle.std.proofs.lemmas.List.{drop-drop, length-drop, take_all}
use Rattle.charsets.specs.Decoding.{front}
use Rattle.charsets.proofs.OneMore.{read_one}
use Rattle.charsets.proofs.reading.decode.Goals as goal

pub characters-preserved : goal.characters-preserved
characters-preserved g c =
    let bytes = c.args.bytes.now in
    let at = c.characters.at in
    let size = c.in-Some.size in
    let rest : take (length bytes - at) (drop at bytes) ≡ drop at bytes = take_all (length bytes - at)
    (drop at bytes) (omega (arith, length-drop at bytes)) in
    let is : front c.args.charset (drop at bytes) ≡ Some (c.in-Some.c, size) =
    sym (c.in-Some.ensures.value ∙ ap (front c.args.charset) rest) in (
      omega (arith, c.in-Some.ensures.size.1, ap length rest, length-drop at bytes, c.characters.invariant.0),
      rw c.in_ok-push-in-Some.ensures.bytes (read_one c.args.charset bytes (string_bytes c.characters.text) at
          c.in-Some.c size c.characters.invariant.1 is (drop-drop size at bytes)),
    )
