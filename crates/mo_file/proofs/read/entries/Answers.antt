use Rattle.std.proofs.Common.{◌≡◌, ◌+◌, ◌*◌, ℕ, List, ap, ◌∙◌}
use Rattle.mo_file.specs.Tables.{string_at}
use Rattle.mo_file.specs.Pairs.{entry_of}
use Rattle.mo_file.proofs.Named.{one_more}
use Rattle.mo_file.proofs.read.entries.Goals as goal

pub text-original-requires-clause-utf8 : goal.text-original-requires-clause-utf8
text-original-requires-clause-utf8 g c = (c.requires.original_texts.each c.loop-i.i c.loop-i-test.true).utf8

pub text-translation-requires-clause-utf8 : goal.text-translation-requires-clause-utf8
text-translation-requires-clause-utf8 g c = (c.requires.translation_texts.each c.loop-i.i c.loop-i-test.true).utf8

pub loop-i-preserved : goal.loop-i-preserved
loop-i-preserved g c =
    let number = g.T.ByteOrder.number_of in
    let bytes : List ℕ = c.args.bytes.now in
    let o : List ℕ = string_at number bytes (c.args.originals + 8 * c.loop-i.i) in
    let t : List ℕ = string_at number bytes (c.args.translations + 8 * c.loop-i.i) in
    let same : c.entry_strings.result ≡ entry_of o t =
    c.entry_strings.ensures ∙ ap (λ (x : List ℕ). entry_of x c.text-translation.result.now) c.text-original.ensures
    ∙ ap (entry_of o) c.text-translation.ensures in
    one_more number bytes c.args.originals c.args.translations c.args.n c.loop-i.i c.loop-i.entries.items
    c.push.new.self.items c.entry_strings.result _ c.loop-i-test.true same c.in_ok-push.ensures.items
    c.loop-i.invariant
