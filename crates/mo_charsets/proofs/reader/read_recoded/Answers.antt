use Rattle.std.proofs.Common.{◌≡◌, ap, subst, sym, arith, ◌∙◌}
use Rattle.std.proofs.lemmas.Result.{err_from_is_err_and}
use Rattle.any_charset.specs.Declaring.{NamesNone}
use Rattle.mo_file.specs.declared.fault.MoFault.TheVariants.{TooLarge, Short}
use Rattle.mo_segments.specs.MessageStrings.{strings_of}
use Rattle.mo_charsets.specs.MoRecoding.{header_of}
use Rattle.mo_charsets.proofs.Files.{passes_size, no_charset, not_decoded}
use Rattle.mo_charsets.proofs.reader.read_recoded.Goals as goal

pub read_messages-requires-clause-short : goal.read_messages-requires-clause-short
read_messages-requires-clause-short c =
    passes_size c.args.bytes.now c.args.strict c.requires.0 c.requires.1 TooLarge (omega arith)

pub read_messages-requires-clause-long : goal.read_messages-requires-clause-long
read_messages-requires-clause-long c =
    passes_size c.args.bytes.now c.args.strict c.requires.0 c.requires.1 Short (omega arith)

pub returns-in_default-clause-err : goal.returns-in_default-clause-err
returns-in_default-clause-err c = no_charset c.args.bytes.now (strings_of c.in_ok-messages.messages.items)
    c.args.strict c.in_ok-messages.ensures.ok
    (λ header is. let e = c.in_default.ensures ∙ ap (λ ms. header_of (strings_of ms)) c.deref.ensures.value ∙ is in
    absurd (cc e))

pub returns-in_default-named-clause-err : goal.returns-in_default-named-clause-err
returns-in_default-named-clause-err c = no_charset c.args.bytes.now (strings_of c.in_ok-messages.messages.items)
    c.args.strict c.in_ok-messages.ensures.ok
    (λ header is. let e = c.in-Some.ensures ∙ ap (λ ms. header_of (strings_of ms)) c.deref.ensures.value ∙ is in
    let same : c.in-Some.header.now ≡ header = cc e in
    subst NamesNone same c.in_default-named.ensures.names)

pub returns-in_err-decoded-clause-err : goal.returns-in_err-decoded-clause-err
returns-in_err-decoded-clause-err c =
    let p = err_from_is_err_and c.from_residual-in_err-decoded.result c.from_residual-in_err-decoded.ensures.1 in
    rw (p.1, p.2) (not_decoded c.args.bytes.now (strings_of c.in_ok-messages.messages.items)
    (strings_of c.deref-2.result.now) c.in-Some-named.declared.charset c.args.strict c.in_err-decoded.field-0.0
    (c.args.strict, c.requires.0, c.requires.1) c.in_ok-messages.ensures.ok (record {
      header = c.in-Some.header.now;
      is = sym (c.in-Some.ensures ∙ ap (λ ms. header_of (strings_of ms)) c.deref.ensures.value);
      at = c.in-Some-named.declared.at;
      renamed = c.in_ok-renamed.renamed.items;
      names = rw c.in_ok-renamed.ensures c.in-Some-named.ensures.names;
      named_is = ap strings_of c.deref-2.ensures.value ∙ c.put_header.ensures;
    }) c.in_err-decoded.ensures)
