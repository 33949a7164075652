use Rattle.std.proofs.Common.{List, ◌++◌, None, map, ap, sym, ◌∙◌}
use Rattle.std.specs.List.{flat_map}
use Rattle.std.proofs.lemmas.List.{take_all}
use Rattle.std.proofs.lemmas.List.Folds.{flat_map-map}
use Rattle.format_arguments.specs.Arguments.{Argument}
use Rattle.ruby_format.specs.declared.directives.Reference as code_reference
use Rattle.ruby_format.specs.RubyDirectives.{Reference}
use Rattle.ruby_format.specs.RubyFormat.{argument, list_of, other_asked}
use Rattle.ruby_format.specs.RubyScanning.{reference_view}
use Rattle.ruby_format.proofs.arguments.arguments.Goals as goal

abbrev asks : Reference → List Argument
asks r = list_of (other_asked r.to r.kind)

abbrev code_asks : code_reference.Reference → List Argument
code_asks r = asks (reference_view r)

pub returns : goal.returns
returns c =
    let ranked = map (λ entry. argument None entry.1) c.args.kinds.now.entries in
    let rs = c.args.references.now in
    c.references.invariant ∙ ap (λ (more : List Argument). ranked ++ more)
    (ap (flat_map code_asks) (take_all c.references.reference-index rs c.references-test.false)
    ∙ sym (flat_map-map asks reference_view rs))
