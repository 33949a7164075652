use Rattle.std.proofs.Common.{◌≡◌, ◌∙◌, ℕ, List, [], ap, sym}
use Rattle.std.specs.List.{fold}
use Rattle.std.proofs.lemmas.List.{take_all}
use Rattle.std.proofs.lemmas.List.Folds.{fold-map}
use Rattle.std.proofs.lemmas.List.Sums.{fold_more}
use Rattle.format_arguments.specs.declared.Kind.{Kind}
use Rattle.ruby_format.specs.declared.directives.Reference as code_reference
use Rattle.ruby_format.specs.RubyDirectives.{Reference}
use Rattle.ruby_format.specs.RubyFormat.{kinds_with}
use Rattle.ruby_format.specs.RubyScanning.{reference_view}
use Rattle.ruby_format.proofs.arguments.by_number.Goals as goal

next : (new old so_far : List (ℕ × Kind)) (r : Reference) → new ≡ kinds_with old r → old ≡ so_far → new
    ≡ kinds_with so_far r
next new old so_far r e f = e ∙ ap (λ (kinds : List (ℕ × Kind)). kinds_with kinds r) f

pub references-preserved : goal.references-preserved
references-preserved c =
    let step = λ (kinds : List (ℕ × Kind)) (r : code_reference.Reference). kinds_with kinds (reference_view r) in
    next _ _ _ _ c.in_ok-put.ensures c.references.invariant
    ∙ sym (fold_more step [] c.args.references.now c.references.reference-index _ c.references-test.true)

pub returns : goal.returns
returns c =
    let step = λ (kinds : List (ℕ × Kind)) (r : code_reference.Reference). kinds_with kinds (reference_view r) in
    c.references.invariant
    ∙ ap (fold step []) (take_all c.references.reference-index c.args.references.now c.references-test.false)
    ∙ sym (fold-map kinds_with reference_view [] c.args.references.now)
