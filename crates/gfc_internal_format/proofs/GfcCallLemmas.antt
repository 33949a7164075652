-- The kinds in the order of their numbers, one by one.
use Rattle.std.proofs.Common.{◌≡◌, ℕ, ◌+◌, ◌<◌, List, [], ◌∷◌, ◌++◌, length, drop, Option, None, Some, sym, ap, ◌∙◌}
use Rattle.std.proofs.Common.{append_assoc}
use Rattle.std.proofs.lemmas.List.{append-nil, at_drop_more}
use Rattle.numbered_arguments.specs.declared.Kind.{Kind}
use Rattle.numbered_arguments.specs.declared.Kind.TheVariants.{Any}
use Rattle.numbered_arguments.specs.declared.Numbered.{Numbered}
use Rattle.numbered_arguments.specs.NumberedArguments.{kind_at}
use Rattle.script_formats.specs.ScriptParts.{following_number}
use Rattle.gfc_internal_format.specs.GfcArguments.{kind_before, kinds_from, kinds_of}

module _ (asked : List Numbered) (i number : ℕ) (kinds : List Kind)
    (so_far : kinds ++ kinds_from number (drop i asked) asked ≡ kinds_of asked) where
  abbrev after : List Kind
  after = kinds_from (following_number number) (drop (i + 1) asked) asked

  next_kind : i < length asked → kinds_from number (drop i asked) asked ≡ kind_before (kind_at number asked) after
  next_kind less =
      at_drop_more (λ (xs : List Numbered). kinds_from number xs asked) asked i (record { number = 0; kind = Any }) less

  pub one_kind_more : (kind : Kind) → i < length asked → kind_at number asked ≡ Some kind
      → (kinds ++ kind ∷ []) ++ kinds_from (following_number number) (drop (i + 1) asked) asked ≡ kinds_of asked
  one_kind_more kind less found = append_assoc kinds (kind ∷ []) after
      ∙ ap (λ (xs : List Kind). kinds ++ xs) (sym (next_kind less
      ∙ ap (λ (k : Option Kind). kind_before k after) found)) ∙ so_far

  all_kinds : kinds_from number (drop i asked) asked ≡ [] → kinds ≡ kinds_of asked
  all_kinds none = sym (append-nil kinds) ∙ ap (λ (xs : List Kind). kinds ++ xs) (sym none) ∙ so_far

  pub no_kind_more : i < length asked → kind_at number asked ≡ None → kinds ≡ kinds_of asked
  no_kind_more less none = all_kinds (next_kind less ∙ ap (λ (k : Option Kind). kind_before k after) none)
