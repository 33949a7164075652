-- What directives ask for, collected one by one.
use Rattle.std.proofs.Common.{◌≡◌, ℕ, List, [], ◌∷◌, ◌++◌, None, Some, refl, sym, ap, ◌∙◌, append_assoc}
use Rattle.std.proofs.lemmas.List.{append-nil}
use Rattle.numbered_arguments.specs.declared.Kind.{Kind}
use Rattle.numbered_arguments.specs.declared.Numbered.{Numbered}
use Rattle.librep_format.specs.declared.parts.Directive.{Directive}
use Rattle.librep_format.specs.declared.counting.Counted.{Counted}
use Rattle.librep_format.specs.LibrepCounting.{number_from, argument_of_number, behind, numbered_from}
use Rattle.librep_format.specs.LibrepCounting.{numbered_arguments, next_behind, HasCounted, Takes, Adds}

numbered_more : (next : ℕ) (ds : List Directive) (d : Directive)
    → numbered_from next (ds ++ d ∷ []) ≡ numbered_from next ds
    ++ argument_of_number (number_from (next_behind next ds) d) d.kind
numbered_more next [] d = append-nil (argument_of_number (number_from next d) d.kind)
numbered_more next (e ∷ ds) d =
    let after = behind (number_from next e) e.kind in
    ap (λ (xs : List Numbered). argument_of_number (number_from next e) e.kind ++ xs) (numbered_more after ds d)
    ∙ sym (append_assoc (argument_of_number (number_from next e) e.kind) (numbered_from after ds)
    (argument_of_number (number_from (next_behind after ds) d) d.kind))

next_more : (next : ℕ) (ds : List Directive) (d : Directive)
    → next_behind next (ds ++ d ∷ []) ≡ behind (number_from (next_behind next ds) d) d.kind
next_more next [] d = refl
next_more next (e ∷ ds) d = next_more (behind (number_from next e) e.kind) ds d

collects : (old new : Counted) (ds : List Directive) (d : Directive)
    → new.asked.items ≡ old.asked.items ++ argument_of_number (number_from old.next d) d.kind
    → new.next ≡ behind (number_from old.next d) d.kind → HasCounted ds old → HasCounted (ds ++ d ∷ []) new
collects old new ds d e f h = record {
  asked = e ∙ ap (λ (xs : List Numbered). xs ++ argument_of_number (number_from old.next d) d.kind) h.asked
      ∙ ap (λ (n : ℕ). numbered_arguments ds ++ argument_of_number (number_from n d) d.kind) h.next
      ∙ sym (numbered_more 1 ds d);
  next = f ∙ ap (λ (n : ℕ). behind (number_from n d) d.kind) h.next ∙ sym (next_more 1 ds d);
}

-- a directive without an argument was also collected
pub goes_to : (old : Counted) (d : Directive) (number : ℕ) → d.kind ≡ None → number ≡ number_from old.next d
    → Adds old (record { asked = old.asked; next = number }) d
goes_to old d number none e = λ ds h. collects old (record { asked = old.asked; next = number }) ds d
    (rw none (sym (append-nil old.asked.items))) (rw none e) h

-- a directive with one was also collected
pub takes : (old new : Counted) (d : Directive) (number : ℕ) (kind : Kind) → d.kind ≡ Some kind
    → number ≡ number_from old.next d → Takes old new number kind → Adds old new d
takes old new d number kind some e t = λ ds h. collects old new ds d
    (rw some (t.asked ∙ ap (λ (n : ℕ). old.asked.items ++ argument_of_number n (Some kind)) e))
    (rw some (t.next ∙ ap (λ (n : ℕ). behind n (Some kind)) e)) h
