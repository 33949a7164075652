use Rattle.std.proofs.Common.{◌≡◌, ℕ, true, false, cond, List, Option, Some, refl, ap, sym, ◌∙◌, inl, inr}
use Rattle.std.specs.Option.{unwrap_or}
use Rattle.std.specs.Str.{bytes_eq}
use Rattle.std.proofs.lemmas.Bool.{cases_Bool}
use Rattle.std.proofs.lemmas.Map.Text.{btree_map_updates_str}
use Rattle.std.proofs.lemmas.Slice.Eq.{bytes_eq-Decides}
use Rattle.format_arguments.specs.declared.Kind.{Kind}
use Rattle.format_arguments.specs.declared.kinds.Kinds.{Kinds}
use Rattle.format_arguments.specs.Indexing.{add, kinds_in, more, no_kinds}
use Rattle.format_arguments.proofs.index.Index.add.Goals as goal

hit : (n q : List ℕ) → n ≡ q → bytes_eq q n ≡ true
hit n q e = (bytes_eq-Decides q n).1 (sym e)

miss : (n q : List ℕ) → bytes_eq n q ≡ false → bytes_eq q n ≡ false
miss n q e = elim (cases_Bool (bytes_eq q n)) [
  | inl same ↦ let here : bytes_eq n q ≡ true = hit q n ((bytes_eq-Decides q n).0 same) in absurd (cc (here, e))
  | inr differs ↦ differs
]

-- what is found after the kinds of the name n are set to v
put_is : (n q : List ℕ) (name : Option (List ℕ)) (kind : Kind) (old : List ℕ → Option Kinds) (new : Option Kinds)
    (before v : Kinds) → name ≡ Some n → before ≡ unwrap_or (old n) no_kinds → v ≡ more before kind
    → new ≡ cond (bytes_eq n q) (Some v) (old q) → new ≡ add q (old q) (record { name = name; kind = kind })
put_is n q name kind old new before v named f g e = elim (cases_Bool (bytes_eq n q)) [
  | inl same ↦
      let is : n ≡ q = (bytes_eq-Decides n q).0 same in
      let found : new ≡ Some v = rw same at e in
      rw (named, hit n q is) (found ∙ ap (λ (k : Kinds). Some k) (g ∙ ap (λ (b : Kinds). more b kind)
      (f ∙ ap (λ (m : List ℕ). unwrap_or (old m) no_kinds) is)))
  | inr differs ↦
      let found : new ≡ old q = rw differs at e in
      rw (named, miss n q differs) found
]

pub returns : goal.returns
returns c = λ q.
    let old = c.args.self.now in
    put_is c.in-Some.name.now q _ c.args.argument.kind (kinds_in old) _ c.unwrap_or-before.result c.with.result
    (rw c.in-Some.is refl) (cc (c.unwrap_or-before.ensures, c.kinds_by.ensures, c.none.ensures)) c.with.ensures
    (btree_map_updates_str c.in-Some.name.now old.kinds c.insert.new.self _ c.in_ok-insert.ensures.updates q)
