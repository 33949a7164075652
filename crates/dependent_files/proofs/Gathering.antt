-- One more message of several.
use Rattle.std.proofs.Common.{◌≡◌, ℕ, suc, ◌<◌, List, [], ◌∷◌, ◌++◌, length, take, get_or, Some, None, ap, sym, ◌∙◌}
use Rattle.std.proofs.Common.{arith}
use Rattle.std.specs.Prelude.{Option}
use Rattle.std.specs.List.{cons_option, filter_map}
use Rattle.std.proofs.Math.Seq.{take-suc}
use Rattle.std.proofs.lemmas.List.{append_assoc, append-nil, get_or_default, length-map, map-append}
use Rattle.std.proofs.Math.ListN.{get_or-map}
use Rattle.std.proofs.lemmas.List.Elements.{filter_map-append}
use Rattle.mo_segments.specs.declared.messages.Strings.{Strings as Held}
use Rattle.mo_segments.specs.MessageStrings.{Strings, strings_in, strings_of}
use Rattle.dependent_files.specs.MessagesHere.{message_here, messages_here, Dependent}

pub strings_next : (messages : List Held) (i n : ℕ) (message : Held) → n ≡ suc i → i < length messages
    → message ≡ get_or messages i message
    → strings_of (take n messages) ≡ strings_of (take i messages) ++ strings_in message ∷ []
strings_next messages i n message next lt is = ap (λ (k : ℕ). strings_of (take k messages)) next
    ∙ ap strings_of (take-suc messages i message lt ∙ ap (λ (m : Held). take i messages ++ m ∷ []) (sym is))
    ∙ map-append strings_in (take i messages) (message ∷ [])

module _ (statics : List Strings) (ds : List Dependent) (i n : ℕ) (d : Dependent) (done : List Strings)
    (next : n ≡ suc i) (lt : i < length ds) (is : d ≡ get_or ds i d)
    (before : done ≡ messages_here statics (take i ds)) where
  front : messages_here statics (take n ds) ≡ messages_here statics (take i ds) ++ filter_map message_here (d ∷ [])
  front = ap (λ (k : ℕ). messages_here statics (take k ds)) next
      ∙ ap (messages_here statics) (take-suc ds i d lt ∙ ap (λ (m : Dependent). take i ds ++ m ∷ []) (sym is))
      ∙ ap (λ (l : List Strings). statics ++ l) (filter_map-append message_here (take i ds) (d ∷ []))
      ∙ sym (append_assoc statics (filter_map message_here (take i ds)) (filter_map message_here (d ∷ [])))

  pub one_known : (held : Held) → Some (strings_in held) ≡ message_here d
      → done ++ strings_in held ∷ [] ≡ messages_here statics (take n ds)
  one_known held known = ap (λ (l : List Strings). l ++ strings_in held ∷ []) before
      ∙ ap (λ (o : Option Strings). messages_here statics (take i ds) ++ cons_option o []) known ∙ sym front

  pub one_unknown : None ≡ message_here d → done ≡ messages_here statics (take n ds)
  one_unknown none = before ∙ sym (append-nil (messages_here statics (take i ds)))
      ∙ ap (λ (o : Option Strings). messages_here statics (take i ds) ++ cons_option o []) none ∙ sym front

-- ---- the same messages

module _ (ms os : List Held) (i : ℕ) (m o : Held) (lt : i < length ms) (lt_other : i < length os)
    (is : m ≡ get_or ms i m) (is_other : o ≡ get_or os i o) where
  pub same_so_far : (n : ℕ) → n ≡ suc i → strings_of (take i ms) ≡ strings_of (take i os)
      → strings_in m ≡ strings_in o → strings_of (take n ms) ≡ strings_of (take n os)
  same_so_far n next before same = strings_next ms i n m next lt is
      ∙ ap (λ (l : List Strings). l ++ strings_in m ∷ []) before
      ∙ ap (λ (s : Strings). strings_of (take i os) ++ s ∷ []) same ∙ sym (strings_next os i n o next lt_other is_other)

  pub same_here : strings_of ms ≡ strings_of os → strings_in m ≡ strings_in o
  same_here same =
      let within : i < length (strings_of os) = omega (arith, length-map os strings_in, lt_other) in
      ap strings_in is ∙ sym (get_or-map strings_in ms i m)
      ∙ ap (λ (l : List Strings). get_or l i (strings_in m)) same
      ∙ get_or_default (strings_of os) i (strings_in m) (strings_in o) within
      ∙ get_or-map strings_in os i o ∙ ap strings_in (sym is_other)
