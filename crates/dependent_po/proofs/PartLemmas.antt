-- Messages in two parts, one after another.
use Rattle.std.proofs.Common.{◌≡◌, Bool, true, false, List, [], ◌∷◌, ◌++◌, map, sym, ap, ◌∙◌}
use Rattle.std.specs.Prelude.{cond, not}
use Rattle.std.specs.List.{filter}
use Rattle.std.proofs.lemmas.List.{append-nil, map-append}
use Rattle.std.proofs.lemmas.List.Elements.{filter-append}
use Rattle.po_text.specs.Entries as po
use Rattle.mo_segments.specs.MessageStrings.{Strings, strings_in, strings_of}
use Rattle.mo_segments.specs.declared.messages.Strings.{Strings as Held}
use Rattle.dependent_po.specs.EntryGathering.{AreGathered, AddsMessage, Messages}
use Rattle.dependent_po.specs.SplitMessages.{Message, AreMessages, IsMessageOf, has_split, is_static}
use Rattle.dependent_po.specs.SplitViews.{message_in, messages_in, Dependent}

filter_more : {X : Type 0} (p : X → Bool) (xs : List X) (x : X) → p x ≡ true → filter p (xs ++ x ∷ [])
    ≡ filter p xs ++ x ∷ []
filter_more p xs x is = filter-append p xs (x ∷ []) ∙ ap (λ b. filter p xs ++ cond b (x ∷ []) []) is

filter_skip : {X : Type 0} (p : X → Bool) (xs : List X) (x : X) → p x ≡ false → filter p (xs ++ x ∷ []) ≡ filter p xs
filter_skip p xs x is = filter-append p xs (x ∷ []) ∙ ap (λ b. filter p xs ++ cond b (x ∷ []) []) is
    ∙ append-nil (filter p xs)

messages_push : (es : List po.Entry) (ms : List Message) (e : po.Entry) (m : Message) → AreMessages es ms
    → IsMessageOf e m → AreMessages (es ++ e ∷ []) (ms ++ m ∷ [])
messages_push [] [] e m are is = (is, tt)
messages_push [] (n ∷ ms) e m are is = absurd are
messages_push (x ∷ es) [] e m are is = absurd are
messages_push (x ∷ es) (n ∷ ms) e m (one, rest) is = (one, messages_push es ms e m rest is)

pub none_gathered : (held : Messages) → held.statics.items ≡ [] → held.dependents.items ≡ [] → AreGathered [] held
none_gathered held no_static no_dependent = record {
  messages = [];
  are = tt;
  statics_are = ap strings_of no_static;
  dependents_are = ap messages_in no_dependent;
}

-- a message with a split
pub dependent_added : (e : po.Entry) (d : Dependent) (old new : Messages) → IsMessageOf e (message_in d)
    → has_split (message_in d) ≡ true → new.dependents.items ≡ old.dependents.items ++ d ∷ [] → new.statics.items
    ≡ old.statics.items → AddsMessage e old new
dependent_added e d old new is has pushed same es g =
    let m : Message = message_in d in
    record {
      messages = g.messages ++ m ∷ [];
      are = messages_push es g.messages e m g.are is;
      statics_are = ap strings_of same ∙ g.statics_are
          ∙ sym (ap (map (λ (n : Message). n.strings)) (filter_skip is_static g.messages m (ap not has)));
      dependents_are = ap messages_in pushed ∙ map-append message_in old.dependents.items (d ∷ [])
          ∙ ap (λ (ms : List Message). ms ++ m ∷ []) g.dependents_are ∙ sym (filter_more has_split g.messages m has);
    }

-- a message without one
pub static_added : (e : po.Entry) (d : Dependent) (held : Held) (old new : Messages) → IsMessageOf e (message_in d)
    → has_split (message_in d) ≡ false → strings_in held ≡ (message_in d).strings
    → new.statics.items ≡ old.statics.items ++ held ∷ [] → new.dependents.items ≡ old.dependents.items
    → AddsMessage e old new
static_added e d held old new is lacks own pushed same es g =
    let m : Message = message_in d in
    record {
      messages = g.messages ++ m ∷ [];
      are = messages_push es g.messages e m g.are is;
      statics_are = ap strings_of pushed ∙ map-append strings_in old.statics.items (held ∷ [])
          ∙ ap (λ (s : Strings). strings_of old.statics.items ++ s ∷ []) own
          ∙ ap (λ (ss : List Strings). ss ++ m.strings ∷ []) g.statics_are
          ∙ sym (ap (map (λ (n : Message). n.strings)) (filter_more is_static g.messages m (ap not lacks))
          ∙ map-append (λ (n : Message). n.strings) (filter is_static g.messages) (m ∷ []));
      dependents_are = ap messages_in same ∙ g.dependents_are ∙ sym (filter_skip has_split g.messages m lacks);
    }
