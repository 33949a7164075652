-- The faults of an entry, collected form by form.
use Rattle.std.proofs.Common.{◌≡◌, ℕ, ◌+◌, ◌<◌, ◌≤◌, Bool, true, false, List, [], ◌∷◌, ◌++◌, length, take, get_or}
use Rattle.std.proofs.Common.{Option, None, Some, Result, Ok, Err, IfOk}
use Rattle.std.proofs.Common.{refl, sym, ap, subst, ◌∙◌, append_assoc, inl, inr}
use Rattle.std.specs.List.{flat_map}
use Rattle.std.proofs.lemmas.Bool.{cases_Bool}
use Rattle.std.proofs.lemmas.List.{append-nil, take_more, take_all, flat_map_more}
use Rattle.format_flags.specs.declared.languages.Language.{Language}
use Rattle.format_checks.specs.declared.Difference.{Difference}
use Rattle.format_checks.specs.declared.Fault.{Fault}
use Rattle.format_arguments.specs.declared.FormatFault.{FormatFault}
use Rattle.format_arguments.specs.declared.FormatFault.TheVariants.{Invalid, Memory}
use Rattle.format_arguments.specs.declared.Strictness.{Strictness}
use Rattle.format_flags.specs.declared.languages.Language.TheVariants.{Python, PythonBrace, Shell, PerlBrace}
use Rattle.format_flags.specs.declared.languages.Language.TheVariants.{ObjectiveC, Scheme, Lisp, Ruby}
use Rattle.format_arguments.specs.Arguments.{Argument}
use Rattle.numbered_arguments.specs.declared.Numbered as code_numbered
use Rattle.objc_format.specs.ObjcFormat as objc_format
use Rattle.lisp_formats.specs.declared.Kind as code_placed
use Rattle.lisp_formats.specs.declared.Notation.{Notation as LispNotation}
use Rattle.lisp_formats.specs.LispFormat as lisp_formats
use Rattle.format_checks.specs.FormatLanguages.{Asked, Named, Numbered, Placed, Lists, HasFault, IsNoFormat, is_named}
use Rattle.format_checks.specs.FormatLanguages.{ListsNamed, FailsNamed, ListsNumbered, FailsNumbered, lisp_of}
use Rattle.format_checks.specs.FormatLanguages.{Reading, Format, NoFormat, Unread, IsReading, IsPlacedReading}
use Rattle.format_checks.specs.FormatLanguages.{is_objc, IsOtherUnread, IsObjcReading}
use Rattle.format_flags.specs.FormatFlags.{has}
use Rattle.format_checks.specs.FlaggedEntries.{Entry, original, rule_for}
use Rattle.format_checks.specs.FormatFaults.{Question, question, questions_from, questions, flagged_questions}
use Rattle.format_checks.specs.FormatFaults.{checked_languages, all_questions, IsVerdict, HasVerdict, fault_of, list_of}
use Rattle.format_checks.specs.FormatFaults.{AreFaults, AddsFaults}

-- ---- lists of faults

are_both : (line : ℕ) (qs rs : List Question) (f g : List Fault) → AreFaults line qs f → AreFaults line rs g
    → AreFaults line (qs ++ rs) (f ++ g)
are_both line [] rs f g none y = subst (λ (h : List Fault). AreFaults line rs (h ++ g)) (sym none) y
are_both line (q ∷ qs) rs f g (verdict, rest, has, more, e) y = (
  verdict,
  rest ++ g,
  has,
  are_both line qs rs rest g more y,
  ap (λ (h : List Fault). h ++ g) e ∙ append_assoc (list_of (fault_of line q.language q.form verdict)) rest g,
)

pub adds_both : (line : ℕ) (qs rs : List Question) (a b c : List Fault) → AddsFaults line qs a b
    → AddsFaults line rs b c → AddsFaults line (qs ++ rs) a c
adds_both line qs rs a b c (f, e, x) (g, h, y) = (
  f ++ g,
  h ∙ ap (λ (t : List Fault). t ++ g) e ∙ append_assoc a f g,
  are_both line qs rs f g x y,
)

pub adds_nothing : (line : ℕ) (a : List Fault) → AddsFaults line [] a a
adds_nothing line a = ([], sym (append-nil a), refl)

pub adds_unflagged : (line : ℕ) (e : Entry) (often : List Bool) (language : Language) (a : List Fault)
    → has e.flags language ≡ false → AddsFaults line (flagged_questions e often language) a a
adds_unflagged line e often language a none = rw none (adds_nothing line a)

pub adds_flagged : (line : ℕ) (e : Entry) (often : List Bool) (language : Language) (a b : List Fault)
    → has e.flags language ≡ true → AddsFaults line (questions e often language) a b
    → AddsFaults line (flagged_questions e often language) a b
adds_flagged line e often language a b is adds = rw is adds

-- ---- language by language

pub adds_language : (line : ℕ) (e : Entry) (often : List Bool) (index : ℕ) (a b c : List Fault)
    → index < length checked_languages → AddsFaults line
    (flat_map (flagged_questions e often) (take index checked_languages)) a b
    → AddsFaults line (flagged_questions e often (get_or checked_languages index ObjectiveC)) b c
    → AddsFaults line (flat_map (flagged_questions e often) (take (index + 1) checked_languages)) a c
adds_language line e often index a b c lt so_far more =
    let asks = flagged_questions e often in
    let language = get_or checked_languages index ObjectiveC in
    let cut = ap (flat_map asks) (take_more checked_languages index ObjectiveC lt) in
    let joined = flat_map_more asks [] (take index checked_languages) language in
    subst (λ (qs : List Question). AddsFaults line qs a c) (joined ∙ sym cut)
    (adds_both line (flat_map asks (take index checked_languages)) (asks language) a b c so_far more)

pub adds_all : (line : ℕ) (e : Entry) (often : List Bool) (index : ℕ) (a b : List Fault)
    → length checked_languages ≤ index
    → AddsFaults line (flat_map (flagged_questions e often) (take index checked_languages)) a b
    → AddsFaults line (all_questions e often) a b
adds_all line e often index a b le so_far =
    subst (λ (ls : List Language). AddsFaults line (flat_map (flagged_questions e often) ls) a b)
    (take_all index checked_languages le) so_far

-- ---- form by form

-- the forms up to this one were compared; these are left
pub record HasCompared (line : ℕ) (e : Entry) (often : List Bool) (language : Language) (form : ℕ)
    (left : List (List ℕ)) (old now : List Fault) : Type 0 where
  pub found : List Fault
  pub added : now ≡ old ++ found
  pub on : (rest : List Fault) → AreFaults line (questions_from e often language form left) rest
      → AreFaults line (questions e often language) (found ++ rest)

pub compared_none : (line : ℕ) (e : Entry) (often : List Bool) (language : Language) (form : ℕ) (old : List Fault)
    → form ≡ 0 → HasCompared line e often language form e.forms old old
compared_none line e often language form old is = record {
  found = [];
  added = sym (append-nil old);
  on = λ rest x. subst (λ (k : ℕ). AreFaults line (questions_from e often language k e.forms) rest) is x;
}

pub compared_more : (line : ℕ) (e : Entry) (often : List Bool) (language : Language) (form next : ℕ)
    (left later : List (List ℕ)) (old now new : List Fault) (t : List ℕ) (verdict : Option Difference)
    → HasCompared line e often language form left old now → left ≡ t ∷ later → next ≡ form + 1
    → HasVerdict (question e often language form t) verdict
    → new ≡ now ++ list_of (fault_of line language form verdict) → HasCompared line e often language next later old new
compared_more line e often language form next left later old now new t verdict h cut after has is =
    let more = list_of (fault_of line language form verdict) in
    record {
      found = h.found ++ more;
      added = is ∙ ap (λ (f : List Fault). f ++ more) h.added ∙ append_assoc old h.found more;
      on = λ rest x. subst (λ (f : List Fault). AreFaults line (questions e often language) f)
          (sym (append_assoc h.found more rest))
          (h.on (more ++ rest)
          (subst (λ (forms : List (List ℕ)). AreFaults line (questions_from e often language form forms) (more ++ rest))
          (sym cut) (
            verdict,
            rest,
            has,
            subst (λ (k : ℕ). AreFaults line (questions_from e often language k later) rest) after x,
            refl,
          )));
    }

pub compared_all : (line : ℕ) (e : Entry) (often : List Bool) (language : Language) (form : ℕ) (left : List (List ℕ))
    (old now : List Fault) → HasCompared line e often language form left old now → left ≡ []
    → AddsFaults line (questions e often language) old now
compared_all line e often language form left old now h end = (
  h.found,
  h.added,
  subst (λ (f : List Fault). AreFaults line (questions e often language) f) (append-nil h.found)
      (h.on []
      (subst (λ (forms : List (List ℕ)). AreFaults line (questions_from e often language form forms) []) (sym end)
      refl)),
)

-- ---- reading formats

-- formats have arguments of one sort
never_numbered : (language : Language) (text : List ℕ) (asked : List code_numbered.Numbered)
    → is_named language ≡ true → ListsNumbered language text asked → ⊥
never_numbered Python text asked is x = x
never_numbered PythonBrace text asked is x = x
never_numbered Ruby text asked is x = x
never_numbered Shell text asked is x = x
never_numbered PerlBrace text asked is x = x
never_numbered _ text asked is x = absurd (cc is)

never_named : (language : Language) (text : List ℕ) (asked : List Argument) → is_named language ≡ false
    → ListsNamed language text asked → ⊥
never_named Python text asked is x = absurd (cc is)
never_named PythonBrace text asked is x = absurd (cc is)
never_named Ruby text asked is x = absurd (cc is)
never_named Shell text asked is x = absurd (cc is)
never_named PerlBrace text asked is x = absurd (cc is)
never_named _ text asked is x = x

-- a language of lisp_formats has no others
pub never_named_lisp : (language : Language) (notation : LispNotation) (text : List ℕ) (asked : List Argument)
    → lisp_of language ≡ Some notation → ListsNamed language text asked → ⊥
never_named_lisp Scheme notation text asked is x = x
never_named_lisp Lisp notation text asked is x = x
never_named_lisp _ notation text asked is x = absurd (cc is)

pub never_numbered_lisp : (language : Language) (notation : LispNotation) (text : List ℕ)
    (asked : List code_numbered.Numbered) → lisp_of language ≡ Some notation → ListsNumbered language text asked → ⊥
never_numbered_lisp Scheme notation text asked is x = x
never_numbered_lisp Lisp notation text asked is x = x
never_numbered_lisp _ notation text asked is x = absurd (cc is)

either : (language : Language) (text : List ℕ) → ((asked : List Argument) → ListsNamed language text asked → ⊥)
    → ((asked : List code_numbered.Numbered) → ListsNumbered language text asked → ⊥) → lisp_of language ≡ None
    → (asked : Asked) → Lists language text asked → ⊥
either language text named numbered none (Named asked) x = named asked x
either language text named numbered none (Numbered asked) x = numbered asked x
either language text named numbered none (Placed asked) x = absurd (rw none at x)

pub no_named : (language : Language) (text : List ℕ) (fault : FormatFault) → is_named language ≡ true
    → FailsNamed language text fault → lisp_of language ≡ None → HasFault language text fault
no_named language text Invalid is none other =
    either language text none (λ asked x. never_numbered language text asked is x) other
no_named language text Memory is none other = none

pub no_numbered : (language : Language) (text : List ℕ) (fault : FormatFault) → is_named language ≡ false
    → FailsNumbered language text fault → lisp_of language ≡ None → HasFault language text fault
no_numbered language text Invalid is none other =
    either language text (λ asked x. never_named language text asked is x) none other
no_numbered language text Memory is none other = none

-- but for Objective-C, all formats of languages that are none of lisp_formats are read
pub never_unread : (language : Language) (text : List ℕ) → is_objc language ≡ false → IsOtherUnread language text → ⊥
never_unread ObjectiveC text other x = absurd (cc other)
never_unread _ text other x = x

pub no_format : (language : Language) (text : List ℕ) → lisp_of language ≡ None → is_objc language ≡ false
    → HasFault language text Invalid → IsNoFormat language text
no_format language text none other nothing =
    (nothing, λ unread. never_unread language text other (rw none at unread))

no_objc : (text : List ℕ) → ((asked : List code_numbered.Numbered) → ¬ objc_format.HasSignature text asked)
    → (asked : Asked) → Lists ObjectiveC text asked → ⊥
no_objc text none (Named asked) x = x
no_objc text none (Numbered asked) x = none asked x
no_objc text none (Placed asked) x = x

objc_reading : (language : Language) (text : List ℕ) (reading : Reading) → is_objc language ≡ true
    → IsObjcReading text reading → IsReading language text reading
objc_reading ObjectiveC text (Format (Named asked)) is x = absurd x
objc_reading ObjectiveC text (Format (Numbered asked)) is x = x
objc_reading ObjectiveC text (Format (Placed asked)) is x = absurd x
objc_reading ObjectiveC text NoFormat is (none, read) = (no_objc text none, read)
objc_reading ObjectiveC text Unread is x = x
objc_reading _ text reading is x = absurd (cc is)

pub objc_result : {X E : Type 0} (language : Language) (text : List ℕ) (view : X → Reading) (result : Result X E)
    → is_objc language ≡ true → IfOk result (λ found. IsObjcReading text (view found))
    → IfOk result (λ found. IsReading language text (view found))
objc_result language text view (Ok found) is x = objc_reading language text (view found) is x
objc_result language text view (Err error) is x = x

no_lisp : (language : Language) (notation : LispNotation) (text : List ℕ) → lisp_of language ≡ Some notation
    → ((asked : List code_placed.Kind) → ¬ lisp_formats.HasSignature notation text asked) → (asked : Asked)
    → Lists language text asked → ⊥
no_lisp language notation text is none (Named asked) x = never_named_lisp language notation text asked is x
no_lisp language notation text is none (Numbered asked) x = never_numbered_lisp language notation text asked is x
no_lisp language notation text is none (Placed asked) x = none asked (rw is at x)

pub placed_reading : (language : Language) (notation : LispNotation) (text : List ℕ) (reading : Reading)
    → lisp_of language ≡ Some notation → IsPlacedReading notation text reading → IsReading language text reading
placed_reading language notation text (Format (Placed asked)) is x = rw is x
placed_reading language notation text (Format (Named asked)) is x = absurd x
placed_reading language notation text (Format (Numbered asked)) is x = absurd x
placed_reading language notation text NoFormat is (none, read) =
    (no_lisp language notation text is none, λ unread. read (rw is at unread))
placed_reading language notation text Unread is x = rw is x

pub placed_result : {X E : Type 0} (language : Language) (notation : LispNotation) (text : List ℕ)
    (view : X → Reading) (result : Result X E) → lisp_of language ≡ Some notation
    → IfOk result (λ found. IsPlacedReading notation text (view found))
    → IfOk result (λ found. IsReading language text (view found))
placed_result language notation text view (Ok found) is x = placed_reading language notation text (view found) is x
placed_result language notation text view (Err error) is x = x

pub one_sort : (language : Language) (text : List ℕ) (a : List Argument) (b : List code_numbered.Numbered)
    → ListsNamed language text a → ListsNumbered language text b → ⊥
one_sort language text a b x y = elim (cases_Bool (is_named language)) [
  | inl is ↦ never_numbered language text b is y
  | inr is ↦ never_named language text a is x
]

pub verdict_of : (e : Entry) (often : List Bool) (language : Language) (form : ℕ) (t text : List ℕ) (rule : Strictness)
    (reading given : Reading) (found : Option Difference) → text ≡ original e → IsReading language text reading
    → rule ≡ rule_for e often form → given ≡ reading → IsVerdict language rule given t found
    → HasVerdict (question e often language form t) found
verdict_of e often language form t text rule reading given found is reads rule_is same says = (
  reading,
  subst (λ (x : List ℕ). IsReading language x reading) is reads,
  subst (λ (r : Strictness). IsVerdict language r reading t found) rule_is
      (subst (λ (r : Reading). IsVerdict language rule r t found) same says),
)
