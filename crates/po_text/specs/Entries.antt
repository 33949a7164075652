-- Which entries a list of lexemes derives, and which fault of grammar it has (GNU gettext manual, "PO Files").
use Rattle.std.specs.Prelude.{◌≡◌, ◌≢◌, ℕ, ◌+◌, Bool, true, false, not, List}
use Rattle.std.specs.Prelude.{[], ◌∷◌, ◌++◌, map, reverse, Option, None, Some, ◌⊎◌, if◌then◌else◌}
use Rattle.std.specs.Str.{bytes_eq}
use Rattle.std.specs.List.{concat, flat_map, fold, list_any, take_while, Contains, AllByRecursion}
use Rattle.format_flags.specs.declared.flags.Flags.{Flags}
use Rattle.format_flags.specs.FormatFlags as formats
use Rattle.po_text.specs.declared.fault.PoKind.{PoKind}
use Rattle.po_text.specs.declared.fault.PoKind.TheVariants.{BadText, BadOrder, BadIndex}
use Rattle.byte_text.specs.Chain.{Chain}
use Rattle.po_text.specs.Spelling.{Token, Context, Id, Plural, Str, Number, Open}
use Rattle.po_text.specs.Spelling.{Close, Text, Mark, Fuzzy, CFormat, Flag, Clear, Lexeme}

-- ---- the table

-- one or more strings, which are joined (as C joins adjacent string literals: 5.1.1.2, phase 6)
abbrev pub Strings : Type 0
Strings = List (List ℕ)

-- msgstr Strings; or msgid_plural Strings, and then one or more of msgstr [ number ] Strings
pub data Part : Type 0 where
  PlainPart : (form : Strings) → Part
  PluralPart : (plural : Strings) (forms : List Strings) → Part

-- an entry: optionally msgctxt Strings, then msgid Strings, then a plain or a plural part
pub record Derivation : Type 0 where
  pub context : Option Strings
  pub id : Strings
  pub part : Part

abbrev pub texts : Strings → List Token
texts parts = map Text parts

abbrev pub context_tokens : Option Strings → List Token
context_tokens None = []
context_tokens (Some parts) = Context ∷ texts parts

-- the plural forms, numbered from k
abbrev pub form_tokens : ℕ → List Strings → List Token
form_tokens k [] = []
form_tokens k (form ∷ more) = Str ∷ Open ∷ Number k ∷ Close ∷ texts form ++ form_tokens (k + 1) more

abbrev pub part_tokens : Part → List Token
part_tokens (PlainPart form) = Str ∷ texts form
part_tokens (PluralPart plural forms) = Plural ∷ texts plural ++ form_tokens 0 forms

-- the tokens of an entry
abbrev pub tokens_of : Derivation → List Token
tokens_of d = context_tokens d.context ++ (Id ∷ texts d.id ++ part_tokens d.part)

-- ---- conditions

abbrev pub IsOneOrMore : {A : Type 0} → List A → Type 0
IsOneOrMore xs = xs ≢ []

-- a context or a msgid: one or more strings, without byte 4 once joined, since MO files put that between the two (that
-- only these two are checked is ours)
abbrev pub IsKeyText : Strings → Type 0
IsKeyText parts = IsOneOrMore parts × ¬ Contains (concat parts) 4

abbrev pub IsLawfulContext : Option Strings → Type 0
IsLawfulContext None = Unit {0}
IsLawfulContext (Some parts) = IsKeyText parts

abbrev pub IsLawfulPart : Part → Type 0
IsLawfulPart (PlainPart form) = IsOneOrMore form
IsLawfulPart (PluralPart plural forms) = IsOneOrMore plural × IsOneOrMore forms × AllByRecursion IsOneOrMore forms

pub record IsLawfulEntry (d : Derivation) : Type 0 where
  pub context : IsLawfulContext d.context
  pub id : IsKeyText d.id
  pub part : IsLawfulPart d.part

-- ---- entries

-- the contents of an entry, and the lines of its first keyword and of its first `msgstr`; an empty context differs from
-- no context
pub record Entry : Type 0 where
  pub line : ℕ
  pub form_line : ℕ
  pub fuzzy : Bool
  pub c_format : Bool
  pub formats : Flags
  pub context : Option (List ℕ)
  pub id : List ℕ
  pub plural : Option (List ℕ)
  pub forms : List (List ℕ)

-- the entry before anything is read
abbrev pub no_entry : Entry
no_entry = record {
  line = 0;
  form_line = 0;
  fuzzy = false;
  c_format = false;
  formats = formats.no_flags;
  context = None;
  id = [];
  plural = None;
  forms = [];
}

-- whether two marks are the same
abbrev pub mark_eq : Mark → Mark → Bool
mark_eq Fuzzy Fuzzy = true
mark_eq CFormat CFormat = true
mark_eq (Flag word) (Flag other) = bytes_eq word other
mark_eq Clear Clear = true
mark_eq _ _ = false

-- the marks after the last Clear, or all if there is none; the last mark first
abbrev pub behind_clear : List Mark → List Mark
behind_clear marks = take_while (λ mark. not (mark_eq Clear mark)) (reverse marks)

-- whether the flag comes after the last Clear
abbrev pub is_flagged : Mark → List Mark → Bool
is_flagged flag marks = list_any (mark_eq flag) (behind_clear marks)

-- the formats of other languages than C after a mark
abbrev pub formats_after : Flags → Mark → Flags
formats_after flags (Flag word) = formats.with_word flags word
formats_after flags Clear = formats.no_flags
formats_after flags _ = flags

-- the formats of other languages than C after these marks: the last word that names a language decides
abbrev pub formats_of : List Mark → Flags
formats_of marks = fold formats_after formats.no_flags marks

abbrev pub is_form_word : Token → Bool
is_form_word Str = true
is_form_word _ = false

-- the line of the first `msgstr`
abbrev pub first_form_line : List Lexeme → ℕ
first_form_line [] = 0
first_form_line (l ∷ more) = if is_form_word l.token then l.line else first_form_line more

abbrev pub joined_option : Option Strings → Option (List ℕ)
joined_option None = None
joined_option (Some parts) = Some (concat parts)

abbrev pub plural_of : Part → Option (List ℕ)
plural_of (PlainPart form) = None
plural_of (PluralPart plural forms) = Some (concat plural)

abbrev pub forms_of : Part → List (List ℕ)
forms_of (PlainPart form) = concat form ∷ []
forms_of (PluralPart plural forms) = map concat forms

-- the entry of this derivation, if its opening keyword is on this line after these marks, and its first `msgstr` on the
-- other line
abbrev pub entry_of : ℕ → ℕ → List Mark → Derivation → Entry
entry_of line form_line marks d = record {
  line = line;
  form_line = form_line;
  fuzzy = is_flagged Fuzzy marks;
  c_format = is_flagged CFormat marks;
  formats = formats_of marks;
  context = joined_option d.context;
  id = concat d.id;
  plural = plural_of d.part;
  forms = forms_of d.part;
}

-- the marks since the last opening keyword, and the lexemes that remain
abbrev pub Remaining : Type 0
Remaining = List Mark × List Lexeme

-- the entry is at the front; `first` is its opening keyword, and the marks after it are kept for the next entry (ours)
pub record EntryAt (e : Entry) (now later : Remaining) : Type 0 where
  pub first : Lexeme
  pub others : List Lexeme
  pub derivation : Derivation
  pub split : now.1 ≡ first ∷ others ++ later.1
  pub tokens : map (λ (l : Lexeme). l.token) (first ∷ others) ≡ tokens_of derivation
  pub lawful : IsLawfulEntry derivation
  pub entry : e ≡ entry_of first.line (first_form_line others) (now.0 ++ first.marks) derivation
  pub marks : later.0 ≡ flat_map (λ (l : Lexeme). l.marks) others

-- the lexemes derive these entries, one after another, and nothing is left over
abbrev pub Derives : List Lexeme → List Entry → Type 0
Derives found entries = (marks : List Mark) × Chain EntryAt entries ([], found) (marks, [])

-- ---- grammar faults

-- whole entries and the beginning of one more, perhaps empty, which may end after any token
pub record IsOpenList (tokens : List Token) : Type 0 where
  pub whole : List Derivation
  pub front : List Token
  pub last : Derivation
  pub back : List Token
  pub split : tokens ≡ flat_map tokens_of whole ++ front
  pub each : AllByRecursion IsLawfulEntry whole
  pub begins : tokens_of last ≡ front ++ back
  pub lawful : IsLawfulEntry last

abbrev pub all_tokens : List Lexeme → List Token
all_tokens found = map (λ (l : Lexeme). l.token) found

-- the keyword of a context or a msgid
abbrev pub IsKeyword : Token → Type 0
IsKeyword token = (token ≡ Context) ⊎ (token ≡ Id)

abbrev pub IsNumber : Token → Type 0
IsNumber token = (n : ℕ) × (token ≡ Number n)

-- x puts byte 4 into the context or msgid whose keyword is on this line
pub record PutsFour (before : List Lexeme) (x : Lexeme) (line : ℕ) : Type 0 where
  pub front : List Lexeme
  pub keyword : Lexeme
  pub others : List Lexeme
  pub parts : Strings
  pub bytes : List ℕ
  pub split : before ≡ front ++ keyword ∷ others
  pub keyword_is : IsKeyword keyword.token
  pub others_are : all_tokens others ≡ texts parts
  pub text : x.token ≡ Text bytes
  pub four : Contains bytes 4
  pub line_is : line ≡ keyword.line

-- x is a number after an opening bracket, where an index belongs
pub record IsIndexStage (before : List Lexeme) (x : Lexeme) : Type 0 where
  pub front : List Lexeme
  pub bracket : Lexeme
  pub split : before ≡ front ++ bracket ∷ []
  pub bracket_is : bracket.token ≡ Open
  pub number : IsNumber x.token

-- what is wrong with x after these lexemes, and on which line
abbrev pub ClosesBy : PoKind → List Lexeme → Lexeme → ℕ → Type 0
ClosesBy BadText before x line = PutsFour before x line
ClosesBy BadIndex before x line = IsIndexStage before x × (line ≡ x.line)
ClosesBy BadOrder before x line = ((n : ℕ) → ¬ PutsFour before x n) × ¬ IsIndexStage before x × (line ≡ x.line)
ClosesBy _ before x line = ⊥

-- x is the first lexeme that makes the list no longer open
pub record ClosesAt (found : List Lexeme) (kind : PoKind) (line : ℕ) : Type 0 where
  pub before : List Lexeme
  pub x : Lexeme
  pub after : List Lexeme
  pub split : found ≡ before ++ x ∷ after
  pub open_before : IsOpenList (all_tokens before)
  pub closed : ¬ IsOpenList (all_tokens (before ++ x ∷ []))
  pub how : ClosesBy kind before x line

-- the list stays open to the end but derives no entries; x is its last lexeme
pub record EndsEarly (found : List Lexeme) (line : ℕ) : Type 0 where
  pub before : List Lexeme
  pub x : Lexeme
  pub split : found ≡ before ++ x ∷ []
  pub still_open : IsOpenList (all_tokens found)
  pub underived : (entries : List Entry) → ¬ Derives found entries
  pub line_is : line ≡ x.line
