-- Private: entries built from one lexeme after another.
use Rattle.std.specs.Prelude.{ℕ, ◌+◌, Bool, true, false, List, [], ◌∷◌, ◌++◌, length, Option, Some, None}
use Rattle.std.specs.Option.{option_map}
use Rattle.std.specs.List.{concat, fold}
use Rattle.format_flags.specs.FormatFlags as formats
use Rattle.po_text.specs.declared.flags.Flags.{Flags}
use Rattle.po_text.specs.declared.buffer.Lines.{Lines}
use Rattle.po_text.specs.Spelling.{Token, Context, Id, Plural, Str, Text, Mark, Fuzzy, CFormat, Flag, Clear, Lexeme}
use Rattle.po_text.specs.Entries.{Entry, formats_after}
use Rattle.po_text.specs.Stages.{Stage, Start, ContextWord, ContextText, IdWord, IdText, PluralWord, PluralText}
use Rattle.po_text.specs.Stages.{IndexedText, step}

-- whether the entry is fuzzy after these marks, mark by mark
abbrev pub fuzzy_of : Bool → List Mark → Bool
fuzzy_of flag [] = flag
fuzzy_of flag (Fuzzy ∷ marks) = fuzzy_of true marks
fuzzy_of flag (CFormat ∷ marks) = fuzzy_of flag marks
fuzzy_of flag (Flag word ∷ marks) = fuzzy_of flag marks
fuzzy_of flag (Clear ∷ marks) = fuzzy_of false marks

-- whether the entry is flagged `c-format` after these marks, mark by mark
abbrev pub c_format_of : Bool → List Mark → Bool
c_format_of flag [] = flag
c_format_of flag (Fuzzy ∷ marks) = c_format_of flag marks
c_format_of flag (CFormat ∷ marks) = c_format_of true marks
c_format_of flag (Flag word ∷ marks) = c_format_of flag marks
c_format_of flag (Clear ∷ marks) = c_format_of false marks

-- the flags after these marks
abbrev pub flags_over : Flags → List Mark → Flags
flags_over f marks = record {
  fuzzy = fuzzy_of f.fuzzy marks;
  c_format = c_format_of f.c_format marks;
  formats = fold formats_after f.formats marks;
}

abbrev pub no_flags : Flags
no_flags = record { fuzzy = false; c_format = false; formats = formats.no_flags }

-- an entry as a buffer stores it: its forms back to back, and where each begins
pub record Draft : Type 0 where
  pub lines : Lines
  pub flags : Flags
  pub context : Option (List ℕ)
  pub id : List ℕ
  pub plural : Option (List ℕ)
  pub flat : List ℕ
  pub starts : List ℕ

abbrev pub some_if : Bool → List ℕ → Option (List ℕ)
some_if true bytes = Some bytes
some_if false bytes = None

-- the first offset, or the end if there is none
abbrev pub first_or : List ℕ → ℕ → ℕ
first_or [] end = end
first_or (start ∷ later) end = start

-- where each form begins, if the first begins at k
abbrev pub offsets : ℕ → List (List ℕ) → List ℕ
offsets k [] = []
offsets k (form ∷ more) = k ∷ offsets (k + length form) more

abbrev pub draft_of : Entry → Draft
draft_of e = record {
  lines = record { entry = e.line; form = e.form_line };
  flags = record { fuzzy = e.fuzzy; c_format = e.c_format; formats = e.formats };
  context = e.context;
  id = e.id;
  plural = e.plural;
  flat = concat e.forms;
  starts = offsets 0 e.forms;
}

-- an entry with only its opening keyword read
abbrev pub begin : ℕ → Flags → Option (List ℕ) → Draft
begin line flags context = record {
  lines = record { entry = line; form = 0 };
  flags = flags;
  context = context;
  id = [];
  plural = None;
  flat = [];
  starts = [];
}

abbrev pub with_bytes : Option (List ℕ) → List ℕ → Option (List ℕ)
with_bytes None bytes = None
with_bytes (Some old) bytes = Some (old ++ bytes)

abbrev pub add_context : Draft → List ℕ → Draft
add_context d bytes = record {
  lines = d.lines;
  flags = d.flags;
  context = with_bytes d.context bytes;
  id = d.id;
  plural = d.plural;
  flat = d.flat;
  starts = d.starts;
}

abbrev pub add_id : Draft → List ℕ → Draft
add_id d bytes = record {
  lines = d.lines;
  flags = d.flags;
  context = d.context;
  id = d.id ++ bytes;
  plural = d.plural;
  flat = d.flat;
  starts = d.starts;
}

abbrev pub add_plural : Draft → List ℕ → Draft
add_plural d bytes = record {
  lines = d.lines;
  flags = d.flags;
  context = d.context;
  id = d.id;
  plural = with_bytes d.plural bytes;
  flat = d.flat;
  starts = d.starts;
}

abbrev pub add_form : Draft → List ℕ → Draft
add_form d bytes = record {
  lines = d.lines;
  flags = d.flags;
  context = d.context;
  id = d.id;
  plural = d.plural;
  flat = d.flat ++ bytes;
  starts = d.starts;
}

abbrev pub new_plural : Draft → Draft
new_plural d = record {
  lines = d.lines;
  flags = d.flags;
  context = d.context;
  id = d.id;
  plural = Some [];
  flat = d.flat;
  starts = d.starts;
}

-- the lines of an entry after a `msgstr` on this line
abbrev pub lines_with_form : Stage → ℕ → Lines → Lines
lines_with_form (IndexedText k) line old = old
lines_with_form _ line old = record { entry = old.entry; form = line }

abbrev pub new_form : Lines → Draft → Draft
new_form lines d = record {
  lines = lines;
  flags = d.flags;
  context = d.context;
  id = d.id;
  plural = d.plural;
  flat = d.flat;
  starts = d.starts ++ (length d.flat ∷ []);
}

-- a string is added to the part of the entry that the stage is in
abbrev pub put_text : Stage → List ℕ → Draft → Draft
put_text ContextWord bytes d = add_context d bytes
put_text ContextText bytes d = add_context d bytes
put_text IdWord bytes d = add_id d bytes
put_text IdText bytes d = add_id d bytes
put_text PluralWord bytes d = add_plural d bytes
put_text PluralText bytes d = add_plural d bytes
put_text _ bytes d = add_form d bytes

-- a token on this line that doesn't open an entry
abbrev pub put : Token → ℕ → Stage → Draft → Draft
put (Text bytes) line p d = put_text p bytes d
put Plural line p d = new_plural d
put Str line p d = new_form (lines_with_form p line d.lines) d
put _ line p d = d

-- the state of the parser: what it has read so far
pub record State : Type 0 where
  pub stage : Stage
  pub done : List Draft
  pub draft : Draft
  pub flags : Flags
  pub keyword : ℕ

abbrev pub at_state : Stage → List Draft → Draft → Flags → ℕ → State
at_state p done d f k = record { stage = p; done = done; draft = d; flags = f; keyword = k }

-- the entries, including the one under way
abbrev pub drafts_at : Stage → List Draft → Draft → List Draft
drafts_at Start done d = done
drafts_at _ done d = done ++ (d ∷ [])

-- the context with which this token begins an entry at this stage, if it opens one
abbrev pub opens_id : Stage → Option (Option (List ℕ))
opens_id ContextText = None
opens_id _ = Some None

abbrev pub opens : Token → Stage → Option (Option (List ℕ))
opens Context p = Some (Some [])
opens Id p = opens_id p
opens _ p = None

-- the line of the last `msgctxt` or `msgid`
abbrev pub keyword_line : Token → ℕ → ℕ → ℕ
keyword_line Id line k = line
keyword_line _ line k = k

abbrev pub after : Option (Option (List ℕ)) → State → List Mark → ℕ → Token → Stage → State
after (Some context) s marks line t p =
    at_state p (drafts_at s.stage s.done s.draft) (begin line (flags_over s.flags marks) context) no_flags line
after None s marks line t p =
    at_state p s.done (put t line s.stage s.draft) (flags_over s.flags marks) (keyword_line t line s.keyword)

abbrev pub feed_at : State → List Mark → ℕ → Token → Option State
feed_at s marks line t = option_map (λ p. after (opens t s.stage) s marks line t p) (step s.stage t)

abbrev pub feed : Option State → Lexeme → Option State
feed None l = None
feed (Some s) l = feed_at s l.marks l.line l.token

abbrev pub feeds : Option State → List Lexeme → Option State
feeds o [] = o
feeds o (l ∷ ls) = feeds (feed o l) ls

abbrev pub start : State
start = at_state Start [] (begin 0 no_flags None) no_flags 0
