-- The written text of a lawful map gives the map's entries.
use Rattle.std.proofs.Common.{◌≡◌, ℕ, ◌≤◌, Bool, false, List, [], ◌∷◌, ◌++◌, length, Option, None, Some}
use Rattle.std.proofs.Common.{refl, sym, ap, subst, arith, length-append}
use Rattle.std.specs.Prelude.{IfSome, take}
use Rattle.std.specs.List.{AllByRecursion, sum_by}
use Rattle.std.specs.Str.{bytes_eq}
use Rattle.std.proofs.lemmas.List.Sums.{sum_by-cons}
use Rattle.message.specs.Message.{Entry, LacksByte, IsText, IsKeyText, IsLawfulEntry}
use Rattle.mo_image.specs.Map.{IsLawful}
use Rattle.mo_image.specs.MoFile.{with_nul, pool, entry_size}
use Rattle.mo_image.proofs.MoLengths.{joined_with_nul}
use Rattle.mo_image.proofs.FileSizes.{file_size}
use Rattle.mo_image.proofs.EntryParts.{some_form}
use Rattle.po_text.specs.Spelling.{lexemes}
use Rattle.po_text.specs.Outcome.{byte_order_mark, body, max_text, Reads}
use Rattle.po_writing.specs.Written.{written_context, po_of}
use Rattle.po_writing.specs.Laws.{Tells}
use Rattle.po_writing.proofs.Chained.{IsString, IsWritable, po_pieces, po_chain}
use Rattle.po_writing.proofs.Found.{IsDerivable, po_found}
use Rattle.po_writing.proofs.Utf8.{po_utf8}

-- ---- lawful entries can be written

text_string : (text : List ℕ) → IsText text → IsString text
text_string text h = record { utf8 = h.utf8; no_nul = h.no_nul }

key_string : (text : List ℕ) → IsKeyText text → IsString text
key_string text h = record { utf8 = h.utf8; no_nul = h.no_nul }

context_string : (context : Option (List ℕ)) → IfSome context IsKeyText → IfSome context IsString
context_string None h = tt
context_string (Some context) h = key_string context h

plural_string : (plural : Option (List ℕ)) → IfSome plural IsText → IfSome plural IsString
plural_string None h = tt
plural_string (Some plural) h = text_string plural h

form_strings : (forms : List (List ℕ)) → AllByRecursion IsText forms → AllByRecursion IsString forms
form_strings [] h = tt
form_strings (form ∷ more) h = (text_string form h.0, form_strings more h.1)

context_lacks : (context : Option (List ℕ)) → IfSome context IsKeyText → IfSome context (λ text. LacksByte 4 text)
context_lacks None h = tt
context_lacks (Some context) h = h.no_separator

abbrev pub IsFew : Entry → Type 0
IsFew e = length e.forms ≤ 1000000000

writable : (e : Entry) → IsLawfulEntry e → IsFew e → IsWritable e
writable e h few = record {
  context = context_string e.context h.context;
  id = key_string e.id h.id;
  plural = plural_string e.plural h.plural;
  forms = form_strings e.forms h.forms;
  some = some_form e.plural e.forms h.counted;
  few = few;
}

derivable : (e : Entry) → IsLawfulEntry e → IsDerivable e
derivable e h = record {
  context = context_lacks e.context h.context;
  id = h.id.no_separator;
  counted = h.counted;
}

all_writable : (m : List Entry) → AllByRecursion IsLawfulEntry m → AllByRecursion IsFew m
    → AllByRecursion IsWritable m
all_writable [] h few = tt
all_writable (e ∷ more) h few = (writable e h.0 few.0, all_writable more h.1 few.1)

all_derivable : (m : List Entry) → AllByRecursion IsLawfulEntry m → AllByRecursion IsDerivable m
all_derivable [] h = tt
all_derivable (e ∷ more) h = (derivable e h.0, all_derivable more h.1)

-- ---- there are few forms, since each has a NUL in the MO file

pool_long : (forms : List (List ℕ)) → length forms ≤ length (pool forms)
pool_long [] = omega arith
pool_long (form ∷ more) = omega (
  arith,
  pool_long more,
  length-append (with_nul form) (pool more),
  length-append form (0 ∷ []),
)

size_long : (e : Entry) → IsLawfulEntry e → length e.forms ≤ entry_size e
size_long e h = omega (
  arith,
  pool_long e.forms,
  ap length (joined_with_nul e.forms (some_form e.plural e.forms h.counted)),
)

few_in : (m : List Entry) → AllByRecursion IsLawfulEntry m → sum_by entry_size m ≤ 1000000000
    → AllByRecursion IsFew m
few_in [] h fits = tt
few_in (e ∷ more) h fits = (
  omega (arith, size_long e h.0, sum_by-cons entry_size e more),
  few_in more h.1 (omega (arith, sum_by-cons entry_size e more)),
)

pub few_forms : (m : List Entry) → IsLawful m → AllByRecursion IsFew m
few_forms m lawful = few_in m lawful.each (omega (arith, lawful.fits, file_size m))

-- ---- no byte order mark

context_start : (context : Option (List ℕ)) (escape : Bool) (id more rest : List ℕ) → bytes_eq (take 3
    ((written_context escape context ++ ((109 ∷ 115 ∷ 103 ∷ id) ++ more)) ++ rest)) byte_order_mark ≡ false
context_start None escape id more rest = refl
context_start (Some context) escape id more rest = refl

body_is : (escape : Bool) (m : List Entry) → body (po_of escape m) ≡ po_of escape m
body_is escape [] = refl
body_is escape (e ∷ more) = rw (context_start e.context escape _ _ _) refl

-- ---- the law

pub tells : (escape : Bool) (m : List Entry) → IsLawful m → length (po_of escape m) ≤ max_text
    → Tells (po_of escape m) m
tells escape m lawful short =
    let writable = all_writable m lawful.each (few_forms m lawful) in
    let found = po_found m (all_derivable m lawful.each) in
    let reads : Reads (po_of escape m) found.entries = (
      lexemes 1 [] (po_pieces m),
      record { pieces = po_pieces m; each = po_chain escape m writable; found_are = refl },
      ([], found.each),
    ) in
    record {
      entries = found.entries;
      gives = record {
        readable = record { size = short; utf8 = po_utf8 escape m writable };
        reads = subst (λ (t : List ℕ). Reads t found.entries) (sym (body_is escape m)) reads;
      };
      messages_are = found.messages_are;
      no_flags = found.no_flags;
    }
