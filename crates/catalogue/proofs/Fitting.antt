-- A text within its size limit has a catalogue whose MO file is within its own.
use Rattle.catalogue.proofs.Kit.{◌≡◌, ℕ, ◌+◌, ◌≤◌, Bool, true, false, List, [], ◌∷◌, length, Option, Some}
use Rattle.catalogue.proofs.Kit.{None, refl, ap, ◌∙◌, arith, AllByRecursion, sum_by}
use Rattle.catalogue.proofs.Kit.{flat_map-cons, sum_by-cons, Entry, pool, message_of, is_kept, Outline}
use Rattle.catalogue.proofs.Kit.{outline_of, outlines_from, kept_entry, Options, length-with_nul}
use Rattle.std.proofs.Common.{length-append}
use Rattle.std.specs.List.{cons_option}
use Rattle.std.proofs.lemmas.List.Sorted.{sum_by-IsPermutation}
use Rattle.po_text.specs.Entries as po
use Rattle.po_text.specs.Outcome.{Gives}
use Rattle.po_text.proofs.Sizes.{option_size, forms_size, entry_size, entries_size, gives_size}
use Rattle.mo_image.specs.Entry.{key_bytes, with_plural, original}
use Rattle.mo_image.specs.MoFile.{with_nul, spelling, entry_size as size}
use Rattle.mo_image.proofs.MoLengths.{joined_with_nul}
use Rattle.mo_image.proofs.FileSizes.{file_size}
use Rattle.mo_image.proofs.EntryParts.{some_form}
use Rattle.catalogue_drafts.proofs.InOrder.{AreOrdered}
use Rattle.catalogue.proofs.Listing.{Lawful, kept_is, left_out, map_of}

-- ---- an entry in the file and in the text

key_size : (context : Option (List ℕ)) (id : List ℕ) → length (key_bytes context id) ≡ option_size context + length id
key_size None id = omega arith
key_size (Some context) id = omega (arith, length-append context (4 ∷ id))

original_size : (k : List ℕ) (plural : Option (List ℕ)) → length (with_plural k plural) ≡ length k + option_size plural
original_size k None = omega arith
original_size k (Some plural) = omega (arith, length-append k (0 ∷ plural))

pool_size : (forms : List (List ℕ)) → length (pool forms) ≡ forms_size forms
pool_size [] = refl
pool_size (form ∷ forms) =
    let e = ap length (flat_map-cons with_nul form forms) ∙ length-append (with_nul form) (pool forms) in
    omega (arith, e, pool_size forms, length-with_nul form)

message_size : (e : po.Entry) → Lawful e → size (message_of e) ≡ entry_size e
message_size e lawful =
    let t = ap length (joined_with_nul e.forms (some_form e.plural e.forms lawful.counted)) in
    omega (
      arith,
      length-with_nul (original (message_of e)),
      original_size (key_bytes e.context e.id) e.plural,
      key_size
          e.context e.id,
      t,
      pool_size e.forms,
    )

-- ---- the outlines

abbrev option_entry_size : Option Entry → ℕ
option_entry_size None = 0
option_entry_size (Some m) = size m

abbrev outline_size : Outline → ℕ
outline_size r = option_entry_size (kept_entry r)

of_one : (o : Option Entry) (ms : List Entry) → sum_by size (cons_option o ms) ≡ option_entry_size o + sum_by size ms
of_one None ms = omega arith
of_one (Some m) ms = sum_by-cons size m ms

of_outlines : (rs : List Outline) → sum_by size (map_of rs) ≡ sum_by outline_size rs
of_outlines [] = refl
of_outlines (r ∷ rs) = omega (arith, of_one (kept_entry r) (map_of rs), of_outlines rs, sum_by-cons outline_size r rs)

outline_fits : (o : Options) (k : ℕ) (e : po.Entry) → Lawful e → outline_size (outline_of o k e) ≤ entry_size e
outline_fits o k e lawful = of (is_kept o e) refl
  where
    of : (b : Bool) → is_kept o e ≡ b → outline_size (outline_of o k e) ≤ entry_size e
    of true is = let same = ap option_entry_size (kept_is o k e lawful is) in omega (arith, same, message_size e lawful)
    of false is = let same = ap option_entry_size (left_out o k e is) in omega (arith, same)

outlines_fit : (o : Options) (k : ℕ) (es : List po.Entry) → AllByRecursion Lawful es
    → sum_by outline_size (outlines_from o k es) ≤ entries_size es
outlines_fit o k [] lawful = omega arith
outlines_fit o k (e ∷ es) lawful = omega (
  arith,
  sum_by-cons outline_size (outline_of o k e)
      (outlines_from o (k + 1) es),
  outline_fits o k e lawful.0,
  outlines_fit o (k + 1) es lawful.1,
)

pub fits : (o : Options) (text : List ℕ) (entries : List po.Entry) (rs : List Outline) → Gives text entries
    → AreOrdered o entries rs → AllByRecursion Lawful entries → length (spelling (map_of rs)) ≤ 268435456
fits o text entries rs gives ordered lawful =
    let all = sum_by-IsPermutation outline_size (outlines_from o 0 entries) rs ordered.same in
    omega (
      arith,
      file_size (map_of rs),
      of_outlines rs,
      all,
      outlines_fit o 0 entries lawful,
      gives_size text entries
          gives,
      gives.readable.size,
    )
