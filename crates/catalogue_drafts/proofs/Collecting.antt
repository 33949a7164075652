-- The drafts so far are those of the entries that have been read.
use Rattle.catalogue_drafts.proofs.Kit.{◌≡◌, ℕ, ◌+◌, true, false, List, [], ◌∷◌, ◌++◌, length, sym, ap, ◌∙◌, inl, inr}
use Rattle.catalogue_drafts.proofs.Kit.{arith, AllByRecursion, map-append, length-map, Refuses, kind_of, Outline}
use Rattle.catalogue_drafts.proofs.Kit.{outline}
use Rattle.catalogue_drafts.proofs.Kit.{outlines, outline_of, outlines_from, IsLawfulMessage, HasCollected, Findings}
use Rattle.catalogue_drafts.proofs.Kit.{Options}
use Rattle.catalogue_drafts.proofs.Kit.{Bool, Draft, Kept, Some, None, refl}
use Rattle.std.specs.Prelude.{is_some, if◌then◌else◌}
use Rattle.po_text.specs.Entries as po
use Rattle.po_text.specs.Outcome as outcome
use Rattle.po_text.specs.Outcome.{IsReadable, body}
use Rattle.po_text.specs.Progress.{HasRead, GoesOn}
use Rattle.po_text.specs.Lawful.{IsLawfulTexts}
use Rattle.po_text.specs.declared.reader.EntryReader.{EntryReader}
use Rattle.po_text.specs.declared.fault.PoKind.{PoKind}
use Rattle.po_text.specs.declared.fault.PoKind.TheVariants as kinds
use Rattle.po_checks.specs.Found.{HasFound, LooksAt}
use Rattle.catalogue_drafts.proofs.PoEntries.{message_lawful}
use Rattle.catalogue_drafts.proofs.InOrder.{length-outlines_from}

pub rows_push : (o : Options) (k : ℕ) (es : List po.Entry) (e : po.Entry) → outlines_from o k (es ++ e ∷ [])
    ≡ outlines_from o k es ++ outline_of o (k + length es) e ∷ []
rows_push o k [] e = ap (λ n. outline_of o n e ∷ []) (omega arith)
rows_push o k (x ∷ es) e = ap (λ (rs : List Outline). outline_of o k x ∷ rs)
    (rows_push o (k + 1) es e ∙ ap (λ n. outlines_from o (k + 1) es ++ outline_of o n e ∷ []) (omega arith))

lawful_push : (es : List po.Entry) (e : po.Entry) → AllByRecursion IsLawfulMessage es → IsLawfulMessage e
    → AllByRecursion IsLawfulMessage (es ++ e ∷ [])
lawful_push [] e all one = (one, tt)
lawful_push (x ∷ es) e all one = (all.0, lawful_push es e all.1 one)

-- whether texts are kept
pub kept_texts_are : (b : Bool) (t : Kept) → is_some (if b then Some t else None) ≡ b
kept_texts_are true t = refl
kept_texts_are false t = refl

-- the number of drafts
pub drafts_are : (o : Options) (drafts : List Draft) (entries : List po.Entry) → outlines drafts
    ≡ outlines_from o 0 entries → length drafts ≡ length entries
drafts_are o drafts entries e = sym (length-map drafts outline) ∙ ap length e ∙ length-outlines_from o 0 entries

-- ---- one entry after another

pub record Collects (text : List ℕ) (o : Options) (reader : EntryReader) (drafts : List Draft)
    (findings : Findings) : Type 0 where
  pub entries : List po.Entry
  pub read : HasRead (body text) entries reader
  pub rows_are : outlines drafts ≡ outlines_from o 0 entries
  pub lawful : AllByRecursion IsLawfulMessage entries
  pub found : HasFound o entries findings

pub collects_none : (text : List ℕ) (o : Options) (reader : EntryReader) (drafts : List Draft) (findings : Findings)
    → HasRead (body text) [] reader → drafts ≡ [] → HasFound o [] findings → Collects text o reader drafts findings
collects_none text o reader drafts findings read none found = record
    { entries = []; read = read; rows_are = ap outlines none; lawful = tt; found = found }

pub collects_more : (text : List ℕ) (o : Options) (reader next : EntryReader) (drafts longer : List Draft)
    (findings grown : Findings) (draft : Draft) (number : ℕ) (e : po.Entry)
    → (c : Collects text o reader drafts findings) → GoesOn true (body text) c.entries e next → IsLawfulTexts e
    → number ≡ length drafts → longer ≡ drafts ++ draft ∷ [] → outline draft ≡ outline_of o number e
    → LooksAt o e findings grown → Collects text o next longer grown
collects_more text o reader next drafts longer findings grown draft number e c goes lawful counted pushed is looks =
    let last : number ≡ 0 + length c.entries = omega (arith, counted, drafts_are o drafts c.entries c.rows_are) in
    record {
      entries = c.entries ++ e ∷ [];
      read = goes.1;
      rows_are = ap outlines pushed ∙ map-append outline drafts (draft ∷ [])
          ∙ ap (λ (rs : List Outline). rs ++ outline draft ∷ []) c.rows_are
          ∙ ap (λ (r : Outline). outlines_from o 0 c.entries ++ r ∷ []) (is ∙ ap (λ n. outline_of o n e) last)
          ∙ sym (rows_push o 0 c.entries e);
      lawful = lawful_push c.entries e c.lawful (message_lawful e lawful goes.0);
      found = looks c.entries c.found;
    }

pub collects_all : (text : List ℕ) (o : Options) (reader next : EntryReader) (drafts : List Draft)
    (findings : Findings) (e : po.Entry) → IsReadable text → (c : Collects text o reader drafts findings)
    → GoesOn false (body text) c.entries e next → HasCollected text o drafts findings
collects_all text o reader next drafts findings e readable c ends = record {
  entries = c.entries;
  gives = record { readable = readable; reads = ends.0 };
  rows_are = c.rows_are;
  lawful = c.lawful;
  found = c.found;
}

-- running out of memory is no fault of a text
no_memory : (text : List ℕ) (line : ℕ) → outcome.Refuses text kinds.Memory line → ⊥
no_memory text line (readable, inl fault) = fault.fault
no_memory text line (readable, inr (found, spells, inl closes)) = closes.how
no_memory text line (readable, inr (found, spells, inr (is, early))) = absurd (cc is)

-- a refusal of the PO text is a refusal by the compiler
pub text_refuses : (text : List ℕ) (o : Options) (fault : PoKind) (line : ℕ) → outcome.Refuses text fault line
    → Refuses text o (kind_of fault) line
text_refuses text o kinds.Memory line r = absurd (no_memory text line r)
text_refuses text o _ line r = r
