-- The kept header, when one more entry is read.
use Rattle.std.proofs.Common.{◌≡◌, Bool, true, false, List, [], ◌∷◌, ◌++◌, refl, ap, ◌∙◌}
use Rattle.std.specs.Prelude.{cond}
use Rattle.std.specs.Option.{option_or}
use Rattle.std.specs.List.{find}
use Rattle.std.proofs.lemmas.List.Elements.{filter-append}
use Rattle.std.proofs.lemmas.List.Folds.{find-append}
use Rattle.po_text.specs.Entries as po
use Rattle.po_checks.specs.Kept.{is_header, is_kept, kept_entries, kept_header}
use Rattle.po_checks.specs.Headers.{own_header, Options}

find_own : (o : Options) (e : po.Entry) (keeps heads : Bool) → is_kept o e ≡ keeps → is_header e ≡ heads
    → find is_header (cond (is_kept o e) (e ∷ []) []) ≡ own_header o e
find_own o e true true k h = rw (k, h) refl
find_own o e true false k h = rw (k, h) refl
find_own o e false heads k h = rw k refl

pub header_more : (o : Options) (es : List po.Entry) (e : po.Entry) → kept_header o (es ++ (e ∷ []))
    ≡ option_or (kept_header o es) (own_header o e)
header_more o es e =
    ap (find is_header) (filter-append (is_kept o) es (e ∷ []))
    ∙ find-append is_header (kept_entries o es) (cond (is_kept o e) (e ∷ []) [])
    ∙ ap (option_or (kept_header o es)) (find_own o e (is_kept o e) (is_header e) refl refl)
