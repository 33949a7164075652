use Rattle.std.proofs.Common.{◌≡◌, false, true, map, sym, subst, ◌∙◌, arith}
use Rattle.mo_image.specs.Entry.{translation}
use Rattle.mo_image.specs.MoFile.{pool}
use Rattle.dependent_files.specs.DigitsFlag.{FormHasFlag, SomeHasFlag}
use Rattle.dependent_files.specs.FlagScanning.{may_have_flag}
use Rattle.dependent_files.proofs.FlagMaps.{found_is, none_at_all, none_is, one_more, translations_lack}
use Rattle.dependent_files.proofs.flag.has_digits_flag.Goals as goal

pub returns-then-not-may_have_flag : goal.returns-then-not-may_have_flag
returns-then-not-may_have_flag c =
    let m = c.args.catalogue.now in
    let no : c.may_have_flag.result ≡ false = cc c.if-not-may_have_flag.true in
    let none : may_have_flag (pool (map translation m)) ≡ false =
    subst (λ t. may_have_flag t ≡ false) c.translations.ensures (sym c.may_have_flag.ensures ∙ no) in
    none_is (SomeHasFlag m) (translations_lack m none)

pub returns-then-branch : goal.returns-then-branch
returns-then-branch c =
    let found : c.in_ok-entry_has_flag.field-0 ≡ true = cc c.if-branch.true in
    found_is FormHasFlag c.args.catalogue.now c.entries.i c.entry.result c.in_ok-entry_has_flag.field-0 c.entry.ensures
    c.in_ok-entry_has_flag.ensures found

pub entries-preserved : goal.entries-preserved
entries-preserved c =
    let lacks : c.in_ok-entry_has_flag.field-0 ≡ false = cc c.if-branch.false in
    one_more FormHasFlag c.args.catalogue.now c.entries.i c.entry.result c.in_ok-entry_has_flag.field-0 c.entry.ensures
    c.in_ok-entry_has_flag.ensures lacks c.entries.invariant

pub returns : goal.returns
returns c = none_at_all FormHasFlag c.args.catalogue.now c.entries.i
    (omega (arith, c.len-i-end.ensures.len, c.entries-test.false)) c.entries.invariant
