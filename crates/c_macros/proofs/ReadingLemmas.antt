-- Texts as they are read, directive by directive.
use Rattle.std.proofs.Common.{◌≡◌, ℕ, ◌<◌, ◌≤◌, List, [], ◌∷◌, ◌++◌, length, Option, None, Some, sym, ap}
use Rattle.std.proofs.Common.{subst, ◌∙◌, arith}
use Rattle.std.proofs.lemmas.List.{length-append}
use Rattle.format_arguments.specs.Text.{SkipsPlain}
use Rattle.format_arguments.proofs.TextLemmas.{HasRead, read_nothing, reads_on, no_format, read_all, one_asked}
use Rattle.format_arguments.proofs.TextLemmas.{step_shorter}
use Rattle.c_macros.specs.declared.MacroFault.TheVariants.{Invalid, Memory}
use Rattle.c_macros.specs.declared.directives.Directive as code_directive
use Rattle.c_macros.specs.declared.directives.Named as code_named
use Rattle.c_macros.specs.MacroDirectives.{Directive, DirectiveAt, requests, Request}
use Rattle.c_macros.specs.MacroFormat.{AsksFor, HasNoList, IsMacroFormat, HasFault, percent, MacroFault}
use Rattle.c_macros.specs.MacroSplits.{PartedAt, Split}
use Rattle.c_macros.specs.MacroScanning.{ReadsDirective, asked_by, parts_of, Fits, NamedFits, IsInvalidOnly, IsRead}
use Rattle.c_macros.proofs.MacroDirectiveLemmas.{are_directives, are_parted, without_parts}

-- up to rest the directives were read: what they ask for, and their parts
pub record Reading (text rest : List ℕ) (asked : List Request) (parts : List Split) : Type 0 where
  pub asks : HasRead percent DirectiveAt are_directives requests text rest asked
  pub splits : HasRead percent (PartedAt (length text)) (are_parted (length text)) (λ d. d.parts) text rest parts
  pub within : length rest ≤ length text

pub read_none : (text : List ℕ) (asked : List Request) (parts : List Split) → asked ≡ [] → parts ≡ []
    → Reading text text asked parts
read_none text asked parts e f = record {
  asks = rw e (read_nothing percent DirectiveAt are_directives requests text);
  splits = rw f (read_nothing percent (PartedAt (length text)) (are_parted (length text)) (λ d. d.parts) text);
  within = omega arith;
}

-- one directive more
module _ (text rest behind after : List ℕ) (code : code_directive.Directive)
    (plain : SkipsPlain percent rest (percent ∷ behind)) (r : ReadsDirective code (percent ∷ behind) after) where
  at : DirectiveAt r.0 (percent ∷ behind) after
  at = without_parts 0 r.0 (parts_of 0 code) (percent ∷ behind) after (r.3 0)

  pub reads_shorter : length after < length rest
  reads_shorter = step_shorter percent DirectiveAt are_directives requests rest behind after r.0 plain at

  pub reads_more : (asked more : List Request) (parts grown : List Split) → Reading text rest asked parts
      → more ≡ asked ++ asked_by code → grown ≡ parts ++ parts_of (length text) code → Reading text after more grown
  reads_more asked more parts grown so_far e f = record {
    asks = reads_on percent DirectiveAt are_directives requests text rest behind after r.0 asked more so_far.asks plain
        at (e ∙ ap (λ (t : List Request). asked ++ t) (sym r.1));
    splits = reads_on percent (PartedAt (length text)) (are_parted (length text)) (λ d. d.parts) text rest behind after
        (record { directive = r.0; parts = parts_of (length text) code }) parts grown so_far.splits plain
        (r.3 (length text)) f;
    within = omega (arith, so_far.within, reads_shorter);
  }

  pub fits_in : (asked : List Request) (parts : List Split) → Reading text rest asked parts → Fits (length text) code
  fits_in asked parts so_far =
      let le : length (percent ∷ behind) ≤ length text = omega (
        arith,
        so_far.within,
        ap length plain.text_is,
        length-append plain.plain (percent ∷ behind),
      ) in
      record {
        flags = r.2.flags;
        left = omega (arith, le, r.2.left);
        named = named_fits code.named (length (percent ∷ behind)) (length text) le r.2.named;
      }
    where
      named_fits : (named : Option code_named.Named) (less more : ℕ) → less ≤ more → NamedFits less named
          → NamedFits more named
      named_fits None less more le fits = tt
      named_fits (Some n) less more le fits = omega (arith, le, fits)

pub no_directives : (text rest behind : List ℕ) (asked : List Request) (parts : List Split)
    → Reading text rest asked parts → SkipsPlain percent rest (percent ∷ behind)
    → ((d : Directive) (after : List ℕ) → DirectiveAt d (percent ∷ behind) after → ⊥)
    → (ds : List Directive) → IsMacroFormat ds text → ⊥
no_directives text rest behind asked parts so_far plain none =
    no_format percent DirectiveAt are_directives requests text rest behind asked so_far.asks plain none

pub all_read : (text rest : List ℕ) (asked : List Request) (parts : List Split) → Reading text rest asked parts
    → SkipsPlain percent rest [] → IsRead text asked parts
all_read text rest asked parts so_far end = record {
  directives = so_far.asks.directives;
  format = read_all percent DirectiveAt are_directives requests text rest asked so_far.asks end;
  asked_is = so_far.asks.asked_is;
  parts_are = (
    so_far.splits.directives,
    read_all percent (PartedAt (length text)) (are_parted (length text)) (λ d. d.parts) text rest parts so_far.splits
        end,
    so_far.splits.asked_is,
  );
}

-- ---- the list

pub lists_none : (text : List ℕ) (asked : List Request) (parts : List Split) (fault : MacroFault)
    → IsRead text asked parts → IsInvalidOnly fault (HasNoList asked) → HasFault text fault
lists_none text asked parts Memory read none = tt
lists_none text asked parts Invalid read none = λ kinds lists.
    let same = one_asked percent DirectiveAt are_directives requests lists.0 read.directives text lists.1 read.format in
    none kinds (subst (λ (t : List Request). AsksFor t kinds) (same ∙ sym read.asked_is) lists.2)
