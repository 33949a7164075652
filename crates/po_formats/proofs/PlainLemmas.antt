-- The faults of a text, put together from two readings of it.
use Rattle.std.proofs.Common.{◌≡◌, ℕ, Bool, List, subst, inr, Option}
use Rattle.po_text.specs.Entries as po
use Rattle.po_text.specs.Outcome as outcome
use Rattle.po_text.proofs.Outcomes.{gives_one}
use Rattle.po_formats.specs.Often.{often_served, Rule}
use Rattle.po_formats.specs.EntryFaults.{AreAllFaults, Fault}
use Rattle.po_formats.specs.PlainFaults.{HasFaults, Refuses, kept_entries, kept_header, Options}
use Rattle.po_checks.specs.Headers.{IsHeaderOf}
use Rattle.po_formats.specs.HeaderViews.{IsForeignBy, IsRuleBy, LoadFault, Header}
use Rattle.po_formats.proofs.HeaderLemmas.{foreign_holds, rule_holds}

-- what was found in a text: its kept header, and the faults of its entries
abbrev pub FindsHeader : List ℕ → Options → Option Header → Type 0
FindsHeader text o header =
    (entries : List po.Entry) × outcome.Gives text entries × IsHeaderOf (kept_header o entries) header

abbrev pub FindsFaults : List ℕ → Options → List Bool → List Fault → Type 0
FindsFaults text o served faults =
    (entries : List po.Entry) × outcome.Gives text entries × AreAllFaults served (kept_entries o entries) faults

pub has_faults : (text : List ℕ) (o : Options) (header : Option Header) (rule : Rule) (served : List Bool)
    (faults : List Fault) → FindsHeader text o header → IsRuleBy header rule → served ≡ often_served rule
    → FindsFaults text o served faults → HasFaults text o faults
has_faults text o header rule served faults (entries, gives, is) by same (others, again, are) =
    let one : others ≡ entries = gives_one text others entries again gives in
    let (accepted, has) = rule_holds (kept_header o entries) header rule is by in
    record {
      entries = entries;
      gives = gives;
      accepted = accepted;
      rule = rule;
      rule_is = has;
      faults_are = subst (λ (s : List Bool). AreAllFaults s (kept_entries o entries) faults) same
          (subst (λ (es : List po.Entry). AreAllFaults served (kept_entries o es) faults) one are);
    }

pub charset_refuses : (text : List ℕ) (o : Options) (header : Option Header) (fault : LoadFault)
    → FindsHeader text o header → IsForeignBy header fault → Refuses text o fault.kind fault.line
charset_refuses text o header fault (entries, gives, is) foreign =
    let (kind, at) = foreign_holds o entries header fault is foreign in
    inr (entries, gives, kind, at)
