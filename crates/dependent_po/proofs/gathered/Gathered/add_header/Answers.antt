use Rattle.std.proofs.Common.{◌≡◌, refl, ap, ◌∙◌, true, false}
use Rattle.std.specs.Prelude.{is_some, not}
use Rattle.dependent_po.proofs.GatherLemmas.{header_either}
use Rattle.dependent_po.proofs.gathered.Gathered.add_header.Goals as goal

pub returns-in_ok-self : goal.returns-in_ok-self
returns-in_ok-self c =
    let empty : is_some c.args.self.now.header ≡ false = c.is_none.ensures ∙ ap not c.if-is_none.true in
    record {
      header = header_either c.args.options c.args.entry.now c.args.self.now.header _
          (λ none. c.in_ok-self.ensures) (λ h some. absurd (cc (rw some at empty)));
      messages = refl;
      findings = refl;
      mismatch = refl;
      standings = refl;
    }

pub returns-else-is_none : goal.returns-else-is_none
returns-else-is_none c =
    let full : is_some c.args.self.now.header ≡ true = c.is_none.ensures ∙ ap not c.if-is_none.false in
    record {
      header = header_either c.args.options c.args.entry.now c.args.self.now.header c.args.self.now.header
          (λ none. absurd (cc (rw none at full))) (λ h some. refl);
      messages = refl;
      findings = refl;
      mismatch = refl;
      standings = refl;
    }
