-- Private: the kept header of a text, as the code stores it.
use Rattle.std.specs.Prelude.{◌≡◌, Option, None, Some, string_bytes}
use Rattle.po_text.specs.Entries as po
use Rattle.po_header.specs.Rule.{Rule, Absent, HasRule}
use Rattle.message.specs.Charset.{HasAcceptedCharset}
pub use Rattle.po_checks.specs.declared.fault.LoadFault.{LoadFault}
use Rattle.po_checks.specs.declared.fault.LoadKind.TheVariants.{Charset}
pub use Rattle.po_checks.specs.declared.header.Header.{Header}

-- the header's charset is accepted, and this is its rule
abbrev pub IsRuleBy : Option Header → Rule → Type 0
IsRuleBy None rule = rule ≡ Absent
IsRuleBy (Some header) rule = HasAcceptedCharset (string_bytes header.text) × HasRule (string_bytes header.text) rule

-- the header is refused for its charset
abbrev pub IsForeignBy : Option Header → LoadFault → Type 0
IsForeignBy None fault = ⊥
IsForeignBy (Some header) fault =
    (¬ HasAcceptedCharset (string_bytes header.text)) × (fault ≡ record { kind = Charset; line = header.line })
