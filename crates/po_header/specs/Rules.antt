-- The plural rule that the code read (GNU gettext manual, "Plural forms").
use Rattle.po_header.specs.declared.rule.RuleRead.{RuleRead}
use Rattle.po_header.specs.declared.rule.RuleRead.TheVariants as read
use Rattle.po_header.specs.Expr.{tree_of}
use Rattle.po_header.specs.Rule.{Rule, Given, Absent, Broken}

abbrev pub rule_of : RuleRead → Rule
rule_of (read.Given nplurals expr) = Given nplurals (tree_of expr)
rule_of read.Absent = Absent
rule_of read.Broken = Broken
