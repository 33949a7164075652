use Rattle.catalogue.proofs.Kit.{inr, sym, ◌∙◌, false≢true}
use Rattle.po_header.specs.Rules.{rule_of}
use Rattle.catalogue.proofs.Compiling.{few, refused, foreign, failed, lawful_map, map_rule, compiles}
use Rattle.catalogue.proofs.compiler.compile_collected.Goals as goal

pub stats_of-stats-requires : goal.stats_of-stats-requires
stats_of-stats-requires c = rw c.deref.ensures.value (few _ _ _ _ c.requires.1)

pub returns-in-Some-clause-err : goal.returns-in-Some-clause-err
returns-in-Some-clause-err c text read =
    inr (refused text c.args.options _ _ _ c.in-Some.draft.now
    read
    (record { same = c.sort.ensures.same; sorted = c.sort.ensures.sorted })
    (rw c.deref-4.ensures.value at c.in-Some.ensures))

pub returns-then-not-is_accepted-clause-err : goal.returns-then-not-is_accepted-clause-err
returns-then-not-is_accepted-clause-err c text read =
    inr (foreign text c.args.options _ _ _ c.header_text-header.result _
    read
    (record { same = c.sort.ensures.same; sorted = c.sort.ensures.sorted })
    (rw (c.deref-4.ensures.value, c.in_default.is) at c.first_repeat.ensures)
    (record {
      line_is = rw c.deref-2.ensures.value at c.header_line-header_line.ensures;
      text_is = rw
          c.deref-3.ensures.value at c.header_text-header.ensures;
    })
    (λ named. false≢true (sym c.if-not-is_accepted.true ∙ c.is_accepted-is_accepted.ensures.1 named)))

pub returns-in-Some-fault-clause-err : goal.returns-in-Some-fault-clause-err
returns-in-Some-fault-clause-err c text read =
    inr (failed text c.args.options _ _ c.args.collected.findings c.header_text-header.result
    c.header_line-header_line.result (rule_of c.in_ok-rule.rule) c.in-Some-fault.fault
    read
    (record { same = c.sort.ensures.same; sorted = c.sort.ensures.sorted })
    (rw (c.deref-4.ensures.value, c.in_default.is) at c.first_repeat.ensures)
    (record {
      line_is = rw c.deref-2.ensures.value at c.header_line-header_line.ensures;
      text_is = rw
          c.deref-3.ensures.value at c.header_text-header.ensures;
    })
    (c.is_accepted-is_accepted.ensures.0 c.if-not-is_accepted.false) c.in_ok-rule.ensures.ok c.in-Some-fault.ensures)

pub from_list_over-requires-clause-lawful : goal.from_list_over-requires-clause-lawful
from_list_over-requires-clause-lawful c =
    lawful_map c.requires.0 c.args.options _ _ _ c.header_text-header.result c.header_line-header_line.result _
    c.requires.1
    (record { same = c.sort.ensures.same; sorted = c.sort.ensures.sorted })
    (rw (c.deref-4.ensures.value, c.in_default.is) at c.first_repeat.ensures)
    (record {
      line_is = rw c.deref-2.ensures.value at c.header_line-header_line.ensures;
      text_is = rw
          c.deref-3.ensures.value at c.header_text-header.ensures;
    })
    (c.is_accepted-is_accepted.ensures.0 c.if-not-is_accepted.false) c.keep.ensures

pub from_list_over-requires-clause-rule : goal.from_list_over-requires-clause-rule
from_list_over-requires-clause-rule c =
    map_rule c.requires.0 c.args.options _ _ _ c.header_text-header.result c.header_line-header_line.result
    (rule_of c.in_ok-rule.rule) _
    c.requires.1
    (record { same = c.sort.ensures.same; sorted = c.sort.ensures.sorted })
    (rw (c.deref-4.ensures.value, c.in_default.is) at c.first_repeat.ensures)
    (record {
      line_is = rw c.deref-2.ensures.value at c.header_line-header_line.ensures;
      text_is = rw
          c.deref-3.ensures.value at c.header_text-header.ensures;
    })
    c.in_ok-rule.ensures.ok c.keep.ensures

pub returns-clause-ok : goal.returns-clause-ok
returns-clause-ok c text read =
    let stats = rw c.deref.ensures.value at c.stats_of-stats.ensures in
    compiles text c.args.options _ _ c.args.collected.findings c.header_text-header.result
    (rule_of c.in_ok-rule.rule) _ _
    read
    (record { same = c.sort.ensures.same; sorted = c.sort.ensures.sorted })
    (rw (c.deref-4.ensures.value, c.in_default.is) at c.first_repeat.ensures)
    (record {
      line_is = rw c.deref-2.ensures.value at c.header_line-header_line.ensures;
      text_is = rw
          c.deref-3.ensures.value at c.header_text-header.ensures;
    })
    (c.is_accepted-is_accepted.ensures.0 c.if-not-is_accepted.false) c.in_ok-rule.ensures.ok
    (rw c.in_default-fault.is at c.fault.ensures) c.keep.ensures
    (record { translated = stats.translated; fuzzy = stats.fuzzy; untranslated = stats.untranslated })
    c.in_ok-catalogue.ensures c.missing_in-missing.ensures
