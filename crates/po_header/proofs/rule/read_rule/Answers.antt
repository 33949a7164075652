use Rattle.std.proofs.Common.{sym, inl, inr, ap, lit<, Err}
use Rattle.po_header.proofs.RuleLemmas.{absent_both}
use Rattle.po_header.proofs.TextLemmas.{follows_is, lacks_is}
use Rattle.po_header.proofs.rule.read_rule.Goals as goal

pub returns-in_default-clause-ok : goal.returns-in_default-clause-ok
returns-in_default-clause-ok c = inl (lacks_is _ c.args.text.now (lit< tt) (sym c.in_default.ensures))

pub returns-in_default-behind-clause-ok : goal.returns-in_default-behind-clause-ok
returns-in_default-behind-clause-ok c = inr (lacks_is _ c.args.text.now (lit< tt) (sym c.in_default-behind.ensures))

pub returns-in_default-number_at-clause-ok : goal.returns-in_default-number_at-clause-ok
returns-in_default-number_at-clause-ok c =
    record {
      count = c.in-Some.count.now;
      expr = c.in-Some-behind.expr.now;
      both = record {
        count_is = follows_is _ _ _ (sym c.in-Some.ensures);
        expr_is = follows_is _ _ _
            (sym c.in-Some-behind.ensures);
      };
      fails = inl (rw c.as_bytes.ensures.value at (sym c.in_default-number_at.ensures));
    }

pub returns-in-Err-TooLong-clause-ok : goal.returns-in-Err-TooLong-clause-ok
returns-in-Err-TooLong-clause-ok c =
    record {
      count = c.in-Some.count.now;
      expr = c.in-Some-behind.expr.now;
      both = record {
        count_is = follows_is _ _ _ (sym c.in-Some.ensures);
        expr_is = follows_is _ _ _
            (sym c.in-Some-behind.ensures);
      };
      fails = inr (inl (c.in-Err-TooLong.ensures.too_long.0 (ap Err c.in-Err-TooLong.field-0-is)));
    }

pub returns-in-Ok-clause-ok : goal.returns-in-Ok-clause-ok
returns-in-Ok-clause-ok c =
    record {
      count = c.in-Some.count.now;
      expr = c.in-Some-behind.expr.now;
      both = record {
        count_is = follows_is _ _ _ (sym c.in-Some.ensures);
        expr_is = follows_is _ _ _
            (sym c.in-Some-behind.ensures);
      };
      number = rw c.as_bytes.ensures.value at (sym c.in-Some-number_at.ensures);
      short = λ long. let e = c.in-Ok.ensures.too_long.1 long in absurd (cc e);
      read = c.in-Ok.ensures.ok;
    }

pub returns-in-Err-Malformed-clause-ok : goal.returns-in-Err-Malformed-clause-ok
returns-in-Err-Malformed-clause-ok c =
    record {
      count = c.in-Some.count.now;
      expr = c.in-Some-behind.expr.now;
      both = record {
        count_is = follows_is _ _ _ (sym c.in-Some.ensures);
        expr_is = follows_is _ _ _
            (sym c.in-Some-behind.ensures);
      };
      fails = inr (inr (c.in-Err-Malformed.ensures.malformed (ap Err c.in-Err-Malformed.field-0-is)));
    }

pub returns-in-Err-Memory-clause-no_memory : goal.returns-in-Err-Memory-clause-no_memory
returns-in-Err-Memory-clause-no_memory c = λ absent. absurd (absent_both c.args.text.now _ _ absent (record {
  count_is = follows_is _ _ _ (sym c.in-Some.ensures);
  expr_is = follows_is _ _ _ (sym c.in-Some-behind.ensures);
}))
