use Rattle.std.proofs.Common.{List, ℕ, Some, length, ◌∙◌, sym, ap, subst, arith}
use Rattle.std.specs.Str.{IsUtf8}
use Rattle.po_text.proofs.Kept.{count_is, cut_at, form_at, forms_lawful}
use Rattle.po_text.proofs.buffer.EntryBuffer.form.Goals as goal

pub form_bounds-start-requires : goal.form_bounds-start-requires
form_bounds-start-requires c =
    let b = c.self.inside in
    omega (
      arith,
      c.requires,
      count_is b c.args.self.now c.self.view_is c.self.invariant,
      ap (λ (x : List ℕ). length x)
          c.deref.ensures.value,
    )

pub text_between-requires-clause-rises : goal.text_between-requires-clause-rises
text_between-requires-clause-rises c =
    let b = c.self.inside in
    let h = form_at b c.args.self.now c.args.k c.self.view_is c.self.invariant c.requires in
    (cut_at b.forms.items b.starts.items c.deref-2.result.now c.deref.result.now c.args.self.now.forms c.args.k _ _
    c.len.result h c.deref-2.ensures.value c.deref.ensures.value c.form_bounds-start.ensures.start
    c.form_bounds-start.ensures.end (omega (arith, c.len.ensures, b.forms.ok.0))).rises

pub text_between-requires-clause-within : goal.text_between-requires-clause-within
text_between-requires-clause-within c =
    let b = c.self.inside in
    let h = form_at b c.args.self.now c.args.k c.self.view_is c.self.invariant c.requires in
    (cut_at b.forms.items b.starts.items c.deref-2.result.now c.deref.result.now c.args.self.now.forms c.args.k _ _
    c.len.result h c.deref-2.ensures.value c.deref.ensures.value c.form_bounds-start.ensures.start
    c.form_bounds-start.ensures.end (omega (arith, c.len.ensures, b.forms.ok.0))).within

pub text_between-requires-clause-utf8 : goal.text_between-requires-clause-utf8
text_between-requires-clause-utf8 c =
    let b = c.self.inside in
    let h = form_at b c.args.self.now c.args.k c.self.view_is c.self.invariant c.requires in
    let cut = cut_at b.forms.items b.starts.items c.deref-2.result.now c.deref.result.now c.args.self.now.forms c.args.k
    _ _ c.len.result h c.deref-2.ensures.value c.deref.ensures.value c.form_bounds-start.ensures.start
    c.form_bounds-start.ensures.end (omega (arith, c.len.ensures, b.forms.ok.0)) in
    subst IsUtf8 (sym cut.cut) (h.lawful (forms_lawful b c.args.self.now c.self.view_is c.self.invariant)).utf8

pub returns : goal.returns
returns c =
    let b = c.self.inside in
    let h = form_at b c.args.self.now c.args.k c.self.view_is c.self.invariant c.requires in
    let cut = cut_at b.forms.items b.starts.items c.deref-2.result.now c.deref.result.now c.args.self.now.forms c.args.k
    _ _ c.len.result h c.deref-2.ensures.value c.deref.ensures.value c.form_bounds-start.ensures.start
    c.form_bounds-start.ensures.end (omega (arith, c.len.ensures, b.forms.ok.0)) in
    h.is ∙ ap (λ (x : List ℕ). Some x) (sym (c.text_between.ensures ∙ cut.cut))
