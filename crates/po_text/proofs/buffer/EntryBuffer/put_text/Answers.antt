use Rattle.std.specs.Prelude.{is_ok}
use Rattle.po_text.specs.Stages.{stage_view}
use Rattle.po_text.proofs.Kept.{text_kept, text_put, context_grows, id_grows, plural_grows, form_grows}
use Rattle.po_text.proofs.buffer.EntryBuffer.put_text.Goals as goal

pub invariant_of-self : goal.invariant_of-self
invariant_of-self c =
    let b = c.self.inside in
    let p = c.args.stage in
    let ok = is_ok c.extend_from_slice.result in
    text_kept ok (stage_view p 0) b _ c.args.self.now c.args.bytes.now c.self.view_is c.self.invariant c.requires.lawful
    (c.requires.stands 0) (context_grows p 0 ok _ c.args.bytes.now b c.in-ContextWord.is
    c.extend_from_slice.ensures.items)

pub invariant_of-self-in-IdWord : goal.invariant_of-self-in-IdWord
invariant_of-self-in-IdWord c =
    let b = c.self.inside in
    let p = c.args.stage in
    let ok = is_ok c.extend_from_slice-in-IdWord.result in
    text_kept ok (stage_view p 0) b _ c.args.self.now c.args.bytes.now c.self.view_is c.self.invariant c.requires.lawful
    (c.requires.stands 0) (id_grows p 0 ok _ c.args.bytes.now b c.in-IdWord.is
    c.extend_from_slice-in-IdWord.ensures.items)

pub invariant_of-self-in-PluralWord : goal.invariant_of-self-in-PluralWord
invariant_of-self-in-PluralWord c =
    let b = c.self.inside in
    let p = c.args.stage in
    let ok = is_ok c.extend_from_slice-in-PluralWord.result in
    text_kept ok (stage_view p 0) b _ c.args.self.now c.args.bytes.now c.self.view_is c.self.invariant c.requires.lawful
    (c.requires.stands 0) (plural_grows p 0 ok _ c.args.bytes.now b c.in-PluralWord.is
    c.extend_from_slice-in-PluralWord.ensures.items)

pub invariant_of-self-in_default : goal.invariant_of-self-in_default
invariant_of-self-in_default c =
    let b = c.self.inside in
    let p = c.args.stage in
    let o = c.in_default in
    let ok = is_ok c.extend_from_slice-in_default.result in
    text_kept ok (stage_view p 0) b _ c.args.self.now c.args.bytes.now c.self.view_is c.self.invariant c.requires.lawful
    (c.requires.stands 0)
    (form_grows p 0 ok _ c.args.bytes.now b o.not-ContextWord o.not-ContextText o.not-IdWord o.not-IdText
    o.not-PluralWord o.not-PluralText c.extend_from_slice-in_default.ensures.items)

pub returns-in_default : goal.returns-in_default
returns-in_default c k =
    let b = c.self.inside in
    let p = c.args.stage in
    let o = c.in_default in
    text_put c.extend_from_slice-in_default.result (stage_view p k) b _ c.args.self.now c.args.bytes.now c.self.view_is
    c.self.invariant (invariant_of-self-in_default c)
    (form_grows p k (is_ok c.extend_from_slice-in_default.result) _ c.args.bytes.now b o.not-ContextWord
    o.not-ContextText o.not-IdWord o.not-IdText o.not-PluralWord o.not-PluralText
    c.extend_from_slice-in_default.ensures.items)
