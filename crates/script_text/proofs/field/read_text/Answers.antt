use Rattle.std.proofs.Common.{◌≡◌, ◌∙◌, ◌++◌, ◌∷◌, [], Some, sym, ap, refl, arith}
use Rattle.std.specs.String.{string_bytes}
use Rattle.script_text.proofs.Cutting.{cut_whole, cut_lacks, uncut_lacks, utf8_behind}
use Rattle.script_text.proofs.Escapes.{reads_nothing, reads_more, reads_none, reads_all}
use Rattle.script_text.proofs.field.read_text.Goals as goal

pub escapes-init : goal.escapes-init
escapes-init c = record { going = rw c.new-text.ensures.bytes (reads_nothing c.args.field.now); utf8 = c.utf8.field }

pub returns-in_default-split_escape : goal.returns-in_default-split_escape
returns-in_default-split_escape c =
    let rest = c.escapes.rest.now in
    let plain = c.in-Some.plain.now in
    let behind = c.in-Some.behind.now in
    let cut = c.in-Some.ensures.cases in
    reads_none c.args.field.now (string_bytes c.escapes.text) rest plain behind c.escapes.invariant.going
    (cut_whole cut) (cut_lacks cut) c.in_default-split_escape.ensures

pub escapes-preserved : goal.escapes-preserved
escapes-preserved c =
    let rest = c.escapes.rest.now in
    let plain = c.in-Some.plain.now in
    let behind = c.in-Some.behind.now in
    let after = c.in-Some-split_escape.after.now in
    let cut = c.in-Some.ensures.cases in
    let whole = cut_whole cut in
    let escape = c.in-Some-split_escape.ensures in
    let more = reads_more c.args.field.now (string_bytes c.escapes.text) rest plain behind after escape.0
    c.in-Some-split_escape.byte c.escapes.invariant.going whole (cut_lacks cut) escape.1 escape.2 in
    let bytes : string_bytes c.push.new.self ≡ (string_bytes c.escapes.text ++ plain)
    ++ (c.in-Some-split_escape.byte ∷ []) = rw (
      c.in_ok-push.ensures.bytes,
      c.in_ok-push_str.ensures.bytes,
      c.in_ok-push.ensures.ascii escape.4,
    ) refl in
    let utf8 = utf8_behind 92 rest plain behind c.escapes.invariant.utf8 whole (omega arith) in
    record { going = rw bytes more; utf8 = utf8_behind escape.0 behind [] after utf8 escape.1 escape.3 }

pub returns : goal.returns
returns c =
    let rest = c.escapes.rest.now in
    let none = uncut_lacks 92 rest c.in_default.ensures.cases in
    reads_all c.args.field.now (string_bytes c.escapes.text) rest c.escapes.invariant.going none
    ∙ ap (λ zs. Some zs) (sym c.in_ok-push_str-2.ensures.bytes)
