use Rattle.std.proofs.Common.{◌≡◌, ℕ, true, false, ◌∙◌, sym, ap, length, drop, arith}
use Rattle.std.specs.List.{list_all}
use Rattle.std.specs.Str.{chars}
use Rattle.std.proofs.lemmas.Iterator.{YieldsList-from_chars}
use Rattle.std.proofs.lemmas.Iterator.Consumers.{YieldsList-turn, YieldsList-end}
use Rattle.std.proofs.lemmas.List.{at_drop_all, length_push}
use Rattle.kuit_formats.specs.KuitCharacters.{may_be_at}
use Rattle.kuit_formats.proofs.CharacterLemmas.{all_drop}
use Rattle.kuit_formats.proofs.characters.all_may_be_at.Goals as goal

pub returns-then-not-may_be_at : goal.returns-then-not-may_be_at
returns-then-not-may_be_at c =
    let t = YieldsList-turn (YieldsList-from_chars c.args.text.now c.utf8.text cc) c.loop-character.yielded _
    c.loop-character.yielded_by _ _ c.in-Some.character c.in-Some.is c.next.ensures.steps in
    let all = all_drop (may_be_at c.args.place) _ _ _ t in
    let no : may_be_at c.args.place c.in-Some.character ≡ false = cc (c.may_be_at.ensures, c.if-not-may_be_at.true) in
    sym (rw no at all) ∙ c.loop-character.invariant

pub loop-character-preserved : goal.loop-character-preserved
loop-character-preserved c =
    let t = YieldsList-turn (YieldsList-from_chars c.args.text.now c.utf8.text cc) c.loop-character.yielded _
    c.loop-character.yielded_by _ _ c.in-Some.character c.in-Some.is c.next.ensures.steps in
    let all = all_drop (may_be_at c.args.place) _ _ _ t in
    let yes : may_be_at c.args.place c.in-Some.character ≡ true = cc (c.may_be_at.ensures, c.if-not-may_be_at.false) in
    ap (λ (n : ℕ). list_all (may_be_at c.args.place) (drop n (chars c.args.text.now)))
    (length_push c.loop-character.yielded c.in-Some.character)
    ∙ sym (rw yes at all) ∙ c.loop-character.invariant

pub returns : goal.returns
returns c =
    let t = YieldsList-end (YieldsList-from_chars c.args.text.now c.utf8.text cc) c.loop-character.yielded _
    c.loop-character.yielded_by _ _ c.in-None.is c.next.ensures.steps in
    sym (at_drop_all (list_all (may_be_at c.args.place)) (chars c.args.text.now) (length c.loop-character.yielded)
    (omega (arith, t.1))) ∙ c.loop-character.invariant
