use Rattle.entry_search.proofs.Kit.{List, ℕ, ap, sym, ◌∙◌, option_map, hash_alone, hash_within}
use Rattle.entry_search.proofs.Indexing.{adds_one, adds_two}
use Rattle.entry_search.proofs.index_slots.push_slots.Goals as goal

pub returns-in_ok-push-2 : goal.returns-in_ok-push-2
returns-in_ok-push-2 c =
    let e = c.entry_in-entry.result in
    let here = c.entry_in-entry.ensures.entry c.args.i c.extents-extents.ensures in
    adds_two c.args.image.now c.args.i e c.in-Some.context.now c.args.slots.now.items c.push.new.self.items
    c.push-in-Some.new.self.items (record { hash = c.hash_alone-hash.result; extents = c.extents-extents.result })
    (record { hash = c.hash_within-hash.result; extents = c.extents-extents.result }) here
    c.extents-extents.ensures c.extents-extents.ensures
    (c.hash_alone-hash.ensures ∙ ap hash_alone (c.as_bytes.ensures.value ∙ c.key.ensures))
    (c.hash_within-hash.ensures ∙ ap (λ (x : List ℕ). hash_within x c.as_bytes-in-Some-2.result.now)
    c.as_bytes-in-Some.ensures.value ∙ ap (hash_within c.in-Some.context.now)
    (c.as_bytes-in-Some-2.ensures.value ∙ c.id.ensures))
    (sym c.context.ensures ∙ ap (option_map (λ s. s.now)) c.in-Some.is) c.in_ok-push.ensures.items
    c.in_ok-push-2.ensures.items

pub returns-in_default : goal.returns-in_default
returns-in_default c =
    let e = c.entry_in-entry.result in
    let here = c.entry_in-entry.ensures.entry c.args.i c.extents-extents.ensures in
    adds_one c.args.image.now c.args.i e c.args.slots.now.items c.push.new.self.items
    (record { hash = c.hash_alone-hash.result; extents = c.extents-extents.result }) here
    c.extents-extents.ensures (c.hash_alone-hash.ensures ∙ ap hash_alone (c.as_bytes.ensures.value ∙ c.key.ensures))
    (sym c.in_default.ensures) c.in_ok-push.ensures.items
