use Rattle.catserve.proofs.Common.{◌≡◌, ◌∙◌, ◌++◌, refl, sym, ap, arith, [], append-nil, joined_loads, version_of}
use Rattle.catserve.proofs.Common.{StoreValue}
use Rattle.catserve.proofs.Common.{SeenValue, desk_lines}
use Rattle.catserve.proofs.Asked.{answers_in_turn, ready_again, ready_still, books_given, none_in_turn, whole_of}
use Rattle.catserve.proofs.Asked.{done_none}
use Rattle.catserve.proofs.Playing.{plays_one}
use Rattle.catserve.proofs.round.finish.Goals as goal

pub serve-requires-clause-book : goal.serve-requires-clause-book
serve-requires-clause-book g c κs within =
    books_given c.args.publisher.now.seen c.publish.new.self.seen c.args.desks.now.items c.args.desks.now.items refl
    c.in-Ok.ensures.book c.requires.book

pub returns-then-not-any_asked-clause-ok : goal.returns-then-not-any_asked-clause-ok
returns-then-not-any_asked-clause-ok g c round was before none loaded asked =
    let published = c.publish.new.self in
    let written = c.write_version.new.output.items in
    let nobody = rw c.as_slice.ensures.value at (sym c.any_asked.ensures ∙ c.if-not-any_asked.true) in
    plays_one c.args.publisher.now c.in-Ok.version written [] none loaded.loaded loaded.seen
    (ap (λ (f : SeenValue). f.batches) c.in-Ok.ensures.ok) c.in-Ok.ensures.empty (c.in-Ok.ensures.most ∙ loaded.most)
    c.in-Ok.ensures.version c.in_ok-write_version.ensures
    (none_in_turn (joined_loads published.seen.batches) round.questions 0 c.args.desks.now.items asked nobody)
    (sym (append-nil written))

pub returns-then-not-any_asked-clause-ready : goal.returns-then-not-any_asked-clause-ready
returns-then-not-any_asked-clause-ready g c =
    let nobody = rw c.as_slice.ensures.value at (sym c.any_asked.ensures ∙ c.if-not-any_asked.true) in
    ready_still c.args.publisher.now.seen c.publish.new.self.seen c.args.desks.now.items c.in-Ok.ensures.book
    c.requires.book nobody

pub returns-clause-ok : goal.returns-clause-ok
returns-clause-ok g c round was before none loaded asked =
    let published = c.publish.new.self in
    let now = c.serve.new.publisher in
    let desks = c.args.desks.now.items in
    let served = c.serve.new.desks.items in
    let same : now ≡ published = done_none published now c.new.result.items c.in-Ok-serve.served.outcomes.items
    c.new.ensures.items c.in-Ok.ensures.empty c.in-Ok-serve.ensures.done in
    let batches : now.seen.batches ≡ published.seen.batches = ap (λ (s : StoreValue). s.seen.batches) same in
    plays_one c.args.publisher.now c.in-Ok.version c.write_version.new.output.items (desk_lines 0 served) none
    loaded.loaded loaded.seen (batches ∙ ap (λ (f : SeenValue). f.batches) c.in-Ok.ensures.ok)
    (ap (λ (s : StoreValue). s.pending) same ∙ c.in-Ok.ensures.empty)
    (c.in-Ok-serve.ensures.most ∙ c.in-Ok.ensures.most ∙ loaded.most)
    (c.in-Ok.ensures.version ∙ ap version_of (sym batches)) c.in_ok-write_version.ensures
    (answers_in_turn published.seen now.seen round.questions 0 desks served batches asked c.in-Ok-serve.ensures.desks)
    (c.in_ok-write_all.ensures.written ∙ ap (λ ds. c.write_version.new.output.items ++ desk_lines 0 ds)
    c.as_mut_slice.ensures.value)

pub returns-clause-ready : goal.returns-clause-ready
returns-clause-ready g c =
    let served = c.serve.new.desks.items in
    let gone = rw c.as_mut_slice.ensures.value at c.in_ok-write_all.ensures.freed in
    rw (whole_of c.write_all.new.desks served c.serve.new.desks.len
    (omega (arith, c.write_all.auto.desks, c.as_mut_slice.ensures.len)))
    (ready_again c.publish.new.self.seen c.args.desks.now.items served c.in-Ok-serve.ensures.desks gone)
