use Rattle.std.proofs.Common.{rules, ◌≡◌, ◌++◌, ◌∷◌, [], ap, ◌∙◌, subst, Option, IfSome}
use Rattle.std.proofs.lemmas.List.Elements.{All-pop, All-push, All-same}
use Rattle.live_versions.specs.declared.reader.Lookups.{Lookups}
use Rattle.desks.specs.declared.desk.Desk.{Desk}
use Rattle.bench_calls.proofs.serving.desks_of.Goals as goal

pub readers-preserved : goal.readers-preserved
readers-preserved c =
    let inv = c.readers.invariant in
    let book = c.args.publisher.now.seen.book in
    let left = All-pop (λ (r : Lookups). r.book ≡ book) c.readers.readers.items c.pop.new.self.items c.pop.result
    c.pop.ensures.items inv.2 in
    let mine : c.in-Some.reader.book ≡ book = subst (λ (r : Option Lookups). IfSome r (λ l. l.book ≡ book)) c.in-Some.is
    left.1 in
    let desk : c.in_ok-desk.desk.reader ≡ c.in-Some.reader = search rules in
    let items : c.push.new.self.items ≡ c.readers.desks.items ++ c.in_ok-desk.desk ∷ [] = search rules in (
      search rules,
      search rules,
      left.0,
      All-same (λ (d : Desk). d.reader.book ≡ book) _ _ items
          (All-push (λ (d : Desk). d.reader.book ≡ book) c.readers.desks.items c.in_ok-desk.desk inv.3
          (ap (λ l. l.book) desk ∙ mine)),
    )
