use Rattle.std.proofs.Common.{rules}
use Rattle.live_set.proofs.Placing.{listed_by_all, listed_by_rest}
use Rattle.live_set.proofs.set.CatalogueSet.places_in.Goals as goal

pub members-init : goal.members-init
members-init c = (
  λ all extended. listed_by_all c.args.self.now.held c.args.domain.now c.args.languages.now c.new-places.result all
      c.new-places.ensures extended,
  search rules,
)

pub members-preserved : goal.members-preserved
members-preserved c = (
  λ all extended. listed_by_rest c.args.self.now.held c.args.domain.now c.args.languages.now c.members.rest.now
      c.in-Some.member.now c.in-Some.others.now c.members.places c.add_member.new.places all c.in-Some.ensures.cut
      c.add_member.ensures c.members.invariant.0 extended,
  search rules,
)
