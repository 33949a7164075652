use Rattle.catserve.proofs.Common.{refl}
use Rattle.catserve.proofs.Playing.{loads_one, most_kept}
use Rattle.catserve.proofs.player.Player.load.Goals as goal

pub returns : goal.returns
returns c =
    let made = c.load_job-made in
    let store = c.self.inside.publisher in
    let job = c.args.job in
    rw (← c.self.view_is, c.in_ok-extend_from_slice.ensures.items, c.as_bytes.ensures.value) (record {
      loads = loads_one job made.result store made.new.publisher c.self.inside.held.items _ made.ensures.ok
          made.ensures.err made.ensures.unchanged c.in_ok-line.ensures;
      seen = made.ensures.seen;
      most = most_kept job made.result store made.new.publisher made.ensures.ok made.ensures.unchanged;
      desks = refl;
      begun = refl;
    })
