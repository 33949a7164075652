use Rattle.live_set.proofs.Kit.{◌≡◌, ◌≤◌, length, IsUtf8, members}
use Rattle.live_set.proofs.languages.first_member.Given as goal

abbrev pub invariant-colons : goal.invariant-colons
invariant-colons l = (members l.languages ≡ members l.list) × (length l.list ≤ length l.languages) × IsUtf8 l.list

abbrev pub decreases-colons : goal.decreases-colons
decreases-colons l = length l.list
