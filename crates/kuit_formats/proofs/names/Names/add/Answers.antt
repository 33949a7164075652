use Rattle.std.proofs.Common.{◌≡◌, Bool, true, false, cond, Option, Some, refl, ap, ◌∙◌}
use Rattle.std.specs.Prelude.{◌||◌, is_some}
use Rattle.std.specs.Str.{bytes_eq}
use Rattle.std.proofs.lemmas.Map.Text.{btree_map_updates_str}
use Rattle.kuit_formats.proofs.names.Names.add.Goals as goal

some_or : {X : Type 0} (b : Bool) (x : X) (old : Option X) → is_some (cond b (Some x) old) ≡ (b || is_some old)
some_or true x old = refl
some_or false x old = refl

pub returns-clause-added : goal.returns-clause-added
returns-clause-added c = λ other.
    ap is_some (btree_map_updates_str c.args.name.now c.args.self.now.known c.insert.new.self _
    c.in_ok-known.ensures.updates other) ∙ some_or (bytes_eq c.args.name.now other) _ _
