use Rattle.std.proofs.Common.{◌≡◌, true, List, ℕ, sym, subst}
use Rattle.std.specs.List.{list_all}
use Rattle.std.specs.Char.{is_ascii_digit}
use Rattle.numbered_arguments.proofs.NumberLemmas.{run_passes}
use Rattle.java_printf_format.proofs.directive.read_which.Goals as goal

pub number_of-number-requires : goal.number_of-number-requires
number_of-number-requires c = subst (λ (t : List ℕ). list_all is_ascii_digit t ≡ true)
    (sym c.split_digits.ensures.front) (run_passes is_ascii_digit c.args.text.now)
