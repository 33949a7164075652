use Rattle.std.proofs.lemmas.Result.{IfErr-weaker}
use Rattle.std.proofs.Common.{ℕ, List}
use Rattle.format_arguments.specs.declared.FormatFault.{FormatFault}
use Rattle.format_arguments.specs.declared.FormatFault.TheVariants.{Invalid, Memory}
use Rattle.numbered_formats.specs.declared.Notation.TheVariants.{Kde}
use Rattle.numbered_formats.specs.NumberFormat as numbers
use Rattle.kuit_formats.specs.KuitFormat.{HasFault}
use Rattle.kuit_formats.proofs.format.signature.Goals as goal

fault_is : (text : List ℕ) (fault : FormatFault) → numbers.HasFault Kde text fault → HasFault text fault
fault_is text Invalid none = λ asked h. none asked h.1
fault_is text Memory none = tt

pub returns-clause-err : goal.returns-clause-err
returns-clause-err c =
    IfErr-weaker c.signature.result _ _ (fault_is c.args.text.now) c.signature.ensures.err
