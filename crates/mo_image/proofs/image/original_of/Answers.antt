use Rattle.mo_image.proofs.Kit.{ap, arith, key_part}
use Rattle.mo_image.proofs.ImageFacts.{entry_facts, entry_room, key_found}
use Rattle.mo_image.proofs.image.original_of.Goals as goal

pub text-requires : goal.text-requires
text-requires c = (entry_facts c.args.bytes.now c.args.i c.requires.image c.requires.within).original

pub overflow_mul-i : goal.overflow_mul-i
overflow_mul-i c = omega (arith, entry_room c.args.bytes.now c.args.i c.requires.image c.requires.within)

pub overflow_add-i : goal.overflow_add-i
overflow_add-i c = omega (arith, entry_room c.args.bytes.now c.args.i c.requires.image c.requires.within)

pub returns-clause-key : goal.returns-clause-key
returns-clause-key c = key_found c.args.bytes.now c.args.i (key_part c.text.result.now) c.requires.image
    c.requires.within (ap key_part c.text.ensures)
