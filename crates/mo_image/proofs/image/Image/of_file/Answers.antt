use Rattle.mo_image.proofs.ImageFacts.{file_image, image_file}
use Rattle.mo_image.proofs.image.Image.of_file.Goals as goal

pub invariant_of-result : goal.invariant_of-result
invariant_of-result c = file_image c.args.file.items c.requires.0 c.requires.1

pub returns : goal.returns
returns c = image_file c.args.file.items (file_image c.args.file.items c.requires.0 c.requires.1)
