use Rattle.catalogue_map.proofs.Accepting.{header_some, header_none}
use Rattle.catalogue_map.proofs.accepts.header_is_lawful.Goals as goal

pub returns-in-Some : goal.returns-in-Some
returns-in-Some c =
    header_some c.args.messages.now c.in-Some.message.now _ c.in-Some.ensures
    (rw (c.first_form.ensures, c.as_slice.ensures.value) at c.has_accepted_charset.ensures)

pub returns-in-None : goal.returns-in-None
returns-in-None c = header_none c.args.messages.now c.in-None.ensures
