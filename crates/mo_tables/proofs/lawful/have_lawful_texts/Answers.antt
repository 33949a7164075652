use Rattle.mo_tables.proofs.TableRows.{rows_lie, texts_of_rows}
use Rattle.mo_tables.proofs.lawful.have_lawful_texts.Goals as goal

pub have_texts-requires : goal.have_texts-requires
have_texts-requires g c =
    rw c.in_ok-rows.ensures (rows_lie g.T.ByteOrder.number_of c.args.bytes.now c.args.originals c.args.translations
    c.args.n c.requires.originals c.requires.translations)

pub returns : goal.returns
returns g c =
    let tested = rw c.in_ok-rows.ensures at c.have_texts.ensures in
    let same = texts_of_rows g.T.ByteOrder.number_of c.args.bytes.now c.args.originals c.args.translations c.args.n in
    (λ e. same.0 (tested.0 e), λ lawful. tested.1 (same.1 lawful))
