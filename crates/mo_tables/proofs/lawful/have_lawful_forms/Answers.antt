use Rattle.mo_tables.proofs.Kit.{Bool, ◌↔◌, All, table_at, HasForms, rows}
use Rattle.std.specs.Prelude.{IsTrue}
use Rattle.std.proofs.lemmas.Result.{IfOk-weaker}
use Rattle.mo_tables.specs.MoTables.{HaveLawfulForms}
use Rattle.mo_tables.proofs.TableRows.{rows_lie, forms_of_rows}
use Rattle.mo_tables.proofs.lawful.have_lawful_forms.Goals as goal

pub have_forms-requires : goal.have_forms-requires
have_forms-requires g c =
    rw c.in_ok-rows.ensures (rows_lie g.T.ByteOrder.number_of c.args.bytes.now c.args.originals c.args.translations
    c.args.n c.requires.originals c.requires.translations)

pub returns : goal.returns
returns g c =
    let number = g.T.ByteOrder.number_of in
    let bytes = c.args.bytes.now in
    let o = c.args.originals in
    let t = c.args.translations in
    let n = c.args.n in
    let tested = rw c.in_ok-rows.ensures at c.have_forms.ensures in
    let same = forms_of_rows number bytes o t n in
    let P : Bool → Type 0 = λ yes. IsTrue yes ↔ All (HasForms bytes) (rows number bytes o t n) in
    let Q : Bool → Type 0 = λ yes. IsTrue yes ↔ HaveLawfulForms (table_at number bytes o n)
    (table_at number bytes t n) in
    IfOk-weaker c.have_forms.result P Q (λ yes both. (λ e. same.0 (both.0 e), λ lawful. both.1 (same.1 lawful))) tested
