use Rattle.life.proofs.Common.{rules, ◌≡◌, sym, ap, ◌∙◌, Mo, JobValue, source_value, IsRefused}
use Rattle.desks.proofs.Jobs.{accepted_po, refused_mo}
use Rattle.life.proofs.snapshots.publish.load_job.Goals as goal

pub returns-in_ok-stats-in-Po-clause-ok : goal.returns-in_ok-stats-in-Po-clause-ok
returns-in_ok-stats-in-Po-clause-ok c =
    accepted_po _ _ c.args.job.now _ _ _ _ _ (cc) (cc) (cc) c.in_ok-stats-in-Po.ensures.ok

pub returns-in_err-entries-in-Mo-clause-err : goal.returns-in_err-entries-in-Mo-clause-err
returns-in_err-entries-in-Mo-clause-err c =
    let job = c.args.job.now in
    let bytes = c.as_slice-in-Mo.result.now in
    let domain : job.domain ≡ c.as_str-domain.result.now = sym (ap (λ (j : JobValue). j.domain) c.job.view_is)
    ∙ sym c.as_str-domain.ensures.value in
    let locale : job.locale ≡ c.as_str-locale.result.now = sym (ap (λ (j : JobValue). j.locale) c.job.view_is)
    ∙ sym c.as_str-locale.ensures.value in
    let source : job.source ≡ Mo bytes = sym (ap (λ (j : JobValue). j.source) c.job.view_is)
    ∙ (ap source_value c.in-Mo.is ∙ ap Mo (sym c.as_slice-in-Mo.ensures.value)) in
    let refused : IsRefused c.args.publisher.now job c.in_err-entries-in-Mo.field-0.0 =
    refused_mo c.args.publisher.now job _ _ bytes _ domain locale source c.in_err-entries-in-Mo.ensures.err in
    search (rules, refused)
