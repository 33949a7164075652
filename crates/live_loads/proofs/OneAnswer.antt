-- Every load has exactly one answer.
use Rattle.std.proofs.Common.{◌≡◌, ℕ, List, length, refl, sym, ap, ◌∙◌, arith}
use Rattle.catalogue.specs.Entry.{Entry}
use Rattle.catalogue.specs.declared.Options.{Options}
use Rattle.catalogue.specs.declared.Compiled.{Compiled}
use Rattle.catalogue.proofs.OneMeaning.{meaning_one}
use Rattle.catalogue.proofs.SomeMeaning.{some_meaning}
use Rattle.mo_file.specs.MoReading.{rank}
use Rattle.mo_file.specs.declared.fault.MoFault.TheVariants as mo
use Rattle.mo_file.proofs.OneMap.{unique_map}
use Rattle.mo_file.proofs.SomeMap.{some_map}
use Rattle.live_loads.specs.Store.{StoreValue, IsWithin, Accepts, AcceptsMo, IsTextFault, IsFileFault, IsRefused}
use Rattle.live_loads.specs.Store.{IsRefusedMo}
use Rattle.live_loads.specs.LoadAnswers.{HasOneOutcome, IsAcceptedOrRefused, HasSomeAnswer, TextsHaveOneAnswer}
use Rattle.live_loads.specs.LoadAnswers.{FilesHaveOneAnswer}
use Rattle.live_loads.specs.declared.fault.StoreFault.TheVariants.{Refused, RefusedMo}
use Rattle.live_loads.proofs.Refusals.{with_load, adds_load, adds_one, reason_one, added_or_refused, is_read}
use Rattle.live_loads.proofs.BytesFaults.{text_fault_one, no_text_fault, file_fault_one, no_file_fault}

-- ---- PO texts

text_outcome : (s : StoreValue) (domain locale text : List ℕ) (options : Options)
    → HasOneOutcome (Accepts s domain locale text options)
text_outcome s domain locale text options stats other after other_after p q =
    let same : p.compiled ≡ q.compiled = meaning_one text options p.compiled q.compiled p.means q.means in (
      p.stats_are ∙ (ap (λ (c : Compiled). c.stats) same ∙ sym q.stats_are),
      adds_one s after other_after domain locale p.compiled.catalogue q.compiled.catalogue
          (ap (λ (c : Compiled). c.catalogue) same) p.adds q.adds,
    )

text_apart : (s : StoreValue) (domain locale text : List ℕ) (options : Options)
    → IsAcceptedOrRefused (Accepts s domain locale text options) (IsRefused s domain locale text options)
text_apart s domain locale text options stats after fault p why =
    added_or_refused (IsTextFault text options) (no_text_fault text options p.compiled p.means) s after domain locale
    p.compiled.catalogue fault p.adds why

text_some : (s : StoreValue) (domain locale text : List ℕ) (options : Options) → IsWithin s
    → HasSomeAnswer (Accepts s domain locale text options) (IsRefused s domain locale text options)
text_some s domain locale text options within no_outcome no_reason =
    is_read (IsTextFault text options) s domain locale within no_reason
    (λ names room. some_meaning text options
    (λ compiled means. no_outcome compiled.stats (with_load s domain locale compiled.catalogue) (record {
      compiled = compiled;
      means = means;
      stats_are = refl;
      adds = adds_load s domain locale compiled.catalogue names room;
    }))
    (λ refusal. no_reason (
      Refused (record { kind = refusal.0; line = refusal.1 }),
      ((λ is. absurd (cc is)), (names, room, refusal.2)),
    )))

pub texts_one : TextsHaveOneAnswer
texts_one s domain locale text options = record {
  outcome = text_outcome s domain locale text options;
  reason = reason_one (IsTextFault text options) (text_fault_one text options) s domain locale;
  apart = text_apart s domain locale text options;
  some = text_some s domain locale text options;
}

-- ---- MO files

file_outcome : (s : StoreValue) (domain locale bytes : List ℕ) → HasOneOutcome (AcceptsMo s domain locale bytes)
file_outcome s domain locale bytes entries other after other_after p q =
    let same : p.map ≡ q.map = unique_map bytes p.map q.map p.is_file q.is_file in (
      p.entries_are ∙ (ap (length {A = Entry}) same ∙ sym q.entries_are),
      adds_one s after other_after domain locale p.map q.map same p.adds q.adds,
    )

file_apart : (s : StoreValue) (domain locale bytes : List ℕ)
    → IsAcceptedOrRefused (AcceptsMo s domain locale bytes) (IsRefusedMo s domain locale bytes)
file_apart s domain locale bytes entries after fault p why =
    added_or_refused (IsFileFault bytes) (no_file_fault bytes p.map p.is_file) s after domain locale p.map fault p.adds
    why

file_some : (s : StoreValue) (domain locale bytes : List ℕ) → IsWithin s
    → HasSomeAnswer (AcceptsMo s domain locale bytes) (IsRefusedMo s domain locale bytes)
file_some s domain locale bytes within no_outcome no_reason =
    is_read (IsFileFault bytes) s domain locale within no_reason
    (λ names room. some_map bytes
    (λ map is_file. no_outcome (length map) (with_load s domain locale map) (record {
      map = map;
      is_file = is_file;
      entries_are = refl;
      adds = adds_load s domain locale map names room;
    }))
    (λ refusal. no_reason (
      RefusedMo refusal.0,
      (
        (λ is. absurd (cc is)),
        (names, room, ((λ (is : refusal.0 ≡ mo.Memory). omega (arith, ap rank is, refusal.1)), refusal.2)),
      ),
    )))

pub files_one : FilesHaveOneAnswer
files_one s domain locale bytes = record {
  outcome = file_outcome s domain locale bytes;
  reason = reason_one (IsFileFault bytes) (file_fault_one bytes) s domain locale;
  apart = file_apart s domain locale bytes;
  some = file_some s domain locale bytes;
}
