-- How far a pattern was read, and what its end or a fault says of the whole.
use Rattle.std.proofs.Common.{◌≡◌, ℕ, ◌+◌, ◌<◌, true, false, List, [], ◌∷◌, ◌++◌, length, Option, None, Some}
use Rattle.std.proofs.Common.{refl, sym, ap, subst, ◌∙◌, arith, inl, inr, append_assoc}
use Rattle.std.specs.Prelude.{◌⊎◌, ◌-◌, take}
use Rattle.std.proofs.lemmas.List.{append-nil}
use Rattle.std.proofs.lemmas.Grind.{flat_map-append}
use Rattle.format_arguments.specs.declared.FormatFault.{FormatFault}
use Rattle.format_arguments.specs.declared.FormatFault.TheVariants.{Invalid, Memory}
use Rattle.numbered_arguments.specs.declared.Numbered.{Numbered}
use Rattle.numbered_arguments.specs.NumberedArguments.{is_consistent}
use Rattle.java_formats.specs.declared.Sort.{Sort}
use Rattle.java_formats.specs.declared.Sort.TheVariants.{Pattern}
use Rattle.java_formats.specs.declared.reading.Text as code_text
use Rattle.java_formats.specs.declared.reading.Found.{Found}
use Rattle.java_formats.specs.JavaSteps.{Step, step, rest_texts, nested_texts, texts_behind, Leads}
use Rattle.java_formats.specs.JavaKinds.{specific_arguments, settled_kinds}
use Rattle.java_formats.specs.JavaFormat.{list_of, asked_in, HasSignature, HasFault}
use Rattle.java_formats.specs.JavaReading.{waiting_texts, weight, Reads, Blocks}
use Rattle.java_formats.proofs.LeadLemmas.{leads_on, leads_further, stuck, blocks, one_way}
use Rattle.java_formats.proofs.WeightLemmas.{weight_both, step_lighter, leads_lighter}

-- ---- one text

abbrev pub rest_len : Option (List ℕ) → ℕ
rest_len None = 0
rest_len (Some rest) = 1 + length rest

-- what is left of the text that is read, and the texts that wait
abbrev pub left : Sort → Option (List ℕ) → Found → List (Sort × List ℕ)
left sort rest found = rest_texts sort rest ++ waiting_texts found.pending.items

abbrev pub begin : Sort → List ℕ → Found → List (Sort × List ℕ)
begin sort text found = (sort, text) ∷ waiting_texts found.pending.items

-- steps lead from the text to its rest
pub record HasReadTo (sort : Sort) (text : List ℕ) (rest : Option (List ℕ)) (old found : Found) : Type 0 where
  pub steps : List Step
  pub leads : Leads (begin sort text old) steps (left sort rest found)
  pub asked : found.asked.items ≡ old.asked.items ++ asked_in steps
  pub lighter : (rest ≡ Some text) ⊎ (weight (left sort rest found) < weight (begin sort text old))

pub read_nothing : (sort : Sort) (text : List ℕ) (found : Found) → HasReadTo sort text (Some text) found found
read_nothing sort text found = record {
  steps = [];
  leads = refl;
  asked = sym (append-nil found.asked.items);
  lighter = inl refl;
}

step_weight : (sort : Sort) (text : List ℕ) (s : Step) (others : List (Sort × List ℕ)) → step sort text ≡ Some s
    → weight (texts_behind sort s ++ others) < weight ((sort, text) ∷ others)
step_weight sort text s others e =
    omega (arith, weight_both (texts_behind sort s) others, step_lighter sort text s e)

asked_more : (steps : List Step) (s : Step) → asked_in (steps ++ s ∷ []) ≡ asked_in steps ++ list_of s.asked
asked_more steps s = flat_map-append (λ (t : Step). list_of t.asked) steps (s ∷ [])
    ∙ ap (λ (more : List Numbered). asked_in steps ++ more) (append-nil (list_of s.asked))

pub reads_further : (sort : Sort) (whole text : List ℕ) (s : Step) (old found new : Found)
    → HasReadTo sort whole (Some text) old found → step sort text ≡ Some s
    → new.asked.items ≡ found.asked.items ++ list_of s.asked
    → waiting_texts new.pending.items ≡ nested_texts sort s.nested ++ waiting_texts found.pending.items
    → HasReadTo sort whole s.rest old new
reads_further sort whole text s old found new so_far e asks waits =
    let others = waiting_texts found.pending.items in
    let there : texts_behind sort s ++ others ≡ left sort s.rest new =
    append_assoc (rest_texts sort s.rest) (nested_texts sort s.nested) others
    ∙ ap (λ (texts : List (Sort × List ℕ)). rest_texts sort s.rest ++ texts) (sym waits) in
    let leads = leads_further (begin sort whole old) others sort text so_far.steps s so_far.leads e in
    record {
      steps = so_far.steps ++ s ∷ [];
      leads = subst (λ (texts : List (Sort × List ℕ)). Leads (begin sort whole old) (so_far.steps ++ s ∷ []) texts)
          there leads;
      asked = asks ∙ ap (λ (xs : List Numbered). xs ++ list_of s.asked) so_far.asked
          ∙ append_assoc old.asked.items (asked_in so_far.steps) (list_of s.asked)
          ∙ ap (λ (xs : List Numbered). old.asked.items ++ xs) (sym (asked_more so_far.steps s));
      lighter = inr (omega (
        arith,
        leads_lighter (begin sort whole old) ((sort, text) ∷ others) so_far.steps so_far.leads,
        step_weight sort text s others e,
        ap weight there,
      ));
    }

pub read_shorter : (sort : Sort) (text : List ℕ) (s : Step) → step sort text ≡ Some s
    → rest_len s.rest < 1 + length text
read_shorter sort text s e = shorter s.rest (step_weight sort text s [] e)
  where
    shorter : (rest : Option (List ℕ)) → weight ((rest_texts sort rest ++ nested_texts sort s.nested) ++ [])
        < weight ((sort, text) ∷ []) → rest_len rest < 1 + length text
    shorter None lt = omega arith
    shorter (Some rest) lt = omega (arith, lt)

pub read_to_end : (sort : Sort) (text : List ℕ) (old found : Found) → HasReadTo sort text None old found
    → Reads (begin sort text old) old found
read_to_end sort text old found h = (h.steps, h.leads, h.asked)

pub is_lighter : (sort : Sort) (text : List ℕ) (old found : Found) → HasReadTo sort text None old found
    → weight (waiting_texts found.pending.items) < weight (begin sort text old)
is_lighter sort text old found h = elim h.lighter [
  | inl e ↦ absurd (cc e)
  | inr lt ↦ lt
]

pub no_step : (sort : Sort) (whole text : List ℕ) (old found : Found) → HasReadTo sort whole (Some text) old found
    → None ≡ step sort text → (all : List Step) → Leads (begin sort whole old) all [] → ⊥
no_step sort whole text old found h none = blocks (begin sort whole old) (left sort (Some text) found) h.steps h.leads
    (λ more. stuck (waiting_texts found.pending.items) sort text more none)

-- ---- texts that wait

pub waiting_push : (texts : List code_text.Text) (text : code_text.Text)
    → waiting_texts (texts ++ text ∷ []) ≡ (text.sort, text.bytes.items) ∷ waiting_texts texts
waiting_push [] text = refl
waiting_push (first ∷ more) text =
    ap (λ (xs : List (Sort × List ℕ)). xs ++ (first.sort, first.bytes.items) ∷ []) (waiting_push more text)

-- what is popped from nothing leaves nothing
pub none_left : (texts after : List code_text.Text) (n : ℕ) → texts ≡ after ++ [] → after ≡ take (n - 1) texts → n ≡ 0
    → texts ≡ []
none_left texts after n e f none =
    e ∙ append-nil after ∙ f ∙ ap (λ (k : ℕ). take (k - 1) texts) none

-- ---- all texts

-- steps lead from the pattern to the texts that wait
pub record HasReadAll (text : List ℕ) (found : Found) : Type 0 where
  pub steps : List Step
  pub leads : Leads ((Pattern, text) ∷ []) steps (waiting_texts found.pending.items)
  pub asked : found.asked.items ≡ asked_in steps

pub read_first : (text : List ℕ) (old found : Found) → old.asked.items ≡ [] → old.pending.items ≡ []
    → Reads (begin Pattern text old) old found → HasReadAll text found
read_first text old found none no_texts (steps, leads, asks) = record {
  steps = steps;
  leads = subst (λ (texts : List code_text.Text). Leads ((Pattern, text) ∷ waiting_texts texts) steps
      (waiting_texts found.pending.items)) no_texts leads;
  asked = asks ∙ ap (λ (xs : List Numbered). xs ++ asked_in steps) none;
}

pub reads_next : (text bytes : List ℕ) (sort : Sort) (found before new : Found) → HasReadAll text found
    → waiting_texts found.pending.items ≡ begin sort bytes before → before.asked.items ≡ found.asked.items
    → Reads (begin sort bytes before) before new → HasReadAll text new
reads_next text bytes sort found before new so_far waits same (steps, leads, asks) = record {
  steps = so_far.steps ++ steps;
  leads = leads_on ((Pattern, text) ∷ []) (begin sort bytes before) (waiting_texts new.pending.items) so_far.steps steps
      (subst (λ (texts : List (Sort × List ℕ)). Leads ((Pattern, text) ∷ []) so_far.steps texts) waits so_far.leads)
      leads;
  asked = asks ∙ ap (λ (xs : List Numbered). xs ++ asked_in steps) (same ∙ so_far.asked)
      ∙ sym (flat_map-append (λ (t : Step). list_of t.asked) so_far.steps steps);
}

pub no_pattern : (text bytes : List ℕ) (sort : Sort) (found before : Found) → HasReadAll text found
    → waiting_texts found.pending.items ≡ begin sort bytes before
    → ((all : List Step) → Leads (begin sort bytes before) all [] → ⊥) → (asked : List Numbered)
    → HasSignature text asked → ⊥
no_pattern text bytes sort found before so_far waits none asked (all, whole, fits, is) =
    blocks ((Pattern, text) ∷ []) (begin sort bytes before) so_far.steps
    (subst (λ (texts : List (Sort × List ℕ)). Leads ((Pattern, text) ∷ []) so_far.steps texts) waits so_far.leads)
    none all whole

pub is_pattern : (text : List ℕ) (found : Found) (asked : List Numbered) → HasReadAll text found
    → found.pending.items ≡ [] → is_consistent (specific_arguments found.asked.items) ≡ true
    → asked ≡ settled_kinds found.asked.items → HasSignature text asked
is_pattern text found asked h none fits is = (
  h.steps,
  subst (λ (texts : List code_text.Text). Leads ((Pattern, text) ∷ []) h.steps (waiting_texts texts)) none h.leads,
  subst (λ (xs : List Numbered). is_consistent (specific_arguments xs) ≡ true) h.asked fits,
  is ∙ ap settled_kinds h.asked,
)

pub inconsistent : (text : List ℕ) (found : Found) → HasReadAll text found → found.pending.items ≡ []
    → is_consistent (specific_arguments found.asked.items) ≡ false → (asked : List Numbered) → HasSignature text asked
    → ⊥
inconsistent text found h none unfit asked (all, whole, fits, is) =
    let leads = subst (λ (texts : List code_text.Text). Leads ((Pattern, text) ∷ []) h.steps (waiting_texts texts)) none
    h.leads in
    let same : h.steps ≡ all = one_way ((Pattern, text) ∷ []) h.steps all leads whole in
    absurd (cc (
      unfit,
      fits,
      ap (λ (xs : List Numbered). is_consistent (specific_arguments xs)) h.asked,
      ap (λ (steps : List Step). is_consistent (specific_arguments (asked_in steps))) same,
    ))

pub one_list : (text : List ℕ) (asked others : List Numbered) → HasSignature text asked → HasSignature text others
    → asked ≡ others
one_list text asked others (steps, leads, fits, is) (all, whole, fit, also) =
    is ∙ ap (λ (ss : List Step). settled_kinds (asked_in ss)) (one_way ((Pattern, text) ∷ []) steps all leads whole)
    ∙ sym also

pub fault_is : (text bytes : List ℕ) (sort : Sort) (found before : Found) (fault : FormatFault)
    → HasReadAll text found → waiting_texts found.pending.items ≡ begin sort bytes before
    → Blocks (begin sort bytes before) fault → HasFault text fault
fault_is text bytes sort found before Invalid so_far waits none =
    no_pattern text bytes sort found before so_far waits none
fault_is text bytes sort found before Memory so_far waits none = tt

pub first_fault : (text : List ℕ) (found : Found) (fault : FormatFault) → found.pending.items ≡ []
    → Blocks (begin Pattern text found) fault → HasFault text fault
first_fault text found Invalid none blocked = λ asked h. blocked h.0
    (subst (λ (texts : List code_text.Text). Leads ((Pattern, text) ∷ waiting_texts texts) h.0 []) (sym none) h.1)
first_fault text found Memory none blocked = tt
