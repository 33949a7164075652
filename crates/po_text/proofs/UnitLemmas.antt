-- Units of a string, one after another.
use Rattle.po_text.proofs.Kit.{◌≡◌, ℕ, zero, suc, ◌<◌, ◌≤◌, true, false, List, [], ◌∷◌, ◌++◌, length, get_or, take}
use Rattle.po_text.proofs.Kit.{drop, refl, sym, ap, ◌∙◌, arith, append_assoc, one-add, inl, inr}
use Rattle.po_text.proofs.Kit.{cases_eq, ne_eqb, StringUnit, Plain, UnitAt, UnitsAt, unit_value, is_plain, Octal}
use Rattle.po_text.proofs.Kit.{is_octal, octal_value, IsOpenEnd, PoKind, prefix_len, prefix_len-le-length, map-append}
use Rattle.std.proofs.Common.{min}
use Rattle.po_text.specs.Spelling.{octal_run}
use Rattle.po_text.specs.Lexing.{TakesUnits, ReadsUnit, StopsBadly, UnitsFail}
use Rattle.po_text.proofs.Chains.{Chain-append}
use Rattle.std.proofs.lemmas.List.{length-take, take-take, take_min}

pub UnitsAt-nil : (text : List ℕ) → UnitsAt [] text text
UnitsAt-nil text = record { units = []; each = refl; values_are = refl }

pub UnitsAt-cons : (u : StringUnit) (values s m t : List ℕ) → UnitAt u s m → UnitsAt values m t
    → UnitsAt (unit_value u ∷ values) s t
UnitsAt-cons u values s m t one more = record {
  units = u ∷ more.units;
  each = (m, one, more.each);
  values_are = ap
      (λ (vs : List ℕ). unit_value u ∷ vs) more.values_are;
}

pub UnitsAt-append : (a b s m t : List ℕ) → UnitsAt a s m → UnitsAt b m t → UnitsAt (a ++ b) s t
UnitsAt-append a b s m t p q = record {
  units = p.units ++ q.units;
  each = Chain-append UnitAt p.units q.units s m t p.each q.each;
  values_are = rw (p.values_are, q.values_are) (sym (map-append unit_value p.units q.units));
}

-- plain bytes are their own units
pub plain_units : (k : ℕ) (text : List ℕ) → k ≤ length text → ((i : ℕ) → i < k → is_plain (get_or text i 0) ≡ true)
    → UnitsAt (take k text) text (drop k text)
plain_units zero text le plain = UnitsAt-nil text
plain_units (suc k) [] le plain = absurd (omega arith)
plain_units (suc k) (b ∷ text) le plain =
    UnitsAt-cons (Plain b) (take k text) (b ∷ text) text (drop k text) (refl, plain 0 (omega arith))
    (plain_units k text (omega arith) (λ i lt. plain (suc i) (omega arith)))

-- ---- octal digits

-- the digits that a loop found in the first three bytes
pub octal_take : (text : List ℕ) (n : ℕ) → n ≡ prefix_len is_octal (take 3 text) → take n text ≡ octal_run text
unfolding octal_run
octal_take text n e =
    let few : n ≤ 3 = omega (arith, e, prefix_len-le-length is_octal (take 3 text), length-take 3 text) in
    rw (← e) (sym (take-take n 3 text few))

pub octal_few : (text : List ℕ) (n : ℕ) → n ≡ prefix_len is_octal (take 3 text) → n ≤ length text
octal_few text n e = omega (arith, e, prefix_len-le-length is_octal (take 3 text), length-take 3 text)

pub octal_some : (b : ℕ) (more : List ℕ) → is_octal b ≡ true → 0 < length (octal_run (b ∷ more))
unfolding octal_run
octal_some b more e = rw (e, one-add) (omega arith)

pub octal_unit : (digits rest text : List ℕ) → text ≡ digits ++ rest → digits ≡ octal_run text
    → 0 < length (octal_run text) → octal_value digits ≤ 255 → UnitAt (Octal digits) (92 ∷ text) rest
octal_unit digits rest text split is some small = (
  ap (λ (t : List ℕ). 92 ∷ t) split,
  rw (← split) (sym is),
  (λ none. let e : length (octal_run text) ≡ 0 = rw (← is, none) refl in absurd (omega arith)),
  small,
)

-- ---- what a loop has taken

pub TakesUnits-append : (a b c s m t : List ℕ) → TakesUnits a b s m → TakesUnits b c m t → TakesUnits a c s t
TakesUnits-append a b c s m t p q = record {
  values = p.values ++ q.values;
  units = UnitsAt-append p.values q.values s m t p.units q.units;
  grown = rw (q.grown, p.grown) (append_assoc a p.values q.values);
}

pub TakesUnits-run : (out run s t : List ℕ) → UnitsAt run s t → TakesUnits out (out ++ run) s t
TakesUnits-run out run s t p = record { values = run; units = p; grown = refl }

pub TakesUnits-unit : (out s t : List ℕ) (value : ℕ) → ReadsUnit s value t → TakesUnits out (out ++ value ∷ []) s t
TakesUnits-unit out s t value (u, at, is) = TakesUnits-run out (value ∷ []) s t
    (rw (← is) (UnitsAt-cons u [] s t t at (UnitsAt-nil t)))

pub goes_run : (a b new run s m t : List ℕ) → TakesUnits a b s m → UnitsAt run m t → new ≡ b ++ run
    → TakesUnits a new s t
goes_run a b new run s m t p q e = rw e (TakesUnits-append a b (b ++ run) s m t p (TakesUnits-run b run m t q))

pub goes_unit : (a b new s m t : List ℕ) (value : ℕ) → TakesUnits a b s m → ReadsUnit m value t → new ≡ b ++ value ∷ []
    → TakesUnits a new s t
goes_unit a b new s m t value p q e = rw e (TakesUnits-append a b (b ++ value ∷ []) s m t p
    (TakesUnits-unit b m t value q))

pub fails_there : (kind : PoKind) (a b s m : List ℕ) → TakesUnits a b s m → StopsBadly kind m → UnitsFail kind s
fails_there kind a b s m p bad = (p.values, m, p.units, bad)

-- what is left of text after k plain bytes
pub cut_plain : (text front back : List ℕ) (k : ℕ) → front ≡ take k text → back ≡ drop k text → k ≤ length text
    → ((i : ℕ) → i < k → is_plain (get_or text i 0) ≡ true) → UnitsAt front text back
cut_plain text front back k e f le plain = rw (e, f) (plain_units k text le plain)

pub octal_window : (text : List ℕ) (n k : ℕ) → k ≡ min (length text) 3 → n ≡ prefix_len is_octal (take k text) → n
    ≡ prefix_len is_octal (take 3 text)
octal_window text n k e f =
    let m : k ≡ min 3 (length text) = omega arith in
    f ∙ rw (m, take_min) refl

-- a byte that isn't plain and is neither a quote nor a backslash is LF
pub is_line_end : (b : ℕ) → is_plain b ≡ false → (b ≡ 34 → ⊥) → (b ≡ 92 → ⊥) → b ≡ 10
is_line_end b stops no_quote no_slash = elim (cases_eq b 10) [
  | inl e ↦ e
  | inr no_end ↦ let t : is_plain b ≡ true = rw (ne_eqb b 34 no_quote, ne_eqb b 92 no_slash, ne_eqb b 10 no_end) refl in
      absurd (cc (stops, t))
]

pub is_plain_byte : (b : ℕ) → (b ≡ 34 → ⊥) → (b ≡ 92 → ⊥) → (b ≡ 10 → ⊥) → is_plain b ≡ true
is_plain_byte b no_quote no_slash no_end = rw (ne_eqb b 34 no_quote, ne_eqb b 92 no_slash, ne_eqb b 10 no_end) refl

pub open_at_line_end : (b : ℕ) (more : List ℕ) → b ≡ 10 → IsOpenEnd (b ∷ more)
open_at_line_end b [] e = inl e
open_at_line_end b (c ∷ more) e = inl e

-- ---- units after a run

pub ok_behind : (old run out text after rest : List ℕ) → old ≡ run → UnitsAt run text after
    → TakesUnits old out after rest → UnitsAt out text rest
ok_behind old run out text after rest same front h = rw (h.grown, same)
    (UnitsAt-append run h.values text after rest front h.units)

pub err_behind : (kind : PoKind) (run text after : List ℕ) → UnitsAt run text after → UnitsFail kind after
    → UnitsFail kind text
err_behind kind run text after front (values, stop, units, bad) = (
  run ++ values,
  stop,
  UnitsAt-append run values text after stop front units,
  bad,
)
