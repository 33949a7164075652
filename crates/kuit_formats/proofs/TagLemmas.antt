-- How far a start-tag was read, and what its end or a fault says of the whole.
use Rattle.std.proofs.Common.{◌≡◌, ℕ, ◌≤◌, ◌<◌, Bool, true, false, List, [], ◌∷◌, length, None, Some}
use Rattle.std.proofs.Common.{refl, sym, ap, ◌∙◌, arith}
use Rattle.std.specs.Prelude.{◌||◌, not}
use Rattle.std.specs.Str.{bytes_eq}
use Rattle.kuit_formats.specs.declared.names.Names.{Names}
use Rattle.kuit_formats.specs.KuitTags.{Attribute, End, part, is_among, TagEnds}
use Rattle.kuit_formats.specs.KuitReading.{knows, IsSetOf, Adds, EndsAt}

-- attributes lead from the tag to its rest; their names are known
pub record HasReadTo (text : List ℕ) (known : Names) (rest : List ℕ) : Type 0 where
  pub before : List (List ℕ)
  pub set : IsSetOf known before
  pub ends : (empty : Bool) (after : List ℕ) → TagEnds before rest empty after → TagEnds [] text empty after
  pub only : (empty : Bool) (after : List ℕ) → TagEnds [] text empty after → TagEnds before rest empty after
  pub within : length rest ≤ length text

pub read_nothing : (text : List ℕ) (known : Names) → IsSetOf known [] → HasReadTo text known text
read_nothing text known is = record {
  before = [];
  set = is;
  ends = λ empty after h. h;
  only = λ empty after h. h;
  within = omega arith;
}

-- what follows an attribute of a new name
on : (before : List (List ℕ)) (text name more : List ℕ) (empty : Bool) (after : List ℕ)
    → part text ≡ Some (Attribute name more) → is_among before name ≡ false
    → TagEnds (name ∷ before) more empty after → TagEnds before text empty after
on before text name more empty after e new h = (name ∷ h.0, (more, e, new, h.1))

off : (before : List (List ℕ)) (text name more : List ℕ) (empty : Bool) (after : List ℕ)
    → part text ≡ Some (Attribute name more) → TagEnds before text empty after
    → (is_among before name ≡ false) × TagEnds (name ∷ before) more empty after
off before text name more empty after e ([], h) = absurd (cc (e, h))
off before text name more empty after e (first ∷ names, (next, f, new, h)) =
    let same : Some (Attribute name more) ≡ Some (Attribute first next) = sym e ∙ f in
    let one : name ≡ first = cc same in
    let other : more ≡ next = cc same in
    rw (one, other) (new, (names, h))

pub reads_further : (text rest name more : List ℕ) (old new : Names) → HasReadTo text old rest
    → Some (Attribute name more) ≡ part rest → length more < length rest → knows old name ≡ false → Adds old new name
    → HasReadTo text new more
reads_further text rest name more old new h e shorter unknown adds = record {
  before = name ∷ h.before;
  set = λ other. adds other ∙ ap (λ (b : Bool). bytes_eq name other || b) (h.set other);
  ends = λ empty after g. h.ends empty after
      (on h.before rest name more empty after (sym e) (sym (h.set name) ∙ unknown) g);
  only = λ empty after g. (off h.before rest name more empty after (sym e) (h.only empty after g)).1;
  within = omega (arith, h.within, shorter);
}

-- an attribute of a name that came before
pub name_again : (text rest name more : List ℕ) (known : Names) → HasReadTo text known rest
    → Some (Attribute name more) ≡ part rest → knows known name ≡ true → (empty : Bool) (after : List ℕ)
    → TagEnds [] text empty after → ⊥
name_again text rest name more known h e again empty after g =
    absurd (cc (h.set name, again, (off h.before rest name more empty after (sym e) (h.only empty after g)).0))

none_here : (before : List (List ℕ)) (text : List ℕ) (empty : Bool) (after : List ℕ) → None ≡ part text
    → TagEnds before text empty after → ⊥
none_here before text empty after e ([], h) = absurd (cc (e, h))
none_here before text empty after e (name ∷ names, (next, f, new, h)) = absurd (cc (e, f))

pub no_part : (text rest : List ℕ) (known : Names) → HasReadTo text known rest → None ≡ part rest → (empty : Bool)
    (after : List ℕ) → TagEnds [] text empty after → ⊥
no_part text rest known h e empty after g = none_here h.before rest empty after e (h.only empty after g)

end_here : (before : List (List ℕ)) (text : List ℕ) (empty : Bool) (after : List ℕ) (other : Bool) (others : List ℕ)
    → part text ≡ Some (End empty after) → TagEnds before text other others → (other ≡ empty) × (others ≡ after)
end_here before text empty after other others e ([], h) =
    let same : Some (End empty after) ≡ Some (End other others) = sym e ∙ h in (cc same, cc same)
end_here before text empty after other others e (name ∷ names, (next, f, new, h)) = absurd (cc (e, f))

pub tag_ends : (text rest : List ℕ) (known : Names) (empty : Bool) (after : List ℕ) → HasReadTo text known rest
    → Some (End empty after) ≡ part rest → EndsAt text empty after
tag_ends text rest known empty after h e = record {
  there = h.ends empty after ([], sym e);
  only = λ other others g. end_here h.before rest empty after other others (sym e) (h.only other others g);
}

pub unknown : (is_new known : Bool) → is_new ≡ not known → is_new ≡ true → known ≡ false
unknown is_new true e f = absurd (cc (e, f))
unknown is_new false e f = refl

pub is_known : (is_new known : Bool) → is_new ≡ not known → is_new ≡ false → known ≡ true
is_known is_new true e f = refl
is_known is_new false e f = absurd (cc (e, f))
