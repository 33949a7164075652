-- Lists of parts, and the trees that they stand for.
use Rattle.po_header.proofs.Kit.{◌≡◌, ℕ, ◌+◌, ◌<◌, ◌≤◌, List, [], ◌∷◌, ◌++◌, take, drop, length, get_or, refl, sym, ap}
use Rattle.po_header.proofs.Kit.{◌∙◌, arith, length-append, append_assoc, Result, Ok, Err, IfOk, take-append-drop}
use Rattle.po_header.proofs.Kit.{length-take, Operator, Tree, Negation}
use Rattle.std.proofs.lemmas.List.{get_or_append_left, drop_more, get_or_past}
use Rattle.std.proofs.Math.Seq.{get_or-append_seam}
use Rattle.po_header.specs.declared.parts.Part.{Part}
use Rattle.po_header.specs.declared.parts.Part.TheVariants.{Negate, Combine, Choose}
use Rattle.po_header.specs.Grammar.{Variable, Binary, Choice}
use Rattle.po_header.specs.ExprParts.{Builds, tree_of_part, part_tree, tree_at, trees_from, trees_of}

-- ---- the trees of parts

trees_from-append : (a b : List Part) (trees : List Tree) → trees_from trees (a ++ b)
    ≡ trees_from (trees_from trees a) b
trees_from-append [] b trees = refl
trees_from-append (p ∷ a) b trees = trees_from-append a b (trees ++ (part_tree trees p ∷ []))

length-trees_from : (parts : List Part) (trees : List Tree) → length (trees_from trees parts)
    ≡ length trees + length parts
length-trees_from [] trees = omega arith
length-trees_from (p ∷ parts) trees = omega (
  arith,
  length-trees_from parts (trees ++ (part_tree trees p ∷ [])),
  length-append trees (part_tree trees p ∷ []),
)

trees_from-keeps : (parts : List Part) (trees : List Tree) (k : ℕ) → k < length trees
    → tree_at (trees_from trees parts) k ≡ tree_at trees k
trees_from-keeps [] trees k lt = refl
trees_from-keeps (p ∷ parts) trees k lt =
    trees_from-keeps parts (trees ++ (part_tree trees p ∷ [])) k
    (omega (arith, length-append trees (part_tree trees p ∷ [])))
    ∙ get_or_append_left trees (part_tree trees p ∷ []) Variable k lt

length-trees_of : (parts : List Part) → length (trees_of parts) ≡ length parts
length-trees_of parts = omega (arith, length-trees_from parts [])

-- appending parts leaves the earlier ones unchanged
built-append : (old more : List Part) (k : ℕ) → k < length old → tree_of_part (old ++ more) k ≡ tree_of_part old k
built-append old more k lt =
    ap (λ (ts : List Tree). tree_at ts k) (trees_from-append old more [])
    ∙ trees_from-keeps more (trees_of old) k (omega (arith, length-trees_of old))

-- the part that was appended last
built-last : (old : List Part) (p : Part) → tree_of_part (old ++ (p ∷ [])) (length old) ≡ part_tree (trees_of old) p
built-last old p =
    ap (λ (ts : List Tree). tree_at ts (length old)) (trees_from-append old (p ∷ []) [])
    ∙ ap (λ (k : ℕ). tree_at (trees_of old ++ (part_tree (trees_of old) p ∷ [])) k) (sym (length-trees_of old))
    ∙ get_or-append_seam (trees_of old) (part_tree (trees_of old) p) [] Variable

-- a part comes after the parts before it
cut_part : (parts : List Part) (at : ℕ) (p : Part) → at < length parts → get_or parts at p ≡ p → parts
    ≡ (take at parts ++ (p ∷ [])) ++ drop (at + 1) parts
cut_part parts at p lt e =
    sym (take-append-drop at parts) ∙ ap (λ (t : List Part). take at parts ++ t)
    (drop_more parts at p lt ∙ ap (λ (x : Part). x ∷ drop (at + 1) parts) e)
    ∙ sym (append_assoc (take at parts) (p ∷ []) (drop (at + 1) parts))

pub built-part : (parts : List Part) (at : ℕ) (p : Part) → at < length parts → get_or parts at p ≡ p
    → tree_of_part parts at
    ≡ part_tree (trees_of (take at parts)) p
built-part parts at p lt e =
    let len : length (take at parts) ≡ at = omega (arith, length-take at parts) in
    ap (λ (t : List Part). tree_of_part t at) (cut_part parts at p lt e)
    ∙ built-append (take at parts ++ (p ∷ [])) (drop (at + 1) parts) at
    (omega (arith, length-append (take at parts) (p ∷ [])))
    ∙ ap (λ (k : ℕ). tree_of_part (take at parts ++ (p ∷ [])) k) (sym len)
    ∙ built-last (take at parts) p

-- past the last part, the tree is the variable
pub built-past : (parts : List Part) (k : ℕ) → length parts ≤ k → tree_of_part parts k ≡ Variable
built-past parts k le = get_or_past (trees_of parts) k Variable (omega (arith, length-trees_of parts))

-- ---- what was added

pub Builds-part : (old new : List Part) (p : Part) (i : ℕ) → i ≡ length old → new ≡ old ++ p ∷ []
    → Builds old new i (part_tree (trees_of old) p)
Builds-part old new p i e f = record {
  more = p ∷ [];
  grown = f;
  there = omega (arith, ap length f, length-append old (p ∷ []));
  is = ap (λ (t : List Part). tree_of_part t i) f ∙ ap (λ (k : ℕ). tree_of_part (old ++ (p ∷ [])) k) e
      ∙ built-last old p;
}

-- earlier parts stand for the trees that they stood for before
Builds-keeps : (old new : List Part) (i : ℕ) (t : Tree) (k : ℕ) → Builds old new i t → k < length old
    → tree_of_part new k
    ≡ tree_of_part old k
Builds-keeps old new i t k h lt = ap (λ (ps : List Part). tree_of_part ps k) h.grown ∙ built-append old h.more k lt

Builds-longer : (old new : List Part) (i : ℕ) (t : Tree) (k : ℕ) → Builds old new i t → k < length old → k < length new
Builds-longer old new i t k h lt = omega (arith, ap length h.grown, length-append old h.more)

Builds-both : (old mid new : List Part) (i j : ℕ) (s t u : Tree) → Builds old mid i s → Builds mid new j t → t ≡ u
    → Builds old new j u
Builds-both old mid new i j s t u h k same = record {
  more = h.more ++ k.more;
  grown = k.grown ∙ ap (λ (ps : List Part). ps ++ k.more) h.grown ∙ append_assoc old h.more k.more;
  there = k.there;
  is = k.is ∙ same;
}

pub IfOk-map : {A E : Type 0} {P Q : A → Type 0} (r : Result A E) → ((x : A) → P x → Q x) → IfOk r P → IfOk r Q
IfOk-map (Ok x) f h = f x h
IfOk-map (Err e) f h = tt

pub builds_negation : (old mid new : List Part) (i j : ℕ) (operand whole : Tree) → Builds old mid i operand
    → Builds mid new j (part_tree (trees_of mid) (Negate i)) → Negation operand ≡ whole → Builds old new j whole
builds_negation old mid new i j operand whole h k same = Builds-both old mid new i j operand _ whole h k
    (ap Negation h.is ∙ same)

pub builds_binary : (old first second new : List Part) (operator : Operator) (i j k : ℕ) (left right whole : Tree)
    → Builds old first i left → Builds first second j right → Builds second new k
    (part_tree (trees_of second) (Combine operator i j)) → Binary operator left right ≡ whole → Builds old new k whole
builds_binary old first second new operator i j k left right whole h l m same =
    Builds-both old second new j k right _ whole (Builds-both old first second i j left right right h l refl) m
    (ap (λ (t : Tree). Binary operator t (tree_of_part second j)) (Builds-keeps first second j right i l h.there ∙ h.is)
    ∙ ap (λ (t : Tree). Binary operator left t) l.is ∙ same)

pub builds_choice : (old first second third new : List Part) (i j k l : ℕ) (condition chosen other whole : Tree)
    → Builds old first i condition → Builds first second j chosen → Builds second third k other
    → Builds third new l (part_tree (trees_of third) (Choose i j k)) → Choice condition chosen other ≡ whole
    → Builds old new l whole
builds_choice old first second third new i j k l condition chosen other whole a b c d same =
    let two : Builds old second j chosen = Builds-both old first second i j condition chosen chosen a b refl in
    let i_is : tree_of_part third i ≡ condition = Builds-keeps second third k other i c
    (Builds-longer first second j chosen i b a.there) ∙ Builds-keeps first second j chosen i b a.there ∙ a.is in
    let j_is : tree_of_part third j ≡ chosen = Builds-keeps second third k other j c b.there ∙ b.is in
    Builds-both old third new k l other _ whole (Builds-both old second third j k chosen other other two c refl) d
    (ap (λ (t : Tree). Choice t (tree_of_part third j) (tree_of_part third k)) i_is
    ∙ ap (λ (t : Tree). Choice condition t (tree_of_part third k)) j_is
    ∙ ap (λ (t : Tree). Choice condition chosen t) c.is
    ∙ same)
