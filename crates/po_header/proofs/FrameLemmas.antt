-- The code's frames, compared with what waits.
use Rattle.po_header.proofs.Kit.{◌≡◌, ℕ, suc, ◌-◌, take, arith, true, false, List, [], ◌∷◌, ◌++◌, Some, None, refl, sym}
use Rattle.po_header.proofs.Kit.{ap, ◌∙◌, ◌==◌, ne_eqb, take_all, Node, node_tree, Tree, Negation, stack_of, Waiting}
use Rattle.po_header.proofs.Kit.{BranchWaits, with_operand, colon, close, tree_at_end, joined_operand, negated_operand}
use Rattle.std.proofs.Common.{take-suc}
use Rattle.std.specs.Prelude.{length}
use Rattle.std.specs.List.{slice_get}
use Rattle.std.proofs.lemmas.Option.{slice_get_within, slice_get-get_or, get_or_from_slice_get}
use Rattle.po_header.specs.declared.parse.Frame.{Frame}
use Rattle.po_header.specs.declared.parse.Frame.TheVariants.{Bracket, Condition}
use Rattle.po_header.specs.Frames.{frame_waits, stack_on, state_of}
use Rattle.po_header.specs.Stack.{without_operand, joins_on, join_tree, is_bang_waits}

stack_on-push : (frames : List Frame) (ws : List Waiting) (frame : Frame) → stack_on ws (frames ++ frame ∷ [])
    ≡ frame_waits frame ∷ stack_on ws frames
stack_on-push [] ws frame = refl
stack_on-push (f ∷ frames) ws frame = stack_on-push frames (frame_waits f ∷ ws) frame

pub stack_of-push : (all frames : List Frame) (frame : Frame) → all ≡ frames ++ frame ∷ [] → stack_of all
    ≡ frame_waits frame ∷ stack_of frames
stack_of-push all frames frame e = ap stack_of e ∙ stack_on-push frames [] frame

pub joined-frame : (k : ℕ) (all frames : List Frame) (frame : Frame) (t u : Tree) → all ≡ frames ++ frame ∷ []
    → joins_on k (frame_waits frame) ≡ true → u ≡ join_tree (frame_waits frame) t → joined_operand k (stack_of all) t
    ≡ joined_operand k (stack_of frames) u
joined-frame k all frames frame t u e joins is = rw (stack_of-push all frames frame e, joins, is) refl

pub joined-stays : (k : ℕ) (all frames new : List Frame) (frame : Frame) (t : Tree) → all ≡ frames ++ frame ∷ []
    → joins_on k (frame_waits frame) ≡ false → new ≡ frames ++ frame ∷ [] → joined_operand k (stack_of all) t
    ≡ (stack_of new, t)
joined-stays k all frames new frame t e stays f = rw (
  stack_of-push all frames frame e,
  stays,
  stack_of-push new frames
      frame f,
) refl

-- popping from an empty stack leaves it empty
pub none_left : (all frames : List Frame) (n : ℕ) → all ≡ frames ++ [] → frames ≡ take (n - 1) all → n ≡ 0 → (all ≡ [])
    × (frames ≡ [])
none_left all frames n e rest none =
    let nothing : n - 1 ≡ 0 = omega arith in
    let f : frames ≡ [] = rest ∙ ap (λ (k : ℕ). take k all) nothing in
    (e ∙ ap (λ (fs : List Frame). fs ++ []) f, f)

pub joined-nothing : (k : ℕ) (all frames : List Frame) (n : ℕ) (t : Tree) → all ≡ frames ++ [] → frames
    ≡ take (n - 1) all → n ≡ 0 → joined_operand k (stack_of all) t ≡ (stack_of frames, t)
joined-nothing k all frames n t e rest none = let h = none_left all frames n e rest none in rw (h.0, h.1) refl

-- ---- the last frame

last_split : (all : List Frame) (frame : Frame) → slice_get all (length all - 1) ≡ Some frame → all
    ≡ take (length all - 1) all ++ frame ∷ []
last_split all frame h =
    let k = length all - 1 in
    let low = slice_get_within all k frame h in
    sym (take_all (suc k) all (omega arith)) ∙ take-suc all k frame low
    ∙ ap (λ (f : Frame). take k all ++ f ∷ []) (get_or_from_slice_get all k frame frame h)

-- there is none
no_last : (all : List Frame) → slice_get all (length all - 1) ≡ None → all ≡ []
no_last [] h = refl
no_last (f ∷ frames) h =
    let some = slice_get-get_or (f ∷ frames) (length (f ∷ frames) - 1) f (omega arith) in absurd (cc)

-- after it is taken off
last_off : (all frames : List Frame) (n : ℕ) (frame : Frame) → Some frame ≡ slice_get all (length all - 1) → n
    ≡ length all → frames ≡ take (n - 1) all → all ≡ frames ++ frame ∷ []
last_off all frames n frame last len rest = rw (rest, len) (last_split all frame (sym last))

pub negated-nothing : (all : List Frame) (t : Tree) → None ≡ slice_get all (length all - 1)
    → negated_operand (stack_of all) t
    ≡ (stack_of all, t)
negated-nothing all t none = rw (no_last all (sym none)) refl

pub negated-frame : (all frames : List Frame) (n : ℕ) (frame : Frame) (t u : Tree)
    → Some frame ≡ slice_get all (length all - 1) → n ≡ length all → frames ≡ take (n - 1) all
    → is_bang_waits (frame_waits frame) ≡ true → u ≡ Negation t → negated_operand (stack_of all) t
    ≡ negated_operand (stack_of frames) u
negated-frame all frames n frame t u last len rest bang is =
    rw (stack_of-push all frames frame (last_off all frames n frame last len rest), bang, is) refl

pub negated-stays : (all : List Frame) (frame : Frame) (t : Tree) → Some frame ≡ slice_get all (length all - 1)
    → is_bang_waits (frame_waits frame) ≡ false → negated_operand (stack_of all) t ≡ (stack_of all, t)
negated-stays all frame t last stays = rw (stack_of-push all _ frame (last_split all frame (sym last)), stays) refl

-- ---- steps

pub wanting-push : (old new : List Frame) (frame : Frame) → new ≡ old ++ frame ∷ []
    → without_operand (frame_waits frame ∷ stack_of old) ≡ Some (state_of new None)
wanting-push old new frame e = rw (stack_of-push new old frame e) refl

-- only a condition waits for a colon
pub colon-other : (all frames : List Frame) (frame : Frame) (t : Tree) → all ≡ frames ++ frame ∷ []
    → ((c : Node) → frame ≡ Condition c → ⊥) → colon (stack_of all, t) ≡ None
colon-other all frames (Condition c) t e other = absurd (other c refl)
colon-other all frames frame t e other = rw (stack_of-push all frames frame e) refl

-- only a bracket waits for a closing bracket
close_other : (ws : List Waiting) (frame : Frame) (t : Tree) → (frame ≡ Bracket → ⊥)
    → close (frame_waits frame ∷ ws, t) ≡ None
close_other ws Bracket t other = absurd (other refl)
close_other ws _ t other = refl

pub close-other : (all : List Frame) (frame : Frame) (t : Tree) → Some frame ≡ slice_get all (length all - 1)
    → (frame ≡ Bracket → ⊥) → close (stack_of all, t) ≡ None
close-other all frame t last other =
    rw (stack_of-push all _ frame (last_split all frame (sym last))) (close_other _ frame t other)

pub close-nothing : (all : List Frame) (t : Tree) → None ≡ slice_get all (length all - 1)
    → close (stack_of all, t) ≡ None
close-nothing all t none = rw (no_last all (sym none)) refl

pub colon-nothing : (all frames : List Frame) (n : ℕ) (t : Tree) → all ≡ frames ++ [] → frames ≡ take (n - 1) all → n
    ≡ 0 → colon (stack_of all, t) ≡ None
colon-nothing all frames n t e rest none = let h = none_left all frames n e rest none in rw h.0 refl

pub colon-condition : (all frames : List Frame) (c : Node) (t : Tree) → all ≡ frames ++ Condition c ∷ []
    → colon (stack_of all, t) ≡ without_operand (BranchWaits (node_tree c) t ∷ stack_of frames)
colon-condition all frames c t e = rw (stack_of-push all frames (Condition c) e) refl

pub close-bracket : (all frames : List Frame) (n : ℕ) (frame : Frame) (t : Tree)
    → Some frame ≡ slice_get all (length all - 1) → frame ≡ Bracket → n ≡ length all → frames ≡ take (n - 1) all
    → close (stack_of all, t) ≡ with_operand (negated_operand (stack_of frames) t)
close-bracket all frames n frame t last is len rest =
    rw (stack_of-push all frames frame (last_off all frames n frame last len rest), is) refl

ended-on : (frames : List Frame) (w : Waiting) (ws : List Waiting) (t : Tree)
    → tree_at_end (stack_on (w ∷ ws) frames, t)
    ≡ None
ended-on [] w ws t = refl
ended-on (f ∷ frames) w ws t = ended-on frames (frame_waits f) (w ∷ ws) t

-- the operand is the whole expression if nothing waits
pub ended-none : (frames : List Frame) (t : Tree) → true ≡ (length frames == 0) → tree_at_end (stack_of frames, t)
    ≡ Some t
ended-none [] t e = refl
ended-none (f ∷ frames) t e = let no = ne_eqb (length (f ∷ frames)) 0 (λ h. omega arith) in absurd (cc (e, no))

-- and only then
pub ended-some : (frames : List Frame) (t : Tree) → false ≡ (length frames == 0) → tree_at_end (stack_of frames, t)
    ≡ None
ended-some [] t e = absurd (cc e)
ended-some (f ∷ frames) t e = ended-on frames (frame_waits f) [] t
