-- Where a form was begun, and which tokens may be added.
use Rattle.po_text.proofs.Kit.{◌≡◌, ◌≢◌, ℕ, ◌+◌, Bool, true, false, List, [], ◌∷◌, ◌++◌, length, Option, Some, None}
use Rattle.po_text.proofs.Kit.{refl, subst, inl, inr, if◌then◌else◌, ◌==◌, ◌⊎◌, Contains, Token, Context, Id, Plural}
use Rattle.po_text.proofs.Kit.{Str, Number, Open, Close, Text, token_view, Stage, ContextWord, ContextText, IdWord}
use Rattle.po_text.proofs.Kit.{IdText, FormWord, FormText, PluralWord, PluralText, IndexOpen, IndexNumber, IndexClose}
use Rattle.po_text.proofs.Kit.{IndexedWord, IndexedText, key_text, stage_view, Draft, put_text, opens, opens_id}
use Rattle.po_text.specs.declared.stages.Stage as code
use Rattle.po_text.specs.declared.stages.Stage.TheVariants as stages
use Rattle.po_text.specs.declared.lexer.Token as code_token
use Rattle.po_text.specs.declared.lexer.Token.TheVariants as kinds
use Rattle.po_text.specs.Lexing.{IsLawfulToken}
use Rattle.po_text.specs.Stages.{step}
use Rattle.po_text.specs.Building.{put}
use Rattle.po_text.specs.Buffers.{HasForm, CanAddText, CanAdd}
use Rattle.po_text.specs.Parsing.{is_opening}
use Rattle.po_text.proofs.Completes.{four_from}
use Rattle.po_text.proofs.Faults.{key_to}
use Rattle.po_text.proofs.Taking.{opens_to}

-- ---- what may be added

key_free : (bytes : List ℕ) (p q : Stage) → key_text bytes p ≡ Some q → ¬ Contains bytes 4
key_free bytes p q e m = let four = four_from bytes m in let none : key_text bytes p
    ≡ None = rw four refl in absurd (cc (e, none))

text_can : (p : code.Stage) (n k : ℕ) (bytes : List ℕ) (q : Stage) (d : Draft) → step (stage_view p n) (Text bytes)
    ≡ Some q → HasForm (stage_view p n) d → CanAddText (stage_view p k) bytes d
unfolding step
text_can stages.ContextWord n k bytes q d e h = key_free bytes ContextText q e
text_can stages.ContextText n k bytes q d e h = key_free bytes ContextText q e
text_can stages.IdWord n k bytes q d e h = key_free bytes IdText q e
text_can stages.IdText n k bytes q d e h = key_free bytes IdText q e
text_can _ n k bytes q d e h = first_of (assumption h, cc e, search)

-- a token that is allowed here may be added
pub can_add : (p : code.Stage) (n k : ℕ) (t : code_token.Token) (bytes : List ℕ) (q : Stage) (d : Draft)
    → step (stage_view p n) (token_view t bytes) ≡ Some q → IsLawfulToken (token_view t bytes)
    → HasForm (stage_view p n) d → CanAdd (token_view t bytes) (stage_view p k) d
can_add p n k kinds.Text bytes q d e l h = (l, text_can p n k bytes q d e h)
can_add p n k _ bytes q d e l h = tt

-- ---- a form stays begun

form_to : (d : Draft) (r q : Stage) → Some r ≡ Some q → HasForm r d → HasForm q d
form_to d r q e h = let same : r ≡ q = cc e in subst (λ (x : Stage). HasForm x d) same h

snoc_some : (xs : List ℕ) (x : ℕ) → xs ++ (x ∷ []) ≢ []
snoc_some [] x e = absurd (cc e)
snoc_some (y ∷ xs) x e = absurd (cc e)

id_form : (line : ℕ) (p q : Stage) (d : Draft) → step p Id ≡ Some q → opens_id p ≡ None → HasForm q (put Id line p d)
unfolding step
id_form line ContextText q d e o = form_to d IdWord q e tt
id_form line p q d e o = absurd (cc o)

plural_form : (line : ℕ) (p q : Stage) (d : Draft) → step p Plural ≡ Some q → HasForm q (put Plural line p d)
unfolding step
plural_form line IdText q d e = form_to (put Plural line IdText d) PluralWord q e tt
plural_form line p q d e = absurd (cc e)

str_form : (line : ℕ) (p q : Stage) (d : Draft) → step p Str ≡ Some q → HasForm q (put Str line p d)
unfolding step
str_form line IdText q d e = form_to (put Str line IdText d) FormWord q e (snoc_some d.starts (length d.flat))
str_form line PluralText q d e = form_to (put Str line PluralText d) (IndexOpen 0) q e
    (snoc_some d.starts (length d.flat))
str_form line (IndexedText k) q d e = form_to (put Str line (IndexedText k) d) (IndexOpen (k + 1)) q e
    (snoc_some d.starts (length d.flat))
str_form line p q d e = absurd (cc e)

chosen : (b : Bool) (r q : Stage) → (if b then Some r else None) ≡ Some q → Some r ≡ Some q
chosen true r q e = e
chosen false r q e = absurd (cc e)

number_form : (n : ℕ) (p q : Stage) (d : Draft) → step p (Number n) ≡ Some q → HasForm p d
    → HasForm q d
unfolding step
number_form n (IndexNumber k) q d e h = form_to d (IndexClose k) q (chosen (n == k) (IndexClose k) q e) h
number_form n p q d e h = absurd (cc e)

open_form : (p q : Stage) (d : Draft) → step p Open ≡ Some q → HasForm p d → HasForm q d
unfolding step
open_form (IndexOpen k) q d e h = form_to d (IndexNumber k) q e h
open_form p q d e h = absurd (cc e)

close_form : (p q : Stage) (d : Draft) → step p Close ≡ Some q → HasForm p d → HasForm q d
unfolding step
close_form (IndexClose k) q d e h = form_to d (IndexedWord k) q e h
close_form p q d e h = absurd (cc e)

key_form : (bytes : List ℕ) (r q : Stage) (d : Draft) → key_text bytes r ≡ Some q → HasForm r d → HasForm q d
key_form bytes r q d e h = subst (λ (x : Stage). HasForm x d) (key_to bytes r q e) h

text_form : (bytes : List ℕ) (p q : Stage) (d : Draft) → step p (Text bytes) ≡ Some q → HasForm p d
    → HasForm q (put_text p bytes d)
unfolding step
text_form bytes ContextWord q d e h = key_form bytes ContextText q (put_text ContextWord bytes d) e tt
text_form bytes ContextText q d e h = key_form bytes ContextText q (put_text ContextText bytes d) e tt
text_form bytes IdWord q d e h = key_form bytes IdText q (put_text IdWord bytes d) e tt
text_form bytes IdText q d e h = key_form bytes IdText q (put_text IdText bytes d) e tt
text_form bytes PluralWord q d e h = form_to (put_text PluralWord bytes d) PluralText q e tt
text_form bytes PluralText q d e h = form_to (put_text PluralText bytes d) PluralText q e tt
text_form bytes FormWord q d e h = form_to (put_text FormWord bytes d) FormText q e h
text_form bytes FormText q d e h = form_to (put_text FormText bytes d) FormText q e h
text_form bytes (IndexedWord k) q d e h = form_to (put_text (IndexedWord k) bytes d) (IndexedText k) q e h
text_form bytes (IndexedText k) q d e h = form_to (put_text (IndexedText k) bytes d) (IndexedText k) q e h
text_form bytes p q d e h = absurd (cc e)

-- a token that opens no entry leads to a stage where a form was begun, if it should be
pub put_form : (line : ℕ) (p : Stage) (t : Token) (q : Stage) (d : Draft) → step p t ≡ Some q → opens t p ≡ None
    → HasForm p d → HasForm q (put t line p d)
put_form line p Context q d e o h = absurd (cc o)
put_form line p Id q d e o h = id_form line p q d e o
put_form line p Plural q d e o h = plural_form line p q d e
put_form line p Str q d e o h = str_form line p q d e
put_form line p (Number n) q d e o h = number_form n p q d e h
put_form line p Open q d e o h = open_form p q d e h
put_form line p Close q d e o h = close_form p q d e h
put_form line p (Text bytes) q d e o h = text_form bytes p q d e h

-- ---- where an entry opens

opening_at : (q : code.Stage) (n : ℕ) → (stage_view q n ≡ ContextWord) ⊎ (stage_view q n ≡ IdWord) → is_opening q ≡ true
opening_at stages.ContextWord n e = refl
opening_at stages.IdWord n e = refl
opening_at stages.Start n e = refl
opening_at _ n e = elim e [ inl c ↦ absurd (cc c) | inr i ↦ absurd (cc i) ]

-- a token that opens an entry leads to its keyword
pub opens_opening : (p : Stage) (t : Token) (q : code.Stage) (n : ℕ) (c : Option (List ℕ)) → step p t
    ≡ Some (stage_view q n) → opens t p ≡ Some c → is_opening q ≡ true
opens_opening p t q n c e f = elim (opens_to p t (stage_view q n) c e f).1
    [ inl h ↦ opening_at q n (inl h.0) | inr h ↦ opening_at q n (inr h.0) ]

-- there no form needs to be
pub opening_form : (q : code.Stage) (n : ℕ) (d : Draft) → is_opening q ≡ true → HasForm (stage_view q n) d
opening_form stages.Start n d e = tt
opening_form _ n d e = first_of (cc e, search)
