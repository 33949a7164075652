-- Private: how far markup was read.
use Rattle.std.specs.Prelude.{◌≡◌, ◌⊎◌, ℕ, Bool, true, false, ◌||◌, List, [], ◌∷◌, ◌++◌, Option, None, Some, is_some}
use Rattle.std.specs.BTreeMap.{get_by}
use Rattle.std.specs.Cmp.Lexicographic.{slice_cmp}
use Rattle.std.specs.Ordering.{nat_cmp}
use Rattle.std.specs.Str.{bytes_eq}
use denote.Ref.{Bor}
use Rattle.kuit_formats.specs.declared.names.Names.{Names}
use Rattle.kuit_formats.specs.declared.attributes.Part as code_part
use Rattle.kuit_formats.specs.declared.attributes.Part.TheVariants as parts
use Rattle.kuit_formats.specs.declared.tokens.Token as code_token
use Rattle.kuit_formats.specs.declared.tokens.Token.TheVariants as tokens
use Rattle.kuit_formats.specs.KuitTags as tags
use Rattle.kuit_formats.specs.KuitTags.{Part, TagEnds, is_among}
use Rattle.kuit_formats.specs.KuitTokens as spec_tokens
use Rattle.kuit_formats.specs.KuitTokens.{Token}
use Rattle.kuit_formats.specs.KuitMarkup.{ContentAt, EndAt, IsContent, Shape}

-- ---- names

abbrev pub knows : Names → List ℕ → Bool
knows names name = is_some (get_by (λ k. slice_cmp nat_cmp name k.now) names.known)

abbrev pub IsSetOf : Names → List (List ℕ) → Type 0
IsSetOf names list = (name : List ℕ) → knows names name ≡ is_among list name

abbrev pub Adds : Names → Names → List ℕ → Type 0
Adds old new name = (other : List ℕ) → knows new other ≡ (bytes_eq name other || knows old other)

-- ---- what the code read

abbrev pub part_view : code_part.Part → Part
part_view (parts.Attribute name rest) = tags.Attribute name.now rest.now
part_view (parts.End empty rest) = tags.End empty rest.now

abbrev pub part_rest : code_part.Part → List ℕ
part_rest (parts.Attribute name rest) = rest.now
part_rest (parts.End empty rest) = rest.now

abbrev pub token_view : code_token.Token → Token
token_view (tokens.Item rest) = spec_tokens.Item rest.now
token_view (tokens.Start name rest) = spec_tokens.Start name.now rest.now
token_view (tokens.End name rest) = spec_tokens.End name.now rest.now

abbrev pub token_rest : code_token.Token → List ℕ
token_rest (tokens.Item rest) = rest.now
token_rest (tokens.Start name rest) = rest.now
token_rest (tokens.End name rest) = rest.now

-- ---- tags

-- the tag ends there, and nowhere else
pub record EndsAt (text : List ℕ) (empty : Bool) (rest : List ℕ) : Type 0 where
  pub there : TagEnds [] text empty rest
  pub only : (other : Bool) (others : List ℕ) → TagEnds [] text other others → (other ≡ empty) × (others ≡ rest)

-- ---- open elements

-- their names, the one that was opened last first
abbrev pub waiting_names : List (Bor (List ℕ)) → List (List ℕ)
waiting_names [] = []
waiting_names (name ∷ more) = waiting_names more ++ name.now ∷ []

-- the text is what is left of the content of the elements with these names, the innermost first, and their end-tags
abbrev pub Closes : List (List ℕ) → List ℕ → Type 0
Closes [] text = IsContent text
Closes (name ∷ names) text =
    (shape : Shape) × (closing next : List ℕ) × ContentAt shape text closing × EndAt name closing next
    × Closes names next

-- from after its name, the tag was read, and its element is open now, unless it is empty; or it is no such tag
abbrev pub Opens : List ℕ → List ℕ → List (List ℕ) → List (List ℕ) → Option (Bor (List ℕ)) → Type 0
Opens name text old new None = (empty : Bool) (rest : List ℕ) → ¬ TagEnds [] text empty rest
Opens name text old new (Some rest) =
    (EndsAt text true rest.now × (new ≡ old)) ⊎ (EndsAt text false rest.now × (new ≡ name ∷ old))
