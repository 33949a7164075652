-- Well-formed markup (W3C, "Extensible Markup Language (XML) 1.0", sections 2.1 and 3.1; KDE, "Programmer's Guide for
-- ki18n", "KUIT Markup").
use Rattle.std.specs.Prelude.{◌≡◌, ◌⊎◌, ℕ, true, false, List, [], Some}
use Rattle.kuit_formats.specs.KuitCharacters.{are_characters}
use Rattle.kuit_formats.specs.KuitTokens as tokens
use Rattle.kuit_formats.specs.KuitTokens.{token}
use Rattle.kuit_formats.specs.KuitTags.{TagEnds}

-- ---- what content is made of: each is at the front of the text, and followed by rest

-- a byte of the text, a comment, an instruction, a section, or an empty element
abbrev pub ItemAt : List ℕ → List ℕ → Type 0
ItemAt text rest = (token text ≡ Some (tokens.Item rest))
    ⊎ ((name inner : List ℕ) × (token text ≡ Some (tokens.Start name inner)) × TagEnds [] inner true rest)

-- a start-tag of this name
abbrev pub StartAt : List ℕ → List ℕ → List ℕ → Type 0
StartAt name text rest = (inner : List ℕ) × (token text ≡ Some (tokens.Start name inner)) × TagEnds [] inner false rest

-- an end-tag of this name
abbrev pub EndAt : List ℕ → List ℕ → List ℕ → Type 0
EndAt name text rest = token text ≡ Some (tokens.End name rest)

-- ---- content

-- how content is derived: it is empty, an item and more content, or an element with its own content and more content
pub data Shape : Type 0 where
  Empty : Shape
  Item : (more : Shape) → Shape
  Element : (inner more : Shape) → Shape

-- the text is content, followed by rest; the tags of an element have one name
abbrev pub ContentAt : Shape → List ℕ → List ℕ → Type 0
ContentAt Empty text rest = text ≡ rest
ContentAt (Item more) text rest = (next : List ℕ) × ItemAt text next × ContentAt more next rest
ContentAt (Element inner more) text rest =
    (name content closing next : List ℕ) × StartAt name text content × ContentAt inner content closing
    × EndAt name closing next × ContentAt more next rest

abbrev pub IsContent : List ℕ → Type 0
IsContent text = (shape : Shape) × ContentAt shape text []

-- UTF-8 of XML's characters, and content
abbrev pub IsMarkup : List ℕ → Type 0
IsMarkup text = (are_characters text ≡ true) × IsContent text
