-- One character more.
use Rattle.std.proofs.Common.{◌≡◌, ℕ, ◌+◌, List, [], ◌∷◌, ◌++◌, drop, Some, sym, ap, subst, ◌∙◌}
use Rattle.std.specs.Prelude.{encode_utf8, encode_utf8_all}
use Rattle.std.proofs.lemmas.List.{append-nil}
use Rattle.std.proofs.lemmas.Str.{encodes-append}
use Rattle.charsets.specs.declared.kinds.Charset.{Charset}
use Rattle.charsets.specs.Decoding.{BeginsWith, front}

one_more : (charset : Charset) (bytes characters rest : List ℕ) (c size : ℕ)
    → BeginsWith charset bytes characters rest → front charset rest ≡ Some (c, size)
    → BeginsWith charset bytes (characters ++ c ∷ []) (drop size rest)
one_more charset bytes [] rest c size is at = (
  size,
  subst (λ (from : List ℕ). front charset from ≡ Some (c, size)) (sym is) at,
  ap (drop size) is,
)
one_more charset bytes (first ∷ characters) rest c size (n, here, later) at =
    (n, here, one_more charset (drop n bytes) characters rest c size later at)

-- the bytes up to an index are characters, and the text is their UTF-8
pub record IsReadTo (charset : Charset) (bytes text : List ℕ) (at : ℕ) : Type 0 where
  pub characters : List ℕ
  pub before : BeginsWith charset bytes characters (drop at bytes)
  pub spells : text ≡ encode_utf8_all characters

pub read_one : (charset : Charset) (bytes text : List ℕ) (at c size : ℕ) → IsReadTo charset bytes text at
    → front charset (drop at bytes) ≡ Some (c, size) → drop size (drop at bytes) ≡ drop (at + size) bytes
    → IsReadTo charset bytes (text ++ encode_utf8 c) (at + size)
read_one charset bytes text at c size read is more = record {
  characters = read.characters ++ c ∷ [];
  before = subst (BeginsWith charset bytes (read.characters ++ c ∷ [])) more
      (one_more charset bytes read.characters (drop at bytes) c size read.before is);
  spells = ap (λ t. t ++ encode_utf8 c) read.spells
      ∙ ap (λ t. encode_utf8_all read.characters ++ t) (sym (append-nil (encode_utf8 c)))
      ∙ sym (encodes-append read.characters (c ∷ []));
}
