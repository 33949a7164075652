-- Characters and names (W3C, "Extensible Markup Language (XML) 1.0", sections 2.2 and 2.3).
use Rattle.std.specs.Prelude.{ℕ, Bool, false, ◌&&◌, ◌||◌, ◌==◌, nat_le, List, [], ◌∷◌}
use Rattle.std.specs.List.{list_all}
use Rattle.std.specs.Str.{chars, is_utf8}
use Rattle.kuit_formats.specs.declared.characters.Place.{Place}
use Rattle.kuit_formats.specs.declared.characters.Place.TheVariants.{Text, Name}

abbrev pub in_range : ℕ → ℕ → ℕ → Bool
in_range c low high = nat_le low c && nat_le c high

-- Char, section 2.2
abbrev pub is_character : ℕ → Bool
is_character c = c == 0x9 || c == 0xA || c == 0xD || in_range c 0x20 0xD7FF || in_range c 0xE000 0xFFFD
    || in_range c 0x1_0000 0x10_FFFF

abbrev pub is_wide_name_start : ℕ → Bool
is_wide_name_start c = in_range c 0xC0 0xD6 || in_range c 0xD8 0xF6 || in_range c 0xF8 0x2FF
    || in_range c 0x370 0x37D || in_range c 0x37F 0x1FFF || in_range c 0x200C 0x200D || in_range c 0x2070 0x218F
    || in_range c 0x2C00 0x2FEF || in_range c 0x3001 0xD7FF || in_range c 0xF900 0xFDCF || in_range c 0xFDF0 0xFFFD
    || in_range c 0x1_0000 0xE_FFFF

-- NameStartChar, section 2.3: `:`, `_`, letters, and those above
abbrev pub is_name_start : ℕ → Bool
is_name_start c = c == 0x3A || c == 0x5F || in_range c 0x41 0x5A || in_range c 0x61 0x7A || is_wide_name_start c

-- NameChar, section 2.3: also `-`, `.`, digits, and marks
abbrev pub is_name_character : ℕ → Bool
is_name_character c = is_name_start c || c == 0x2D || c == 0x2E || in_range c 0x30 0x39 || c == 0xB7
    || in_range c 0x300 0x36F || in_range c 0x203F 0x2040

abbrev pub may_be_at : Place → ℕ → Bool
may_be_at Text c = is_character c
may_be_at Name c = is_name_character c

abbrev pub begins_name : List ℕ → Bool
begins_name [] = false
begins_name (c ∷ more) = is_name_start c

-- Name, section 2.3
abbrev pub is_name : List ℕ → Bool
is_name bytes = is_utf8 bytes && (begins_name (chars bytes) && list_all (may_be_at Name) (chars bytes))

-- UTF-8, of characters that a text may have
abbrev pub are_characters : List ℕ → Bool
are_characters bytes = is_utf8 bytes && list_all (may_be_at Text) (chars bytes)
