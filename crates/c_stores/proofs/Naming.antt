-- Names of text domains and locales are UTF-8.
use Rattle.std.proofs.Common.{ℕ, List}
use Rattle.std.specs.Str.{IsUtf8}
use Rattle.live_set.proofs.Ascii.{name_is_text}
use Rattle.live_loads.specs.Store.{AreNames}

pub domain_is_text : (domain locale : List ℕ) → ¬ IsUtf8 domain → ¬ AreNames domain locale
domain_is_text domain locale other names = other (name_is_text domain names.domain_is)

pub locale_is_text : (domain locale : List ℕ) → ¬ IsUtf8 locale → ¬ AreNames domain locale
locale_is_text domain locale other names = other (name_is_text locale names.locale_is)
