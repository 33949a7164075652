-- What comes from a reader while the end of a line is looked for.
use Rattle.std.specs.Prelude.{◌≡◌, ℕ, true, List, ◌++◌, Option, Result, Ok, Err}
use Rattle.std.specs.Io.KnownBytes.{Consumes, IsAtEnd}
use Rattle.devices.specs.Incoming.{Incoming}
use Rattle.devices.specs.declared.incoming.LineInputFault.{LineInputFault}
use Rattle.devices.specs.declared.incoming.LineInputFault.TheVariants.{TooLong, Unreadable, Memory}

-- what was read follows what was there; an input that has ended stays as it was
pub record AddsInput (before after : Option (List ℕ)) (old new : Incoming) : Type 0 where
  pub more : List ℕ
  pub behind : new.left ≡ old.left ++ more
  pub consumed : Consumes before after more
  pub at_end : (old.ended ≡ true → IsAtEnd before) → new.ended ≡ true → IsAtEnd after
  pub stays : old.ended ≡ true → new ≡ old
  pub idle : old.ended ≡ true → after ≡ before

-- what was read follows what was there, but its last part may be lost
pub record AddsSome (before after : Option (List ℕ)) (old new : Incoming) : Type 0 where
  pub more : List ℕ
  pub lost : List ℕ
  pub behind : new.left ≡ old.left ++ more
  pub consumed : Consumes before after (more ++ lost)
  pub at_end : (old.ended ≡ true → IsAtEnd before) → new.ended ≡ true → IsAtEnd after
  pub stays : old.ended ≡ true → new ≡ old

-- bytes are lost only when the reader fails or memory runs out
abbrev pub Comes : {T : Type 0} → Option (List ℕ) → Option (List ℕ) → Incoming → Incoming → Result T LineInputFault
    → Type 0
Comes before after old new (Ok _) = AddsInput before after old new
Comes before after old new (Err TooLong) = AddsInput before after old new
Comes before after old new (Err Unreadable) = AddsSome before after old new
Comes before after old new (Err Memory) = AddsSome before after old new
