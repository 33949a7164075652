-- What files report of what was written, and how they count their failures.
use Rattle.std.specs.Prelude.{◌≡◌, ◌⊎◌, ◌≤◌, ⊤, ℕ, List, [], ◌∷◌, ◌++◌, Option, Some, None, Result, IsErrOf}
use Rattle.devices.specs.Devices.{RisesBy}
use Rattle.devices.specs.declared.file.FileFault.{FileFault}
use Rattle.devices.specs.declared.file.FileFault.TheVariants.{Device}

-- the files that were written, where they are reported: the name and the bytes of each, the last one last
abbrev pub Log : Type 0
Log = Option (List (List ℕ × List ℕ))

-- one more file was written, under this name, with these bytes
abbrev pub Logs : Log → Log → List ℕ → List ℕ → Type 0
Logs None new name bytes = ⊤
Logs (Some files) None name bytes = ⊥
Logs (Some files) (Some files') name bytes = files' ≡ files ++ (name, bytes) ∷ []

-- no further file was written
abbrev pub KeepsLog : Log → Log → Type 0
KeepsLog None new = ⊤
KeepsLog (Some files) None = ⊥
KeepsLog (Some files) (Some files') = files' ≡ files

-- no further file was written, or one more under this name, with any bytes
abbrev pub MayLog : Log → Log → List ℕ → Type 0
MayLog None new name = ⊤
MayLog (Some files) None name = ⊥
MayLog (Some files) (Some files') name =
    (files' ≡ files) ⊎ ((bytes : List ℕ) × (files' ≡ files ++ (name, bytes) ∷ []))

-- `Device` is answered only where a file failed
pub record CountsFault {T : Type 0} (failures failures' : ℕ) (result : Result T FileFault) : Type 0 where
  pub later : failures ≤ failures'
  pub failed : IsErrOf result Device → RisesBy 1 failures failures'
