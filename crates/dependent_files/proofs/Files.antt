-- The file of a map, and its length.
use Rattle.std.proofs.Common.{◌≡◌, ℕ, ◌≤◌, List, [], ◌∷◌, length, ap, sym, subst, refl, arith}
use Rattle.std.specs.Prelude.{◌≢◌}
use Rattle.mo_image.specs.Map.{IsFileOf, IsLawful}
use Rattle.mo_image.specs.MoFile.{header_len, spelling}
use Rattle.mo_file.specs.MoReading.{Mo}
use Rattle.mo_file.proofs.OneMap.{unique_map}
use Rattle.mo_file.proofs.ReadBack.{reads_back}
use Rattle.mo_dependent.proofs.Lengths.{length-file}
use Rattle.dependent_files.specs.MessagesFile.{IsFile, Entry, IsDependentFile, Dependent}

pub one_map : (bytes : List ℕ) (m n : List Entry) → IsLawful m → bytes ≡ spelling m → IsFileOf bytes n → n ≡ m
one_map bytes m n lawful e file = unique_map bytes n m
    (subst (λ (b : List ℕ). Mo b n) (sym file.spelt) (reads_back n file.lawful))
    (subst (λ (b : List ℕ). Mo b m) (sym e) (reads_back m lawful))

pub some_file : (m : List Entry) (ds : List Dependent) (bytes : List ℕ) → (length ds ≢ 0) → IsDependentFile m ds bytes
    → IsFile m ds bytes
some_file m [] bytes some file = absurd (some refl)
some_file m (d ∷ ds) bytes some file = file

pub some_header : (m : List Entry) (ds : List Dependent) (bytes : List ℕ) → IsDependentFile m ds bytes
    → header_len ≤ length bytes
some_header m ds bytes file = omega (arith, ap length file.spelt, length-file m ds file.slots)
