-- Why messages have no file, step by step.
use Rattle.std.proofs.Common.{◌≡◌, ℕ, List, subst, inl, inr, refl, sym}
use Rattle.std.specs.Prelude.{Result, Ok, Err, IfOk, IfErr}
use Rattle.mo_segments.specs.MessageStrings.{Strings, strings_of}
use Rattle.dependent_po.specs.declared.compiled.DependentCompiled.{DependentCompiled}
use Rattle.dependent_files.specs.MessagesHere.{messages_here, Dependent}
use Rattle.dependent_files.specs.MessagesFile.{HasNoFile, IsFile, IsWritten, Entry, IsCatalogueOf, FileFault}
use Rattle.dependent_files.specs.FileFaults.{IsCatalogueFault, IsReadingFault, IsWritingFault}
use Rattle.dependent_files.specs.TextFiles.{HasFileAny, HasNoFileAny, IsFileOf, MeansAny, RefusesAny, Options}
use Rattle.dependent_files.specs.declared.compiler.DependentFile.{DependentFile}
use Rattle.dependent_files.specs.declared.fault.FileFault.TheVariants.{Text, TooLarge, NotReadBack, Catalogue}

-- ---- the file

pub no_map : (statics : List Strings) (ds : List Dependent) (fault : FileFault) → IsCatalogueFault statics fault
    → HasNoFile statics ds fault
no_map statics ds (Text fault) h = h
no_map statics ds (Catalogue fault) h = inl h
no_map statics ds TooLarge h = absurd h
no_map statics ds NotReadBack h = absurd h

pub unwritten : (statics : List Strings) (ds : List Dependent) (map : List Entry) (fault : FileFault)
    → IsCatalogueOf statics map → IsWritingFault map ds fault → HasNoFile statics ds fault
unwritten statics ds map (Text fault) is h = h
unwritten statics ds map TooLarge is h = inl (record { map = map; is_map = is; too_large = h })
unwritten statics ds map (Catalogue fault) is h = absurd h
unwritten statics ds map NotReadBack is h = absurd h

pub none_written : {X : Type 0} (statics : List Strings) (ds : List Dependent) (map : List Entry)
    (r : Result X FileFault) → IsCatalogueOf statics map → IfErr r (IsWritingFault map ds)
    → IfErr r (HasNoFile statics ds)
none_written statics ds map (Ok x) is h = tt
none_written statics ds map (Err fault) is h = unwritten statics ds map fault is h

pub some_written : {X : Type 0} (items : X → List ℕ) (statics : List Strings) (ds : List Dependent) (map : List Entry)
    (r : Result X FileFault) → IsCatalogueOf statics map → IfOk r (λ x. IsFile map ds (items x))
    → IfOk r (λ x. IsWritten statics ds (items x))
some_written items statics ds map (Ok x) is h = record { map = map; is_map = is; file_is = h }
some_written items statics ds map (Err fault) is h = tt

pub misread : (statics messages : List Strings) (ds : List Dependent) (bytes : List ℕ) (fault : FileFault)
    → messages ≡ messages_here statics ds → IsWritten statics ds bytes → IsReadingFault bytes messages fault
    → HasNoFile statics ds fault
misread statics messages ds bytes (Text fault) e written h = h
misread statics messages ds bytes NotReadBack e written h =
    record { bytes = bytes; written = written; otherwise = rw (sym e) h }
misread statics messages ds bytes TooLarge e written h = inr (record { bytes = bytes; written = written; swells = h })
misread statics messages ds bytes (Catalogue fault) e written h = absurd h

pub no_catalogue : (statics messages : List Strings) (ds : List Dependent) (fault : FileFault)
    → messages ≡ messages_here statics ds → IsCatalogueFault messages fault → HasNoFile statics ds fault
no_catalogue statics messages ds (Text fault) e h = h
no_catalogue statics messages ds (Catalogue fault) e h = inr (rw (sym e) h)
no_catalogue statics messages ds TooLarge e h = absurd h
no_catalogue statics messages ds NotReadBack e h = absurd h

-- ---- the text

module _ (text : List ℕ) (o : Options) (compiled : DependentCompiled) (means : MeansAny text o compiled) where
  pub made : {E : Type 0} (r : Result DependentFile E) → IfOk r (IsFileOf compiled) → IfOk r (HasFileAny text o)
  made (Ok file) h = (compiled, means, h)
  made (Err fault) h = tt

  lacks : (fault : FileFault) → HasNoFile (strings_of compiled.statics.items) compiled.dependents.items fault
      → HasNoFileAny text o fault
  lacks (Text fault) h = subst (RefusesAny text o) (sym h) (inl refl)
  lacks TooLarge h = (compiled, means, h)
  lacks NotReadBack h = (compiled, means, h)
  lacks (Catalogue fault) h = (compiled, means, h)

  pub unmade : {X : Type 0} (r : Result X FileFault)
      → IfErr r (HasNoFile (strings_of compiled.statics.items) compiled.dependents.items)
      → IfErr r (HasNoFileAny text o)
  unmade (Ok x) h = tt
  unmade (Err fault) h = lacks fault h
