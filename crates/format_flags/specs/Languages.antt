-- The languages whose formats an entry can be flagged with, beside C (GNU gettext manual, "PO Files").
use Rattle.std.specs.Prelude.{ℕ, List, [], ◌∷◌, Option, codes}
use Rattle.std.specs.List.{find}
use Rattle.std.specs.Str.{bytes_eq}
use Rattle.format_flags.specs.declared.languages.Language.{Language}
use Rattle.format_flags.specs.declared.languages.Language.TheVariants.{ObjectiveC, CPlusPlus, Python, PythonBrace, Java}
use Rattle.format_flags.specs.declared.languages.Language.TheVariants.{JavaPrintf, CSharp, JavaScript, Scheme, Lisp}
use Rattle.format_flags.specs.declared.languages.Language.TheVariants.{EmacsLisp, Librep, Rust, Go, Ruby, Shell}
use Rattle.format_flags.specs.declared.languages.Language.TheVariants.{ShellPrintf, Awk, Lua, ObjectPascal, Modula2, D}
use Rattle.format_flags.specs.declared.languages.Language.TheVariants.{OCaml, Smalltalk, Qt, QtPlural, Kde, KdeKuit}
use Rattle.format_flags.specs.declared.languages.Language.TheVariants.{Boost, Tcl, Perl, PerlBrace, Php, GccInternal}
use Rattle.format_flags.specs.declared.languages.Language.TheVariants.{GfcInternal, Ycp}

-- in the manual's order
abbrev pub every_language : List Language
every_language =
    ObjectiveC ∷ CPlusPlus ∷ Python ∷ PythonBrace ∷ Java ∷ JavaPrintf ∷ CSharp ∷ JavaScript ∷ Scheme ∷ Lisp ∷
    EmacsLisp ∷ Librep ∷ Rust ∷ Go ∷ Ruby ∷ Shell ∷ ShellPrintf ∷ Awk ∷ Lua ∷ ObjectPascal ∷ Modula2 ∷ D ∷ OCaml ∷
    Smalltalk ∷ Qt ∷ QtPlural ∷ Kde ∷ KdeKuit ∷ Boost ∷ Tcl ∷ Perl ∷ PerlBrace ∷ Php ∷ GccInternal ∷ GfcInternal ∷
    Ycp ∷ []

-- what stands before `-format` in the flag of a language
abbrev pub name : Language → List ℕ
name ObjectiveC = codes "objc"
name CPlusPlus = codes "c++"
name Python = codes "python"
name PythonBrace = codes "python-brace"
name Java = codes "java"
name JavaPrintf = codes "java-printf"
name CSharp = codes "csharp"
name JavaScript = codes "javascript"
name Scheme = codes "scheme"
name Lisp = codes "lisp"
name EmacsLisp = codes "elisp"
name Librep = codes "librep"
name Rust = codes "rust"
name Go = codes "go"
name Ruby = codes "ruby"
name Shell = codes "sh"
name ShellPrintf = codes "sh-printf"
name Awk = codes "awk"
name Lua = codes "lua"
name ObjectPascal = codes "object-pascal"
name Modula2 = codes "modula2"
name D = codes "d"
name OCaml = codes "ocaml"
name Smalltalk = codes "smalltalk"
name Qt = codes "qt"
name QtPlural = codes "qt-plural"
name Kde = codes "kde"
name KdeKuit = codes "kde-kuit"
name Boost = codes "boost"
name Tcl = codes "tcl"
name Perl = codes "perl"
name PerlBrace = codes "perl-brace"
name Php = codes "php"
name GccInternal = codes "gcc-internal"
name GfcInternal = codes "gfc-internal"
name Ycp = codes "ycp"

-- the language with this name
abbrev pub language_named : List ℕ → Option Language
language_named text = find (λ language. bytes_eq (name language) text) every_language

-- the number of a language, counted from 0
abbrev pub number : Language → ℕ
number ObjectiveC = 0
number CPlusPlus = 1
number Python = 2
number PythonBrace = 3
number Java = 4
number JavaPrintf = 5
number CSharp = 6
number JavaScript = 7
number Scheme = 8
number Lisp = 9
number EmacsLisp = 10
number Librep = 11
number Rust = 12
number Go = 13
number Ruby = 14
number Shell = 15
number ShellPrintf = 16
number Awk = 17
number Lua = 18
number ObjectPascal = 19
number Modula2 = 20
number D = 21
number OCaml = 22
number Smalltalk = 23
number Qt = 24
number QtPlural = 25
number Kde = 26
number KdeKuit = 27
number Boost = 28
number Tcl = 29
number Perl = 30
number PerlBrace = 31
number Php = 32
number GccInternal = 33
number GfcInternal = 34
number Ycp = 35
