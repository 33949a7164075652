-- What the proofs of this crate are written in.
pub use Rattle.std.proofs.Common.{Bool, List, None, Some, [], ap, arith, cond, drop, eqb, false, get_or, inl, inr}
pub use Rattle.std.proofs.Common.{length, min, refl, rules, subst, suc, sym, take, true, zero, ℕ, ◌*◌, ◌++◌, ◌+◌, ◌-◌}
pub use Rattle.std.proofs.Common.{◌<◌, ◌↔◌, ◌∙◌, ◌∷◌, ◌≡◌, ◌≢◌, ◌≤◌}
pub use Rattle.std.proofs.lemmas.Bool.{cases_lt, eq-eqb, eqb-true}
pub use Rattle.std.proofs.lemmas.Grind.{common_steps}
pub use Rattle.std.proofs.lemmas.List.{get_or-drop, length-drop, take_all}
pub use Rattle.std.proofs.lemmas.List.Elements.{All-more}
pub use Rattle.std.specs.Cmp.Lexicographic.{slice_cmp}
pub use Rattle.std.specs.List.{count_by, position_or_len}
pub use Rattle.std.specs.Ordering.{nat_cmp}
pub use Rattle.std.specs.Prelude.{All}
pub use Rattle.std.specs.Str.{IsUtf8}
pub use Rattle.std.specs.declared.cmp.Ordering.TheVariants.{Less}
pub use Rattle.bstr.specs.Find.{IsFirstByte, is_byte}
pub use Rattle.mo_image.specs.Tables.{string_at, strings, word_at}
pub use Rattle.mo_tables.specs.Blocks.{AreFirsts}
pub use Rattle.mo_tables.specs.Claims.{AreAlike, ClaimHolds, IsAlike}
pub use Rattle.mo_tables.specs.FileParts.{HasFewSeparators, IsStretch, KnowsSeparators, part}
pub use Rattle.mo_tables.specs.MoTables.{HasLawfulHeader, HasNul, StringLies, before_nul, table_at}
pub use Rattle.mo_tables.specs.Rows.{HasForms, HasTexts, RowLies, nuls, rows, text_in}
pub use Rattle.mo_tables.specs.declared.rows.Row.{Row}
pub use Rattle.mo_tables.specs.declared.rows.Span.{Span}
