-- What the proofs of this crate are written in.
pub use Rattle.std.proofs.Common.{Bool, List, None, Option, Some, [], ap, append_assoc, arith, cond, drop, false}
pub use Rattle.std.proofs.Common.{get_or, inl, inr, length, length-append, map, one-add, refl, rules, subst, suc, sym}
pub use Rattle.std.proofs.Common.{take, true, zero, ℕ, ◌++◌, ◌+◌, ◌-◌, ◌<◌, ◌^◌, ◌∙◌, ◌∷◌, ◌≡◌, ◌≢◌, ◌≤◌}
pub use Rattle.std.proofs.lemmas.Bool.{cases_Bool, cases_eq, eq-eqb, eqb-true, ne_eqb}
pub use Rattle.std.proofs.lemmas.List.{append-nil, length-drop, map-append, take-append-drop}
pub use Rattle.std.proofs.lemmas.List.Elements.{Contains-append_cases, Contains-append_left, Contains-append_right}
pub use Rattle.std.proofs.lemmas.List.Sums.{prefix_len-le-length, prefix_len_passes}
pub use Rattle.std.proofs.lemmas.Result.{err_from_is_err_and}
pub use Rattle.std.proofs.lemmas.Simd.{length-chunk, zip2_splat}
pub use Rattle.std.specs.List.{AllByRecursion, Contains, concat, flat_map, prefix_len, take_while}
pub use Rattle.std.specs.Option.{option_map}
pub use Rattle.std.specs.Prelude.{Err, IfOk, Ok, Result, if◌then◌else◌, ◌==◌, ◌⊎◌}
pub use Rattle.byte_text.specs.Chain.{Chain}
pub use lib.Lanes.{chunk}
pub use Rattle.po_text.specs.Building.{Draft, State, after, at_state, begin, draft_of, drafts_at, flags_over, new_form}
pub use Rattle.po_text.specs.Building.{no_flags, offsets, opens, opens_id, put_text, some_if, start}
pub use Rattle.po_text.specs.Entries.{ClosesAt, ClosesBy, Derivation, Derives, Entry, EntryAt, IsKeyText, IsLawfulEntry}
pub use Rattle.po_text.specs.Entries.{IsLawfulPart, IsOneOrMore, IsOpenList, Part, PlainPart, PluralPart, Strings}
pub use Rattle.po_text.specs.Entries.{all_tokens, context_tokens, form_tokens, forms_of, part_tokens, plural_of, texts}
pub use Rattle.po_text.specs.Entries.{tokens_of}
pub use Rattle.po_text.specs.Lexing.{HasEnd, TakesLexemes, gap_marks, is_simple, string_of, token_view}
pub use Rattle.po_text.specs.Outcome.{Gives, IsFaulty, Reads, body}
pub use Rattle.po_text.specs.Parsing.{HasParsed}
pub use Rattle.po_text.specs.Spelling.{Close, CloseBracket, Comment, Context, Escape, HasFault, Id, IsLawful, IsOpenEnd}
pub use Rattle.po_text.specs.Spelling.{Lexeme, Mark, Number, Octal, Open, OpenBracket, Piece, PieceAt, Plain, Plural}
pub use Rattle.po_text.specs.Spelling.{Quoted, Spells, Str, StringUnit, Text, Token, UnitAt, UnitsAt, White, Word}
pub use Rattle.po_text.specs.Spelling.{comment_marks, escaped_byte, is_not_line_end, is_octal, is_plain, is_white}
pub use Rattle.po_text.specs.Spelling.{is_word_byte, lexemes, line_of, octal_value, unit_value, word_token}
pub use Rattle.po_text.specs.Stages.{ContextText, ContextWord, FormText, FormWord, IdText, IdWord, IndexClose}
pub use Rattle.po_text.specs.Stages.{IndexNumber, IndexOpen, IndexedText, IndexedWord, IsBoundary, PluralText}
pub use Rattle.po_text.specs.Stages.{PluralWord, Stage, Start, has_four, key_text, stage_view}
pub use Rattle.po_text.specs.declared.buffer.Lines.{Lines}
pub use Rattle.po_text.specs.declared.fault.PoKind.{PoKind}
pub use Rattle.po_text.specs.declared.fault.PoKind.TheVariants.{BadOrder, BadText, OpenString}
pub use Rattle.po_text.specs.declared.flags.Flags.{Flags}
