-- What the proofs of this crate are written in.
pub use Rattle.std.proofs.Common.{Err, List, None, Ok, Option, Result, Some, [], ap, append_assoc, arith, drop, false}
pub use Rattle.std.proofs.Common.{get_or, inl, inr, length, length-append, refl, subst, suc, sym, take, true, ℕ, ◌++◌}
pub use Rattle.std.proofs.Common.{◌+◌, ◌-◌, ◌<◌, ◌∙◌, ◌∷◌, ◌≡◌, ◌≢◌, ◌≤◌}
pub use Rattle.std.proofs.lemmas.Bool.{cases_Bool, le-leb, lt-leb, ne_eqb}
pub use Rattle.std.proofs.lemmas.List.{length-take, take-append-drop, take_all}
pub use Rattle.std.proofs.lemmas.List.Sums.{prefix_len-le-length}
pub use Rattle.std.specs.Char.{is_ascii_digit}
pub use Rattle.std.specs.List.{prefix_len, take_while}
pub use Rattle.std.specs.Option.{option_copied}
pub use Rattle.std.specs.Prelude.{IfOk, ◌==◌}
pub use Rattle.std.specs.Str.{IsUtf8}
pub use Rattle.po_header.specs.ChoiceSteps.{node_value}
pub use Rattle.po_header.specs.ExprParsing.{IsStray}
pub use Rattle.po_header.specs.Frames.{stack_of}
pub use Rattle.po_header.specs.Grammar.{Derives, Negation, Tree}
pub use Rattle.po_header.specs.Nodes.{node_tree}
pub use Rattle.po_header.specs.Stack.{BranchWaits, State, Waiting, close, colon, finish, joined_operand}
pub use Rattle.po_header.specs.Stack.{negated_operand, start, step, steps, tree_at_end, with_operand}
pub use Rattle.po_header.specs.Tokens.{Begins, is_blank}
pub use Rattle.po_header.specs.declared.token.Operator.{Operator}
pub use Rattle.po_header.specs.declared.token.Token.{Token}
pub use Rattle.po_header.specs.declared.tree.Node.{Node}
