use Rattle.std.proofs.Common.{◌≡◌, ◌-◌, ◌++◌, List, ℕ, map, ap, ◌∙◌, length, arith, append_assoc}
use Rattle.mo_image.proofs.Writing.{piece_written}
use Rattle.mo_dependent.specs.Splits.{name_at}
use Rattle.mo_dependent.specs.Segments.{index_of, word}
use Rattle.mo_dependent.proofs.Steps.{at_split, rows_next}
use Rattle.mo_dependent.proofs.descriptors.push_rows.Goals as goal

pub push_word-requires : goal.push_word-requires
push_word-requires c =
    let h = at_split c.args.text.now c.splits.from c.splits.i _ c.split_at-split.ensures c.splits.invariant.lies in
    omega arith

pub name_at-requires-clause-within : goal.name_at-requires-clause-within
name_at-requires-clause-within c =
    let h = at_split c.args.text.now c.splits.from c.splits.i _ c.split_at-split.ensures c.splits.invariant.lies in
    omega (arith, ap length c.as_slice-bytes.ensures.value)

pub push_word-requires-in-splits : goal.push_word-requires-in-splits
push_word-requires-in-splits c = omega arith

pub overflow_add-len : goal.overflow_add-len
overflow_add-len c =
    let h = at_split c.args.text.now c.splits.from c.splits.i _ c.split_at-split.ensures c.splits.invariant.lies in
    omega arith

pub overflow_add-from : goal.overflow_add-from
overflow_add-from c =
    let h = at_split c.args.text.now c.splits.from c.splits.i _ c.split_at-split.ensures c.splits.invariant.lies in
    omega arith

pub splits-preserved : goal.splits-preserved
splits-preserved c =
    let names = map (λ n. n.now) c.args.names.now in
    let text = c.args.text.now in
    let s = c.split_at-split.result in
    let from = c.splits.from in
    let h = at_split text from c.splits.i s c.split_at-split.ensures c.splits.invariant.lies in
    let row = word (s.start - from) ++ word (index_of names (name_at text.bytes.items s)) in
    let number : c.index_of.result ≡ index_of names (name_at text.bytes.items s) = c.index_of.ensures.index
    ∙ ap (index_of names) (c.name_at.ensures ∙ ap (λ b. name_at b s) c.as_slice-bytes.ensures.value) in
    let grown : c.push_word-in-splits.new.out.items ≡ c.splits.out.items ++ row =
    c.in_ok-push_word-2.ensures ∙ ap (λ (x : List ℕ). x ++ word c.index_of.result) c.in_ok-push_word.ensures
    ∙ ap (λ (n : ℕ). c.splits.out.items ++ word (s.start - from) ++ word n) number
    ∙ append_assoc c.splits.out.items (word (s.start - from)) (word (index_of names (name_at text.bytes.items s))) in
    record {
      told = piece_written c.splits.out.items _ _ _ row _ c.splits.invariant.told
          (rows_next text from c.splits.i s c.split_at-split.ensures names) grown;
      lies = h.later;
      so_far = omega arith;
    }

pub overflow_sub-split : goal.overflow_sub-split
overflow_sub-split c =
    (at_split c.args.text.now c.splits.from c.splits.i _ c.split_at-split.ensures c.splits.invariant.lies).begins

pub name_at-requires-clause-some : goal.name_at-requires-clause-some
name_at-requires-clause-some c =
    (at_split c.args.text.now c.splits.from c.splits.i _ c.split_at-split.ensures c.splits.invariant.lies).some

pub overflow_sub-len : goal.overflow_sub-len
overflow_sub-len c =
    (at_split c.args.text.now c.splits.from c.splits.i _ c.split_at-split.ensures c.splits.invariant.lies).begins
