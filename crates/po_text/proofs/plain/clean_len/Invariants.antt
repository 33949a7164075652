use Rattle.po_text.proofs.Kit.{◌≡◌, ◌+◌, ◌-◌, ◌≤◌, drop, length, prefix_len}
use Rattle.po_text.specs.Clean.{is_clean}
use Rattle.po_text.proofs.plain.clean_len.Given as goal

abbrev pub invariant-vectors : goal.invariant-vectors
invariant-vectors l = record {
  passed : prefix_len is_clean l.text ≡ l.len + prefix_len is_clean (drop l.len l.text);
  within : l.len ≤ length l.text;
}

abbrev pub decreases-vectors : goal.decreases-vectors
decreases-vectors l = length l.text - l.len
