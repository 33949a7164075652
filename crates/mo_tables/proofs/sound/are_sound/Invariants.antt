use Rattle.mo_tables.proofs.Kit.{◌≡◌, ◌+◌, ◌-◌, ◌*◌, ◌<◌, KnowsSeparators, before_nul, string_at}
use Rattle.mo_tables.proofs.SoundRows.{SoundTo}
use Rattle.mo_tables.proofs.sound.are_sound.Given as goal

abbrev pub invariant-loop-i : goal.invariant-loop-i
invariant-loop-i g l =
    let number = g.T.ByteOrder.number_of in
    record {
      known : KnowsSeparators l.bytes l.separators;
      sound : SoundTo number l.bytes l.originals l.translations l.i;
      key : 0 < l.i → l.last ≡ before_nul (string_at number l.bytes (l.originals + 8 * (l.i - 1)));
    }
