-- What was heard of a session's input.
use Rattle.catserve.proofs.Common.{◌≡◌, ◌∙◌, refl, sym, ap, subst, ℕ, ◌+◌, ◌<◌, List, [], ◌∷◌, ◌++◌, length, take, drop}
use Rattle.catserve.proofs.Common.{arith, inl, inr, append_assoc, Option, Some, None, Result, Ok, Err, concat}
use Rattle.catserve.proofs.Common.{append-nil, InputSeen, most_reads, lines, without_end, MayCome, EndsLine}
use Rattle.catserve.proofs.Common.{consumes_both, rises_both, rises_later, Line, line_of, command_with, command_list}
use Rattle.catserve.proofs.Common.{text_lines, commands_from, ScriptKind, SessionFault, FailsToRead, most_lines}
use Rattle.catserve.proofs.Common.{HearingValue, CountsOn, HasTaken, Hears, Stays, HearsNone, HearsNoText, HearsText}
use Rattle.catserve.proofs.Common.{HearsOne, IsUnsaid, line_of_kind, size_behind, commands_of}
use Rattle.script_text.specs.declared.fault.ScriptKind.TheVariants as kind
use Rattle.catserve.specs.declared.hearing.Heard.{Heard}
use Rattle.catserve.proofs.LinesTaken.{counts_both, taken_then, got_taken, first_same, line_cut, line_later, line_whole}
use Rattle.catserve.proofs.LinesTaken.{stays_put}
use Rattle.catserve.proofs.SessionLines.{says_text, bad_line, bad_text}

-- ---- one step after another

pub fails_later : {i j : InputSeen} (k : InputSeen) → CountsOn i j → FailsToRead j k → FailsToRead i k
fails_later {i} {j} k counts (inl failed) = inl (rises_later 1 i.failures j.failures k.failures counts.later failed)
fails_later {i} {j} k counts (inr reads) = inr (rises_both 0 most_reads i.reads j.reads k.reads counts.reads reads)

pub stays_then : {i j k : InputSeen} {x y z : HearingValue} {lost : List ℕ} → Stays i j x y [] → Stays j k y z lost
    → Stays i k x z lost
stays_then {i} {j} {k} {x} {lost} a b = record {
  got = record {
    more = a.got.more ++ b.got.more;
    read = rw (append_assoc a.got.more b.got.more lost) (consumes_both i.left j.left k.left a.got.more
        (b.got.more ++ lost) (rw (← append-nil a.got.more) a.got.read) b.got.read);
    behind = b.got.behind ∙ ap (λ xs. xs ++ b.got.more) a.got.behind ∙ append_assoc x.input.left a.got.more b.got.more;
    may = λ text may. subst (MayCome x.input) (sym (append_assoc a.got.more b.got.more text))
        (a.got.may (b.got.more ++ text) (b.got.may text may));
    at_end = λ before. b.got.at_end (a.got.at_end before);
    counts = counts_both a.got.counts b.got.counts;
  };
  number = b.number ∙ a.number;
  size = b.size ∙ a.size;
}

-- nothing was taken yet
abbrev pub stays_taken : {i j : InputSeen} {x y : HearingValue} → Stays i j x y [] → HasTaken i j x.input y.input []
stays_taken stays = got_taken stays.got refl refl (λ text may. refl)

pub none_then : {i j : InputSeen} (k : InputSeen) (workers : ℕ) {x y : HearingValue} (z : HearingValue)
    (kind : ScriptKind) (line : ℕ)
    → Stays i j x y [] → HearsNone j k workers y z kind line → HearsNone i k workers x z kind line
none_then k workers z kind.TooLarge line a h = record {
  stays = stays_then a h.stays;
  line_is = h.line_is ∙ a.number;
  over = rw (← a.number, ← a.size) h.over;
}
none_then k workers z kind.NotUtf8 line a h = search (stays_then a h.stays, h.line_is ∙ a.number)
none_then k workers z kind.BadLine line a h = record {
  stays = stays_then a h.stays;
  line_is = h.line_is ∙ a.number;
  bad = rw a.number at h.bad;
}
none_then k workers z kind.ReadFault line a ((lost, h), failed, is) = (
  (lost, stays_then a h),
  fails_later k a.got.counts failed,
  is,
)
none_then k workers z kind.Memory line a ((lost, h), is) = ((lost, stays_then a h), is)
none_then k workers z _ line a h = absurd h

abbrev pub hears_then : {i j : InputSeen} (k : InputSeen) (workers : ℕ) {x y : HearingValue} (z : HearingValue)
    (r : Result (Option Heard) SessionFault)
    → Stays i j x y [] → HearsOne j k workers y z r → HearsOne i k workers x z r
hears_then k workers z (Ok (Some thing)) a h = record {
  raw = h.raw;
  taken = taken_then (stays_taken a) h.taken;
  said = rw a.number at h.said;
  few = omega (arith, h.few, a.number);
  number = h.number ∙ ap (λ n. n + length h.raw) a.number;
  size = h.size ∙ ap (λ n. size_behind (commands_of thing) (n + length (concat h.raw))) a.size;
}
hears_then k workers z (Ok None) a h = record { stays = stays_then a h.stays; left = h.left; ended = h.ended }
hears_then k workers z (Err fault) a h = none_then k workers z fault.kind fault.line a h

-- ---- a line

-- it isn't known what it says
pub hears_none : (i : InputSeen) (workers : ℕ) (x : HearingValue) {end : ℕ} (kind : ScriptKind) → EndsLine x.input 0 end
    → IsUnsaid workers (take end x.input.left) kind → HearsNone i i workers x x kind (line_of_kind kind x.number)
hears_none i workers x {end} kind.NotUtf8 ends undecodable = record {
  stays = stays_put;
  line_is = refl;
  raw = take end x.input.left ∷ [];
  behind = drop end x.input.left;
  begins = line_whole x.input end;
  cut = line_cut ends;
  undecodable = rw (append-nil (take end x.input.left)) undecodable;
}
hears_none i workers x {end} kind.BadLine ends bad = record {
  stays = stays_put;
  line_is = refl;
  bad = λ text may. ap (λ ls. commands_from workers x.number 0 ls) (line_cut ends text may)
      ∙ bad_line workers x.number (take end x.input.left) (lines (drop end x.input.left ++ text)) bad;
}
hears_none i workers x kind.Memory ends h = (([], stays_put), refl)
hears_none i workers x _ ends h = absurd h

-- ---- a line with its text

abbrev pub hears_said : {i j : InputSeen} {workers : ℕ} {x y : HearingValue} {end : ℕ} (line : Line) {bytes : List ℕ}
    → x.number < most_lines → line_of workers (without_end (take end x.input.left)) ≡ Some line
    → HearsText i j x y end (text_lines line) bytes
    → Hears i j workers x (record y { size = size_behind (command_list (command_with line bytes)) y.size })
    (command_list (command_with line bytes))
hears_said {x} {end} line {bytes} few is h =
    let raw : List (List ℕ) = take end x.input.left ∷ h.texts in
    record {
      raw = raw;
      taken = h.taken;
      said = rw h.bytes_are (says_text (take end x.input.left) line h.texts is h.counted h.utf8);
      few = few;
      number = omega (arith, h.number, h.counted);
      size = ap (λ n. size_behind (command_list (command_with line bytes)) n) h.size;
    }

pub none_text : (i j : InputSeen) (workers : ℕ) (x y : HearingValue) {end : ℕ} (said : Line) (kind : ScriptKind)
    (line : ℕ) → EndsLine x.input 0 end → line_of workers (without_end (take end x.input.left)) ≡ Some said
    → HearsNoText i j x y end (text_lines said) kind line → HearsNone i j workers x y kind line
none_text i j workers x y {end} said kind.BadLine line ends is (lacks, line_is) = record {
  stays = lacks.stays;
  line_is = line_is;
  bad = λ text may.
      let few : length (lines (drop end y.input.left ++ text)) < text_lines said =
      rw (may lacks.fewer.ended, append-nil (drop end y.input.left)) lacks.fewer.fewer in
      let later : EndsLine y.input 0 end = line_later lacks.stays.got ends in
      rw (line_cut later text may, first_same lacks.stays.got ends)
      (bad_text workers x.number (take end x.input.left) said (drop end y.input.left ++ text) is few);
}
none_text i j workers x y said _ line ends is h = search
