-- Runs that stop early, by their kinds.
use Rattle.catserve.proofs.Common.{◌≡◌, ℕ, List, ScriptKind, InputSeen, OutputSeen, Fails, EndsPlaying}
use Rattle.script_text.specs.declared.fault.ScriptKind.TheVariants as kind
use Rattle.catserve.specs.Run.{ReadsText}

-- a text that was read whole gave no output
pub run_fails : {i i' : InputSeen} (o o' : OutputSeen) {text : List ℕ} (k : ScriptKind) (line : ℕ)
    → ReadsText i i' text → EndsPlaying text k line → o' ≡ o → Fails i i' o o' k line
run_fails o o' kind.Memory line read h same = (same, h)
run_fails o o' kind.Closed line read ((value, is), some, none) same =
    (record { text = _; read = read; value = value; is = is; unwritten = same }, some, none)
run_fails o o' _ line read h same = search
