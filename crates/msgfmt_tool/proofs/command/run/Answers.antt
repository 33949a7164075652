use Rattle.std.proofs.Common.{◌∙◌, ap, map, rules, string_bytes, subst}
use Rattle.msgfmt_words.specs.Requests.{asked_in}
use Rattle.msgfmt_steps.specs.RunDevices.{change, files_seen}
use Rattle.devices.specs.Devices.{input_seen, output_seen}
use Rattle.msgfmt_words.specs.Words.{AreTaken, request_in}
use Rattle.msgfmt_tool.proofs.RunLemmas.{ended}
use Rattle.msgfmt_tool.proofs.command.run.Goals as goal

pub returns-in-Ok : goal.returns-in-Ok
returns-in-Ok g c =
    let words-is = ap (map string_bytes) c.as_slice.ensures.value in
    let f = files_seen g.F.Files.content g.F.Files.written g.F.Files.failures in
    let i = input_seen g.R.Source.remaining g.R.Source.reads g.R.Source.failures in
    let o = output_seen g.W.Sink.contents g.W.Sink.failures in
    ended (change f c.args.files.now c.work-done.new.files) (change i c.args.reader.now c.work-done.new.reader)
    (change o c.args.writer.now c.work-done.new.writer)
    (g.E.Sink.failures c.args.errors.now) (g.E.Sink.failures c.work-done.new.errors)
    (g.E.Sink.failures c.end.new.errors) c.end.ensures.later
    (map string_bytes c.args.words.items) (subst (λ ws. AreTaken ws) words-is c.in-Ok.ensures.taken)
    (asked_in c.in-Ok.request) (c.in-Ok.ensures.asked ∙ ap request_in words-is) c.work-done.result c.end.result
    c.work-done.ensures c.end.ensures.tells

pub returns : goal.returns
returns g c = search rules
