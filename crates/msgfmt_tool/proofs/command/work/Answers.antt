use Rattle.std.proofs.Common.{ap, option_map}
use Rattle.msgfmt_words.specs.Requests.{asked_in}
use Rattle.msgfmt_steps.specs.RunDevices.{change, files_seen}
use Rattle.devices.specs.Devices.{input_seen, output_seen}
use Rattle.msgfmt_steps.proofs.Telling.{between}
use Rattle.msgfmt_tool.proofs.RunLemmas.{delivered, ends_compiling}
use Rattle.msgfmt_tool.proofs.command.work.Goals as goal

pub returns-in_err-compiled : goal.returns-in_err-compiled
returns-in_err-compiled g c =
    let f = files_seen g.F.Files.content g.F.Files.written g.F.Files.failures in
    let i = input_seen g.R.Source.remaining g.R.Source.reads g.R.Source.failures in
    let o = output_seen g.W.Sink.contents g.W.Sink.failures in
    let told = g.E.Sink.failures c.args.errors.now in
    ends_compiling (f c.args.files.now) (f c.compile_input.new.files)
    (change i c.args.reader.now c.compile_input.new.reader)
    (asked_in c.args.request.now) c.in-Some.name.now (ap (option_map (λ s. s.now)) c.in-Some.is)
    c.compile_input.ensures.none_written
    (o c.args.writer.now) (between told told)
    _ c.in_err-compiled.field-0.0 c.from_residual.ensures.1 c.in_err-compiled.ensures.fails

pub returns : goal.returns
returns g c =
    let f = files_seen g.F.Files.content g.F.Files.written g.F.Files.failures in
    let i = input_seen g.R.Source.remaining g.R.Source.reads g.R.Source.failures in
    let o = output_seen g.W.Sink.contents g.W.Sink.failures in
    delivered (f c.args.files.now) (f c.compile_input.new.files) (change i c.args.reader.now c.compile_input.new.reader)
    (asked_in c.args.request.now) c.in-Some.name.now (ap (option_map (λ s. s.now)) c.in-Some.is)
    c.compile_input.ensures.none_written
    c.compile_input.ensures.later c.in_ok-compiled.compiled c.in_ok-compiled.ensures.compiles (f c.deliver.new.files)
    (change o c.args.writer.now c.deliver.new.writer) (change g.E.Sink.failures c.args.errors.now c.deliver.new.errors)
    _ c.deliver.ensures
