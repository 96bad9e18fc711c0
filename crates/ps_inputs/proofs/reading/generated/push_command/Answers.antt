use Rattle.ps_inputs.proofs.Flattening.{command_read}
use Rattle.ps_inputs.proofs.reading.generated.push_command.Goals as goal

pub unreachable-requires : goal.unreachable-requires
unreachable-requires c =
    let line = command_read c.args.script.now.names c.args.line.now c.in_ok-read.field-0 c.read_line.new.names c.requires c.in_ok-read.ensures.read in
    c.in_default.not-Line line.0 line.1
