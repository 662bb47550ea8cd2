use Rattle.command_drive.proofs.FirstEnd.{first_end}
use Rattle.command_drive.proofs.line_reader.unread.line_end.Goals as goal

pub returns : goal.returns
returns c = first_end c.memchr.result c.args.octets.now c.memchr.ensures
