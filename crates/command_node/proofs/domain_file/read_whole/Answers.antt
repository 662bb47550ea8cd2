use Rattle.std.proofs.Common.{arith}
use Rattle.command_node.proofs.DomainFiles.{reads_as_long}
use Rattle.command_node.proofs.domain_file.read_whole.Goals as goal

pub returns-clause-text : goal.returns-clause-text
returns-clause-text g c = reads_as_long (g.D.Source.left c.args.conf.now) (g.D.Source.left c.pieces.conf) c.pieces.text c.pieces.invariant.taken (omega (arith, c.pieces-test.false, c.len.ensures))
