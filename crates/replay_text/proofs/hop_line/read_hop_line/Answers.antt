use Rattle.replay_text.proofs.Spelled.{found, only}
use Rattle.replay_text.proofs.Ordered.{ordered}
use Rattle.replay_text.proofs.hop_line.read_hop_line.Goals as goal

pub returns-clause-found : goal.returns-clause-found
returns-clause-found c = found c.line_of.result c.line_of.new.said c.args.line.now c.args.state.now c.line_of.ensures.value

pub returns-clause-only : goal.returns-clause-only
returns-clause-only c = only c.line_of.result c.line_of.new.said c.args.line.now c.args.state.now c.line_of.ensures.value

pub returns-clause-ordered : goal.returns-clause-ordered
returns-clause-ordered c = ordered c.line_of.result c.line_of.new.said c.args.line.now c.args.state.now c.line_of.ensures.value
