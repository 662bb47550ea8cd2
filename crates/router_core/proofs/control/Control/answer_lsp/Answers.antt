use Rattle.std.proofs.Common.{ap}
use Rattle.isis_pdu.specs.Views.{head_of}
use Rattle.isis_flood.specs.Answers.{requested}
use Rattle.router_core.proofs.control.Control.answer_lsp.Goals as goal

pub reissue-requires : goal.reissue-requires
reissue-requires c = c.requires.unspent c.args.head.now.seq (ap (requested (head_of c.args.head.now)) c.in-Reissue.is)
