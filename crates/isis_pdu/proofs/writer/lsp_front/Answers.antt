use Rattle.isis_pdu.specs.Views.{head_of}
use Rattle.isis_pdu.proofs.WriteLemmas.{lsp_whole}
use Rattle.isis_pdu.proofs.writer.lsp_front.Goals as goal

pub returns-clause-whole : goal.returns-clause-whole
returns-clause-whole c = λ tlvs long. lsp_whole c.args.level (head_of c.args.head.now) tlvs c.front_octets.result c.args.size c.front_octets.ensures.spelled long
