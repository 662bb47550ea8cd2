use Rattle.std.proofs.lemmas.Result.{on_ok_weaker}
use Rattle.laws_format.proofs.ContentLaws.{block_text}
use Rattle.lsp_origin.proofs.links.append_block.Goals as goal

pub returns : goal.returns
returns c = on_ok_weaker c.append_ends.result (block_text c.args.out.now c.append_ends.new.out c.append.new.self c.args.ends.now c.requires.ends c.in_ok-append.ensures.ok) c.append_ends.ensures
