use Rattle.std.proofs.Common.{length, refl}
use Rattle.std.proofs.lemmas.Option.{slice_get_read}
use Rattle.birt_rows.proofs.direct.first_of.Goals as goal

pub returns : goal.returns
returns c =
    let g = c.args.nodes.now in
    rw (slice_get_read g (length g) c.args.node c.index-nodes-node.result refl c.requires.within c.index-nodes-node.is, c.direct_end.ensures, c.is_direct.ensures, ← c.index-nodes-node.is) refl
