use Rattle.wire_base.specs.model.Configuration.{IsEnd}
use Rattle.laws_format.proofs.ContentLaws.{picked_all}
use Rattle.lsp_origin.proofs.links.append_links.Goals as goal

pub append_blocks-requires : goal.append_blocks-requires
append_blocks-requires c = rw (c.as_slice.ensures, c.in_ok-rows.ensures) (picked_all IsEnd c.args.up.now c.args.ends.now c.requires.ends)
