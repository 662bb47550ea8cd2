use Rattle.laws_format.proofs.ContentLaws.{sub_fits}
use Rattle.lsp_origin.proofs.subdomains.append_sub.Goals as goal

pub push_info-requires : goal.push_info-requires
push_info-requires c = sub_fits c.args.sub.now c.requires
