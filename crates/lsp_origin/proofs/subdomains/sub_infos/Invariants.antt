use Rattle.std.proofs.Common.{◌≡◌, take}
use Rattle.wire_base.specs.model.OwnLsp.{infos_of}
use Rattle.lsp_origin.proofs.subdomains.sub_infos.Given as goal

abbrev pub invariant-loop-sub : goal.invariant-loop-sub
invariant-loop-sub l = l.infos ≡ infos_of l.kinds (take l.sub-index l.subs)
