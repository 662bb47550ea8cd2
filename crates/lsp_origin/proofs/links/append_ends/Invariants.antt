use Rattle.std.proofs.Common.{◌≡◌, ◌++◌, take}
use Rattle.std.specs.List.{flat_map}
use Rattle.wire_base.specs.model.Tlv.{reach}
use Rattle.wire_base.specs.model.OwnLsp.{reach_of}
use Rattle.lsp_origin.proofs.links.append_ends.Given as goal

abbrev pub invariant-loop-end : goal.invariant-loop-end
invariant-loop-end l = l.out ≡ l.fn.out ++ flat_map (λ e. reach (reach_of e)) (take l.end-index l.ends)
