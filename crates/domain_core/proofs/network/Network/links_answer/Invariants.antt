use Rattle.std.proofs.Common.{◌≡◌, drop}
use Rattle.domain_core.specs.Held.{world_in}
use Rattle.domain_core.specs.Quiet.{links_reason}
use Rattle.domain_core.proofs.network.Network.links_answer.Given as goal

-- no link so far has a reason
abbrev pub invariant-loop-link : goal.invariant-loop-link
invariant-loop-link l = links_reason (world_in l.self) (drop l.link-index l.self.domain.links) ≡ links_reason (world_in l.self) l.self.domain.links
