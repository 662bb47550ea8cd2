use Rattle.std.proofs.Common.{sym, ◌∙◌, refl}
use Rattle.quiet_domain.specs.Way.{links_over}
use Rattle.quiet_domain.proofs.tunnels.links_over.Goals as goal

pub returns-then-is_direct : goal.returns-then-is_direct
unfolding links_over
returns-then-is_direct c = rw (sym (rw c.as_slice.ensures.nodes at c.is_direct.ensures) ∙ c.if-is_direct.true) refl

pub returns : goal.returns
unfolding links_over
returns c = rw (sym (rw c.as_slice.ensures.nodes at c.is_direct.ensures) ∙ c.if-is_direct.false) c.tunnel_links.ensures
