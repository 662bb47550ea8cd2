use Rattle.domain_conf.proofs.IndexLemmas.{contains-put}
use Rattle.wire_base.specs.declared.addresses.Ipv4.{Ipv4}
use Rattle.domain_conf.proofs.routers.put_prefix.Goals as goal

pub returns : goal.returns
returns c = contains-put (λ (p : Ipv4). p.0) c.args.prefix c.args.prefixes.now c.insert.new.self c.in_ok-insert.ensures.updates
