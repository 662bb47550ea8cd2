use Rattle.domain_conf.proofs.IndexLemmas.{contains-put}
use Rattle.wire_base.specs.declared.addresses.SystemId.{SystemId}
use Rattle.domain_conf.proofs.routers.put_system.Goals as goal

pub returns : goal.returns
returns c = contains-put (λ (s : SystemId). s.0) c.args.system c.args.systems.now c.insert.new.self c.in_ok-insert.ensures.updates
