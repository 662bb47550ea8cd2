use Rattle.domain_conf.proofs.read.read_domain.Goals as goal
use Rattle.domain_conf.proofs.ValidFile.{domain_is_valid}

pub invariant_of-result : goal.invariant_of-result
invariant_of-result c = domain_is_valid c.args.bytes.now (record { routers = c.in_ok-routers.field-0.routers; links = c.in_ok-routers.field-0.links }) c.in_ok-routers.ensures

pub returns-in_err-routers-clause-valid : goal.returns-in_err-routers-clause-valid
returns-in_err-routers-clause-valid c d says = domain_is_valid c.args.bytes.now d says

pub returns-clause-valid : goal.returns-clause-valid
returns-clause-valid c d says = domain_is_valid c.args.bytes.now d says
