use Rattle.laws_settle.proofs.IssuerLaws.{first_issuers, happens_issued, run_issuing}
use Rattle.laws_settle.proofs.issuers.events_keep_issuers.Goals as goal

pub returns-clause-start : goal.returns-clause-start
returns-clause-start _ d = first_issuers d

pub returns-clause-event : goal.returns-clause-event
returns-clause-event _ w e truth issuers = happens_issued w truth issuers e

pub returns-clause-run : goal.returns-clause-run
returns-clause-run _ d es valid allowed = (run_issuing d es valid allowed).issuers
