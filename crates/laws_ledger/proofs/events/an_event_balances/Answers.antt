use Rattle.laws_ledger.proofs.LedgerLaws.{event_balances}
use Rattle.laws_ledger.proofs.TotalLaws.{event_total}
use Rattle.laws_ledger.proofs.events.an_event_balances.Goals as goal

pub returns-clause-each : goal.returns-clause-each
returns-clause-each _ w e n k truth fits ok = event_balances n k w e truth fits ok

pub returns-clause-total : goal.returns-clause-total
returns-clause-total _ w e truth fits ok = event_total w e truth fits ok
