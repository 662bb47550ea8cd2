use Rattle.laws_item.proofs.SendLaws.{send_sendable, reply_sendable}
use Rattle.laws_item.proofs.control.sent_pdus_law.Goals as goal

pub returns-clause-due : goal.returns-clause-due
returns-clause-due c = send_sendable

pub returns-clause-answered : goal.returns-clause-answered
returns-clause-answered c = reply_sendable
