use Rattle.laws_format.proofs.PduLaws.{pdu_found, pdu_only, pdu_once}
use Rattle.laws_format.proofs.pdus.pdu_law.Goals as goal

pub returns-clause-read : goal.returns-clause-read
returns-clause-read c = pdu_found

pub returns-clause-only : goal.returns-clause-only
returns-clause-only c = pdu_only

pub returns-clause-one : goal.returns-clause-one
returns-clause-one c = pdu_once
