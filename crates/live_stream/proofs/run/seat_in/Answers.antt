use Rattle.std.proofs.Common.{sym, subst, List, ℕ}
use Rattle.command_node.specs.DomainFile.{HasNone}
use Rattle.command_node.specs.declared.domain_file.NoDomain.TheVariants.{Refused}
use Rattle.live_stream.proofs.Verdicts.{refused_file, refused_name, seats_so}
use Rattle.live_stream.proofs.run.seat_in.Goals as goal

pub returns-in-Ok-clause-seats : goal.returns-in-Ok-clause-seats
returns-in-Ok-clause-seats g c = seats_so (g.D.Source.left c.args.conf.now) c.args.router.now c.in-Ok.domain c.seat_of.result c.in-Ok.ensures.domain c.seat_of.ensures.found

pub returns-in-Ok-clause-unseated : goal.returns-in-Ok-clause-unseated
returns-in-Ok-clause-unseated g c = refused_name (g.D.Source.left c.args.conf.now) c.args.router.now c.in-Ok.domain c.seat_of.result (g.R.Sink.written c.args.report.now) (g.R.Sink.written c.seat_of.new.report) c.in-Ok.ensures.domain c.seat_of.ensures.unnamed

pub returns-in-Err-Refused-clause-unseated : goal.returns-in-Err-Refused-clause-unseated
returns-in-Err-Refused-clause-unseated g c =
    let left = g.D.Source.left c.args.conf.now in
    let faults = g.D.Source.faults c.args.conf.now in
    let faults_now = g.D.Source.faults c.domain_in.new.conf in
    let none = subst (HasNone left faults faults_now) c.in-Err-Refused.field-0-is c.in-Err-Refused.ensures.none in
    refused_file left faults faults_now c.args.router.now c.as_slice.result.now c.deliver.result (g.R.Sink.written c.args.report.now) (g.R.Sink.written c.deliver.new.report)
    (subst (λ (line : List ℕ). HasNone left faults faults_now (Refused line)) (sym c.as_slice.ensures) none) c.deliver.ensures.status c.deliver.ensures.written
