use Rattle.std.proofs.Common.{ap, sym, subst}
use Rattle.std.specs.List.{AllByRecursion}
use Rattle.std.proofs.lemmas.Result.{err_from_is_err_and}
use Rattle.wire_base.specs.model.Configuration.{DomainConf}
use Rattle.domain_replay.specs.Replaying.{IsJoining}
use Rattle.domain_replay.specs.Telling.{ReplayState}
use Rattle.domain_replay.proofs.IdleLaws.{round_told, still_idle}
use Rattle.domain_replay.proofs.reported_world.ReportedWorld.next_round.Goals as goal

pub returns-in-Some-clause-told : goal.returns-in-Some-clause-told
returns-in-Some-clause-told c =
    round_told c.args.line c.args.self.now c.count_sends.new.self c.args.texts.now c.args.all.now c.in-Some.sends c.args.idle.now c.requires.value c.requires.idle c.in-Some.ensures.is c.in-Some.ensures.room c.count_sends.ensures

pub returns-in-Some-clause-domain : goal.returns-in-Some-clause-domain
returns-in-Some-clause-domain c = ap (λ (s : ReplayState). s.world.domain) c.count_sends.ensures

pub returns-in-Some-clause-idle : goal.returns-in-Some-clause-idle
returns-in-Some-clause-idle c = still_idle c.args.self.now c.count_sends.new.self c.in-Some.sends c.args.all.now c.args.idle.now c.requires.idle c.count_sends.ensures

pub returns-in_err-do_round-clause-told : goal.returns-in_err-do_round-clause-told
returns-in_err-do_round-clause-told c =
    let p = err_from_is_err_and c.from_residual.result c.from_residual.ensures.1 in
    rw (p.1, p.2) c.in_err-do_round.ensures.told

pub returns-in_err-do_round-clause-stops : goal.returns-in_err-do_round-clause-stops
returns-in_err-do_round-clause-stops c =
    let p = err_from_is_err_and c.from_residual.result c.from_residual.ensures.1 in
    rw p.1 c.in_err-do_round.ensures.stops

pub idle_after-requires : goal.idle_after-requires
idle_after-requires c = subst (λ (d : DomainConf). AllByRecursion (IsJoining d.routers) c.args.all.now) (sym c.in_ok-do_round.ensures.domain) c.requires.joins
