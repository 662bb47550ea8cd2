use Rattle.std.proofs.Common.{refl}
use Rattle.wire_base.specs.model.Ingress.{inject}
use Rattle.domain_model.specs.Truth.{confs_now}
use Rattle.domain_core.proofs.FramedCopies.{inject_framed}
use Rattle.domain_core.proofs.FramedPdus.{send_framed}
use Rattle.domain_core.proofs.FramedWorld.{conf_there, control_there, of_now}
use Rattle.domain_core.proofs.frame_laws.sent_frames_are_items.Goals as goal

pub returns-clause-due : goal.returns-clause-due
returns-clause-due _ w a link c t at within next e q =
    send_framed w.domain t.valid.consistent (confs_now w) (of_now w t) a c (conf_there w a c at) (control_there w t a c at) link within next e q

pub returns-clause-entered : goal.returns-clause-entered
returns-clause-entered _ w a sd bsl ks ttl entropy payload c t at fits ok =
    inject_framed w.domain t.valid.consistent (confs_now w) (of_now w t) a c (conf_there w a c at) (control_there w t a c at) w.injections sd bsl ks ttl entropy payload fits ok (inject c sd bsl ks ttl entropy payload) refl
