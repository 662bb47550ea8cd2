use Rattle.domain_model.specs.Truth.{confs_now}
use Rattle.domain_model.specs.World.{peer_place}
use Rattle.domain_core.proofs.FramedCopies.{packet_framed, down_framed}
use Rattle.domain_core.proofs.FramedPdus.{pdu_framed}
use Rattle.domain_core.proofs.FramedWorld.{conf_there, control_there, item_there, item_over, of_now, frame_short}
use Rattle.domain_core.proofs.frame_laws.frames_do_what_items_do.Goals as goal

pub returns-clause-pdu : goal.returns-clause-pdu
returns-clause-pdu _ w a b link back i c p t at joined there up next e q =
    pdu_framed w.domain t.valid.consistent (confs_now w) (of_now w t) b c (conf_there w b c at) (control_there w t b c at) a link back p joined (item_there w t a b link i _ joined there) up next e q

pub returns-clause-packet : goal.returns-clause-packet
returns-clause-packet _ w a b link back i c x t at joined there up next e q =
    packet_framed w.domain t.valid.consistent (confs_now w) (of_now w t) b c (conf_there w b c at) (control_there w t b c at) w.injections a link back x joined (item_there w t a b link i _ joined there) up next e q

pub returns-clause-short : goal.returns-clause-short
returns-clause-short _ w a link i x t there =
    frame_short w.domain t.valid.consistent (confs_now w) (of_now w t) w.injections (peer_place w.domain.routers a link) a link x (item_over w t a link i x there)

pub returns-clause-down : goal.returns-clause-down
returns-clause-down _ c back octets down = down_framed c back octets down
