use Rattle.std.proofs.Common.{ℕ, ◌+◌, List, ◌++◌, refl, ap, ◌∙◌, length}
use Rattle.std.specs.Prelude.{replicate}
use Rattle.byteorder.specs.Endian.{little_bytes}
use Rattle.pcapng_frames.proofs.WriteLaws.{packet_is, appended}
use Rattle.pcapng_frames.proofs.write.append_packet.Goals as goal

pub returns-clause-ok : goal.returns-clause-ok
returns-clause-ok c =
    appended c.append_end.result c.args.out.now c.append_two.new.self c.append_end.new.out _ _ _ c.in_ok-append_two.ensures.ok c.append_end.ensures.ok
    (ap (λ (l : List ℕ). (l ++ c.args.frame.now) ++ (replicate c.padding_of-padding.result 0 ++ little_bytes 4 (32 + length c.args.frame.now + c.padding_of-padding.result))) c.packet_head.ensures
    ∙ packet_is (32 + length c.args.frame.now + c.padding_of-padding.result) c.args.interface c.args.ticks (length c.args.frame.now) c.padding_of-padding.result c.args.frame.now refl c.padding_of-padding.ensures.exact refl)
