use Rattle.std.proofs.Common.{arith}
use Rattle.gre_ip.proofs.Tunnels.{written_onward, onward_again}
use Rattle.gre_ip.proofs.onward.write_onward.Goals as goal

pub returns-clause-octets : goal.returns-clause-octets
returns-clause-octets c =
    written_onward c.args.packet.now c.write_fields.new.packet c.write_fields-2.new.packet c.args.ttl c.checksum_of-checksum.result c.requires.head c.requires.whole c.write_fields.ensures c.checksum_of-checksum.ensures c.write_fields-2.ensures

pub returns-clause-again : goal.returns-clause-again
returns-clause-again c t rest is =
    onward_again c.args.packet.now c.write_fields-2.new.packet _ rest t c.args.ttl (omega (arith, c.ranges.ttl.fits))
    (written_onward c.args.packet.now c.write_fields.new.packet c.write_fields-2.new.packet c.args.ttl c.checksum_of-checksum.result c.requires.head c.requires.whole c.write_fields.ensures c.checksum_of-checksum.ensures c.write_fields-2.ensures)
    is
