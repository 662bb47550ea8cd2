use Rattle.std.proofs.Common.{◌∙◌}
use Rattle.bier_bits.proofs.OctetLaws.{written, written_again}
use Rattle.bier_bits.proofs.bit_string.BitString.to_be_bytes.Goals as goal

octets_are : goal.returns-clause-octets
octets_are g c = written g.row.W c.self.inside.lanes c.write_words.new.out c.args.self.now c.self.told (c.write_words.ensures.length ∙ c.requires.octets) (λ k. (c.type_inv.out k).fits) c.self.view_is c.write_words.ensures.octets

pub returns-clause-octets : goal.returns-clause-octets
returns-clause-octets = octets_are

pub returns-clause-again : goal.returns-clause-again
returns-clause-again g c = written_again g.row.W c.self.inside.lanes c.write_words.new.out c.args.self.now c.self.view_is (octets_are g c)
