use Rattle.bier_forward.proofs.forward.hop_packet.Given as goal

abbrev pub ghosts-hop_counted : goal.ghosts-hop_counted
ghosts-hop_counted a = record { name = a.blank.name; parts = a.blank.parts }
