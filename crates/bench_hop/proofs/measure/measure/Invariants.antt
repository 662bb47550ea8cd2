use Rattle.bench_hop.proofs.measure.measure.Given as goal

abbrev pub ghosts-forward : goal.ghosts-forward
ghosts-forward a = record { name = a.blank.name; parts = a.blank.parts }
