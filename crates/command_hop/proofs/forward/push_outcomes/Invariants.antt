use Rattle.command_hop.proofs.forward.push_outcomes.Given as goal

abbrev pub ghosts-push_along : goal.ghosts-push_along
ghosts-push_along a = record { name = a.blank.name; parts = a.blank.parts }
