use Rattle.std.proofs.Common.{◌∷◌, take}
use Rattle.view_graph.specs.Renewal.{AreNoted, said_now}
use Rattle.view_graph.proofs.changes.changed_places.Given as goal

abbrev pub invariant-systems : goal.invariant-systems
invariant-systems l = AreNoted (said_now l.conf l.up l.store.entries) l.nodes (l.conf.system ∷ take l.at l.changed) l.places.items
