use Rattle.std.proofs.Common.{◌≡◌, ℕ, Option, length, map, option_map}
use Rattle.wire_base.specs.model.OnFrame.{joined}
use Rattle.bift_table.specs.Bift.{router_at}
use Rattle.bier_hop.specs.Outcomes.{left}
use Rattle.bier_forward.specs.Hops.{after, given, place_of}
use Rattle.bier_forward.specs.Tunnels.{IsBuilt}
use Rattle.bier_forward.proofs.forward.give_all.Given as goal

abbrev pub invariant-outcomes : goal.invariant-outcomes
invariant-outcomes g l =
    let choose : ℕ → Option ℕ = λ p. option_map (place_of l.view.nodes) (router_at l.table p) in
    record {
      table : l.hop.table ≡ l.initial.hop.table;
      own : l.hop.own ≡ l.initial.hop.own;
      built : IsBuilt l.conf l.view.nodes l.fib;
      whole : after l.effects (joined (map (given l.conf l.view.nodes l.packet) (left choose l.hop)))
          ≡ after l.initial.effects (joined (map (given l.conf l.view.nodes l.packet) (left choose l.initial.hop)));
    }

abbrev pub decreases-outcomes : goal.decreases-outcomes
decreases-outcomes g l = length l.hop.rest
