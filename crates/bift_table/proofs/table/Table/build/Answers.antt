use Rattle.std.proofs.Common.{◌≡◌, List, map, sym, ◌∙◌, ap, subst}
use Rattle.bift_table.specs.declared.neighbour.Neighbour.{Neighbour}
use Rattle.bift_table.specs.Bift.{router_at, table_of, routed_of, routers_of}
use Rattle.bift_table.specs.Neighbours.{table_in, AreMasks}
use Rattle.bift_table.proofs.BiftLaws.{length-table, table-at}
use Rattle.bift_table.proofs.NeighbourLaws.{table_in-is, length-numbers}
use Rattle.bift_table.proofs.table.Table.build.Goals as goal
use Rattle.bift_table.proofs.table.Table.build.Given.{Over}

whole : (g : Over) (c : goal.In_ok-routers g) → table_in c.in_ok-neighbours.field-0.neighbours.items c.in_ok-neighbours.field-0.numbers.items ≡ table_of c.args.rows.now.bits c.args.class
whole g c = table_in-is c.in_ok-neighbours.field-0.neighbours.items (table_of c.args.rows.now.bits c.args.class) c.in_ok-neighbours.field-0.numbers.items c.in_ok-neighbours.ensures.numbers

listed : (g : Over) (c : goal.In_ok-routers g) → c.in_ok-routers.routers.items ≡ map (λ n. n.to) c.in_ok-neighbours.field-0.neighbours.items
listed g c = c.in_ok-routers.ensures ∙ ap (λ (l : List (Neighbour g.row.W)). map (λ n. n.to) l) c.deref.ensures.value

pub invariant_of-result : goal.invariant_of-result
invariant_of-result g c = record {
  masks = subst (λ t. AreMasks t c.in_ok-neighbours.field-0.neighbours.items) (sym (whole g c)) c.in_ok-neighbours.ensures.masks;
  listed = listed g c;
  order = listed g c ∙ c.in_ok-neighbours.ensures.routers ∙ ap routers_of (sym (whole g c));
  long = length-numbers c.in_ok-neighbours.field-0.neighbours.items (table_of c.args.rows.now.bits c.args.class) c.in_ok-neighbours.field-0.numbers.items c.in_ok-neighbours.ensures.numbers ∙ length-table c.args.rows.now.bits c.args.class ∙ c.requires.lists;
  routed = c.in_ok-neighbours.ensures.routed ∙ ap routed_of (sym (whole g c));
}

pub returns-clause-table : goal.returns-clause-table
returns-clause-table g c = whole g c

pub returns-clause-positions : goal.returns-clause-positions
returns-clause-positions g c p low = ap (λ table. router_at table p) (returns-clause-table g c) ∙ table-at c.args.rows.now.bits c.args.class p low
