-- What is cached beside a view does not depend on the sub-domains and label ranges of the router's own configuration.
use Rattle.std.proofs.Common.{ℕ, List, [], ◌∷◌, Option, Some, None}
use Rattle.std.specs.List.{AllByRecursion}
use Rattle.wire_base.specs.declared.conf.OwnSub.{OwnSub}
use Rattle.wire_base.specs.declared.conf.PastRange.{PastRange}
use Rattle.wire_base.specs.declared.conf.RouterConf.{RouterConf}
use Rattle.wire_base.specs.declared.triple.Triple.{Triple}
use Rattle.wire_base.specs.declared.view.First.{First}
use Rattle.wire_base.specs.declared.view.ViewNode.{ViewNode}
use Rattle.bier_tunnel.specs.declared.ways.Way.{Way}
use Rattle.bift_table.specs.declared.any.AnyTable.{AnyTable}
use Rattle.bier_forward.specs.declared.routes.ClassTable.{ClassTable}
use Rattle.bier_forward.specs.declared.cache.Routes.{Routes}
use Rattle.bier_forward.specs.declared.routes.TripleRows.{TripleRows}
use Rattle.bier_forward.specs.Kept.{AreRoutes, HasRows, HasTable, IsKeptRows, IsKeptTable}
use Rattle.bier_forward.specs.Tunnels.{IsBuilt}

module _ (r : RouterConf) (subs away : List OwnSub) (past : List PastRange) (g : List ViewNode) where
  abbrev changed : RouterConf
  changed = record r { subs = subs; away = away; past = past }

  rows_stay : (t : Triple) (rows : List (List First)) → HasRows r g t rows → HasRows changed g t rows
  rows_stay t rows has = record { lists = has.lists; each = has.each }

  all_rows : (ks : List TripleRows) → AllByRecursion (IsKeptRows r g) ks → AllByRecursion (IsKeptRows changed g) ks
  all_rows [] all = tt
  all_rows (k ∷ ks) all = (rows_stay k.triple k.rows.bits all.0, all_rows ks all.1)

  table_stays : (t : Triple) (class : ℕ) (table : AnyTable) → HasTable r g t class table → HasTable changed g t class table
  table_stays t class table has = record { size = has.size; leads = record { rows = has.leads.rows; are = rows_stay t has.leads.rows has.leads.are; picks = has.leads.picks } }

  all_tables : (ks : List ClassTable) → AllByRecursion (IsKeptTable r g) ks → AllByRecursion (IsKeptTable changed g) ks
  all_tables [] all = tt
  all_tables (k ∷ ks) all = (λ class lt is. table_stays k.triple class k.table (all.0 class lt is), all_tables ks all.1)

  built_stays : (fib : Option (List Way)) → IsBuilt r g fib → IsBuilt changed g fib
  built_stays None built = tt
  built_stays (Some ways) built = record { graph = built.graph; within = built.within; are = built.are }

  pub routes_stay : (k : Routes) → AreRoutes r g k → AreRoutes changed g k
  routes_stay k are = record { rows = all_rows k.rows.items are.rows; tables = all_tables k.tables.items are.tables; ways = built_stays k.fib are.ways }
