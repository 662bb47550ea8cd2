-- What a router caches beside a view: each cached value is the one of that view.
use Rattle.std.specs.Prelude.{◌≡◌, ℕ, ◌-◌, ◌%◌, ◌<◌, ◌≤◌, List, [], length, slice_index_or, Option}
use Rattle.std.specs.List.{AllByRecursion}
use Rattle.wire_base.specs.declared.conf.RouterConf.{RouterConf}
use Rattle.wire_base.specs.declared.triple.Triple.{Triple}
use Rattle.wire_base.specs.declared.view.First.{First}
use Rattle.wire_base.specs.declared.view.ViewNode.{ViewNode}
use Rattle.wire_base.specs.model.Place.{bits_of}
use Rattle.bift_table.specs.declared.any.AnyTable.{AnyTable}
use Rattle.bift_table.specs.Any as any
use Rattle.bift_table.specs.Bift.{member_at, router_at, table_of}
use Rattle.bier_forward.specs.declared.routes.ClassTable.{ClassTable}
use Rattle.bier_forward.specs.declared.routes.Period.{Period}
use Rattle.bier_forward.specs.declared.routes.Period.TheVariants.{One, Two, Four, Eight, Sixteen}
use Rattle.bier_forward.specs.declared.cache.Routes.{Routes}
use Rattle.bier_forward.specs.declared.routes.TripleRows.{TripleRows}
use Rattle.bier_forward.specs.Hops.{AreRows}
use Rattle.bier_forward.specs.Tunnels.{IsBuilt}

-- the rows of a triple
pub record HasRows (r : RouterConf) (g : List ViewNode) (t : Triple) (rows : List (List First)) : Type 0 where
  pub lists : length rows ≡ bits_of t.bsl
  pub each : AreRows r g t rows

-- at each position the router that a class selects among those of the position's list
abbrev pub Picks : ℕ → List (List First) → List (Option First) → Type 0
Picks class rows table = (p : ℕ) → 1 ≤ p → router_at table p ≡ member_at class (slice_index_or rows (p - 1) [])

-- what a class selects from the rows of a triple
pub record LeadsAs (r : RouterConf) (g : List ViewNode) (t : Triple) (class : ℕ) (table : List (Option First)) : Type 0 where
  pub rows : List (List First)
  pub are : HasRows r g t rows
  pub picks : Picks class rows table

-- The table of a triple for packets of a class: of the triple's length, built from its rows.
pub record HasTable (r : RouterConf) (g : List ViewNode) (t : Triple) (class : ℕ) (table : AnyTable) : Type 0 where
  pub size : any.bsl_of table ≡ t.bsl
  pub leads : LeadsAs r g t class (any.positions_of table)

abbrev pub IsKeptRows : RouterConf → List ViewNode → TripleRows → Type 0
IsKeptRows r g k = HasRows r g k.triple k.rows.bits

-- how many classes a period has
abbrev pub number_of : Period → ℕ
number_of One = 1
number_of Two = 2
number_of Four = 4
number_of Eight = 8
number_of Sixteen = 16

-- The class modulo the period selects the same router as the class, from a list of that size.
abbrev pub FitsSize : Period → ℕ → Type 0
FitsSize period size = (class : ℕ) → class < 16 → 0 < size → class % number_of period % size ≡ class % size

-- Classes that are the same modulo the period have the same table.
abbrev pub IsPeriod : Period → List (List First) → Type 0
IsPeriod period rows = (class : ℕ) → class < 16 → table_of rows (class % number_of period) ≡ table_of rows class

-- A cached table is that of its triple for packets of all classes that equal its own modulo its period.
abbrev pub IsKeptTable : RouterConf → List ViewNode → ClassTable → Type 0
IsKeptTable r g k = (class : ℕ) → class < 16 → class % number_of k.period ≡ k.class → HasTable r g k.triple class k.table

-- all that is cached belongs to that view
pub record AreRoutes (r : RouterConf) (g : List ViewNode) (k : Routes) : Type 0 where
  pub rows : AllByRecursion (IsKeptRows r g) k.rows.items
  pub tables : AllByRecursion (IsKeptTable r g) k.tables.items
  pub ways : IsBuilt r g k.fib
