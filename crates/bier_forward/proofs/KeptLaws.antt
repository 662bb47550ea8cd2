-- What is found among what a router keeps of a view is of that view.
use Rattle.std.proofs.Common.{◌≡◌, ℕ, zero, suc, ◌<◌, ◌%◌, ◌==◌, ◌&&◌, Bool, true, false, List, [], ◌∷◌, length, get_or, take, Option, IfSome, slice_get, refl, sym, ap, subst, ◌∙◌, arith}
use Rattle.std.proofs.lemmas.Bool.{false≢true, eqb-true}
use Rattle.std.specs.List.{AllByRecursion}
use Rattle.wire_base.specs.declared.bsl.Bsl.{Bsl}
use Rattle.wire_base.specs.declared.conf.RouterConf.{RouterConf}
use Rattle.wire_base.specs.declared.triple.Triple.{Triple}
use Rattle.wire_base.specs.declared.view.ViewNode.{ViewNode}
use Rattle.wire_base.specs.model.Place.{same_triple, code_of}
use Rattle.wire_base.proofs.MeaningLemmas.{same_code}
use Rattle.wire_base.specs.declared.view.First.{First}
use Rattle.bift_table.specs.declared.any.AnyTable.{AnyTable}
use Rattle.bift_table.specs.Any.{bsl_of, positions_of}
use Rattle.bift_table.specs.Bift.{router_at, table_of}
use Rattle.bift_table.proofs.BiftLaws.{table-at}
use Rattle.bier_forward.specs.declared.routes.ClassTable.{ClassTable}
use Rattle.bier_forward.specs.declared.routes.Period.{Period}
use Rattle.bier_forward.specs.declared.routes.TripleRows.{TripleRows}
use Rattle.bier_forward.specs.Kept.{HasRows, HasTable, IsKeptRows, IsKeptTable, IsPeriod, number_of}

first-of : (a b : Bool) → (a && b) ≡ true → a ≡ true
first-of true b h = refl
first-of false b h = absurd (false≢true h)

second-of : (a b : Bool) → (a && b) ≡ true → b ≡ true
second-of true b h = h
second-of false b h = absurd (false≢true h)

pub same-triple-is : (a b : Triple) → same_triple a b ≡ true → a ≡ b
same-triple-is a b h =
    let rest : ((code_of a.bsl == code_of b.bsl) && (a.si == b.si)) ≡ true = second-of (a.sd == b.sd) _ h in
    let sd : a.sd ≡ b.sd = eqb-true a.sd b.sd (first-of (a.sd == b.sd) _ h) in
    let bsl : a.bsl ≡ b.bsl = same_code a.bsl b.bsl (eqb-true (code_of a.bsl) (code_of b.bsl) (first-of (code_of a.bsl == code_of b.bsl) _ rest)) in
    let si : a.si ≡ b.si = eqb-true a.si b.si (second-of (code_of a.bsl == code_of b.bsl) _ rest) in
    ap (λ n. record { sd = n; bsl = a.bsl; si = a.si }) sd ∙ ap (λ (l : Bsl). record { sd = b.sd; bsl = l; si = a.si }) bsl ∙ ap (λ n. record { sd = b.sd; bsl = b.bsl; si = n }) si

pub at-rows : (r : RouterConf) (g : List ViewNode) (t : Triple) (ks : List TripleRows) (i : ℕ) (k : TripleRows) → i < length ks → get_or ks i k ≡ k → same_triple k.triple t ≡ true
    → AllByRecursion (IsKeptRows r g) ks → IfSome (slice_get ks i) (λ k. HasRows r g t k.rows.bits)
at-rows r g t [] i k lt is same all = absurd (omega (arith, lt))
at-rows r g t (x ∷ xs) zero k lt is same all =
    subst (λ (s : Triple). HasRows r g s x.rows.bits) (same-triple-is x.triple t (ap (λ (y : TripleRows). same_triple y.triple t) is ∙ same)) all.0
at-rows r g t (x ∷ xs) (suc i) k lt is same all = at-rows r g t xs i k (omega (arith, lt)) is same all.1

pub at-table : (r : RouterConf) (g : List ViewNode) (t : Triple) (class : ℕ) (ks : List ClassTable) (i : ℕ) (k : ClassTable) → i < length ks → get_or ks i k ≡ k → class < 16 → same_triple k.triple t ≡ true → class % number_of k.period ≡ k.class
    → AllByRecursion (IsKeptTable r g) ks → IfSome (slice_get ks i) (λ k. HasTable r g t class k.table)
at-table r g t class [] i k lt is few same at all = absurd (omega (arith, lt))
at-table r g t class (x ∷ xs) zero k lt is few same at all =
    subst (λ (s : Triple). HasTable r g s class x.table) (same-triple-is x.triple t (ap (λ (y : ClassTable). same_triple y.triple t) is ∙ same))
    (all.0 class few (subst (λ (y : ClassTable). class % number_of y.period ≡ y.class) (sym is) at))
at-table r g t class (x ∷ xs) (suc i) k lt is few same at all = at-table r g t class xs i k (omega (arith, lt)) is few same at all.1

-- what holds of the element at a place holds of what is read there
pub read-at : {X : Type 0} → (P : X → Type 0) (xs : List X) (i : ℕ) (x : X) → i < length xs → get_or xs i x ≡ x → IfSome (slice_get xs i) P → P x
read-at P [] i x lt is h = absurd (omega (arith, lt))
read-at P (y ∷ ys) zero x lt is h = subst P is h
read-at P (y ∷ ys) (suc i) x lt is h = read-at P ys i x (omega (arith, lt)) is h

-- a table that was built from the rows of a triple
built-from : (r : RouterConf) (g : List ViewNode) (t : Triple) (class : ℕ) (rows : List (List First)) (table : AnyTable) → HasRows r g t rows → bsl_of table ≡ t.bsl → positions_of table ≡ table_of rows class → HasTable r g t class table
built-from r g t class rows table are size is =
    record {
      size = size;
      leads = record { rows = rows; are = are; picks = λ p low. ap (λ (xs : List (Option First)). router_at xs p) is ∙ table-at rows class p low };
    }

-- such a table is that of each class for which it is kept
pub kept-from : (r : RouterConf) (g : List ViewNode) (t : Triple) (p : Period) (least : ℕ) (rows : List (List First)) (table : AnyTable) → IsPeriod p rows → HasRows r g t rows → bsl_of table ≡ t.bsl → positions_of table ≡ table_of rows least
    → (class : ℕ) → class < 16 → class % number_of p ≡ least → HasTable r g t class table
kept-from r g t p least rows table period are size is class few at = built-from r g t class rows table are size (is ∙ ap (table_of rows) (sym at) ∙ period class few)

pub all-take : {X : Type 0} → (P : X → Type 0) (xs : List X) (n : ℕ) → AllByRecursion P xs → AllByRecursion P (take n xs)
all-take P [] zero all = tt
all-take P [] (suc n) all = tt
all-take P (x ∷ xs) zero all = tt
all-take P (x ∷ xs) (suc n) all = (all.0, all-take P xs n all.1)
