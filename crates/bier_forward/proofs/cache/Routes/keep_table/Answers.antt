use Rattle.std.proofs.Common.{List, IfSome, slice_get, sym, ap, ◌%◌, subst, ◌∙◌}
use Rattle.std.specs.List.{AllByRecursion}
use Rattle.bier_forward.specs.declared.routes.ClassTable.{ClassTable}
use Rattle.bier_forward.specs.declared.routes.TripleRows.{TripleRows}
use Rattle.bier_forward.specs.Kept.{HasRows, HasTable, IsKeptTable}
use Rattle.bier_forward.proofs.KeptLaws.{all-take, kept-from, read-at}
use Rattle.bier_forward.proofs.cache.Routes.keep_table.Goals as goal

pub returns-in-Some-clause-table : goal.returns-in-Some-clause-table
returns-in-Some-clause-table c =
    let r = c.args.conf.now in
    let g = c.args.view.now.nodes in
    let all = subst (λ (ks : List ClassTable). AllByRecursion (IsKeptTable r g) ks) (sym c.as_slice.ensures.value) c.requires.kept.tables in
    subst (λ (ks : List ClassTable). IfSome (slice_get ks c.in-Some.place) (λ k. HasTable r g c.args.triple c.args.class k.table)) c.as_slice.ensures.value (c.in-Some.ensures.table r g all)

pub build-requires-clause-lists : goal.build-requires-clause-lists
build-requires-clause-lists c =
    (read-at (λ (k : TripleRows). HasRows c.args.conf.now c.args.view.now.nodes c.args.triple k.rows.bits) c.keep_rows.new.kept.items c.in_ok-place.place c.index.result.now c.in_ok-place.ensures.within (sym c.index.ensures) c.in_ok-place.ensures.rows).lists

pub returns-clause-kept : goal.returns-clause-kept
returns-clause-kept c =
    let r = c.args.conf.now in
    let g = c.args.view.now.nodes in
    let rows = read-at (λ (k : TripleRows). HasRows r g c.args.triple k.rows.bits) c.keep_rows.new.kept.items c.in_ok-place.place c.index.result.now c.in_ok-place.ensures.within (sym c.index.ensures) c.in_ok-place.ensures.rows in
    let period = c.period_of-period.ensures in
    let table = kept-from r g c.args.triple c.period_of-period.result (c.args.class % c.number.result) c.index.result.now.rows.bits c.in_ok-table.table period rows c.in_ok-table.ensures.bsl c.in_ok-table.ensures.table in
    let old = subst (λ (ks : List ClassTable). AllByRecursion (IsKeptTable r g) ks) (sym (c.reserve_exact.ensures.items ∙ c.truncate.ensures.items)) (all-take (IsKeptTable r g) c.args.self.now.tables.items 3 c.requires.kept.tables) in
    record {
      rows = c.in_ok-place.ensures.kept;
      tables = subst (λ (ks : List ClassTable). AllByRecursion (IsKeptTable r g) ks) (sym c.in_ok-insert.ensures.items) (table, old);
      ways = c.requires.kept.ways;
    }

pub returns-clause-table : goal.returns-clause-table
returns-clause-table c =
    let r = c.args.conf.now in
    let g = c.args.view.now.nodes in
    let rows = read-at (λ (k : TripleRows). HasRows r g c.args.triple k.rows.bits) c.keep_rows.new.kept.items c.in_ok-place.place c.index.result.now c.in_ok-place.ensures.within (sym c.index.ensures) c.in_ok-place.ensures.rows in
    let period = c.period_of-period.ensures in
    let table = kept-from r g c.args.triple c.period_of-period.result (c.args.class % c.number.result) c.index.result.now.rows.bits c.in_ok-table.table period rows c.in_ok-table.ensures.bsl c.in_ok-table.ensures.table in
    subst (λ (ks : List ClassTable). IfSome (slice_get ks 0) (λ k. HasTable r g c.args.triple c.args.class k.table)) (sym c.in_ok-insert.ensures.items) (table c.args.class c.requires.class (ap (λ n. c.args.class % n) (sym c.number.ensures.value)))
