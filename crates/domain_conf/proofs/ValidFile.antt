-- What a domain file says is a valid domain.
use Rattle.std.proofs.Common.{◌≡◌, ℕ, ◌≤◌, Bool, true, false, cond, eqb, ltb, List, [], ◌∷◌, length, Option, Some, None, Ok, Err, refl, subst, arith}
use Rattle.std.proofs.lemmas.Bool.{ltb-false, eqb-false}
use Rattle.std.specs.List.{AllByRecursion}
use Rattle.std.specs.Prelude.{codes}
use Rattle.toml.specs.Data.{Data, Members, get_member, as_str}
use Rattle.wire_base.specs.declared.limits.TheConstants.{DOMAIN_FILE_LIMIT, MOST_BIER_ENTRIES, MOST_LABEL_ENTRIES, MOST_LINK_ENTRIES, MOST_ROUTERS, MOST_TABLE_ROWS}
use Rattle.wire_base.specs.declared.conf.Level.{Level}
use Rattle.wire_base.specs.model.Configuration.{DomainConf, IsValid, IsArea}
use Rattle.wire_base.specs.model.Fields.{◌>>=◌}
use Rattle.domain_conf.specs.declared.fault.ConfFault.{ConfFault}
use Rattle.domain_conf.specs.declared.fault.ConfFault.TheVariants as fault
use Rattle.domain_conf.specs.Reading.{or_fault}
use Rattle.domain_conf.specs.Forms.{area_in}
use Rattle.domain_conf.specs.Fields.{keys_of, unknown_in, refuse_key}
use Rattle.domain_conf.specs.Arrays.{tables_of, if_few, array_at, entries_from}
use Rattle.domain_conf.specs.Subdomains.{subdomain_at}
use Rattle.domain_conf.specs.Rows.{row_at}
use Rattle.domain_conf.specs.Routers.{router_at}
use Rattle.domain_conf.specs.Bier.{bier_at}
use Rattle.domain_conf.specs.LabelRanges.{labels_at}
use Rattle.domain_conf.specs.Links.{link_at}
use Rattle.domain_conf.specs.declared.assemble.Entries.{Entries}
use Rattle.domain_conf.specs.Assembled.{confs_from, HasFewSubs}
use Rattle.domain_conf.specs.Domain.{Arrays, top_keys, level_at, area_at, array_of, arrays_of, entries_of, domain_of_table, document_of, domain_of}
use Rattle.domain_conf.proofs.ValidLists.{bind_ok, passed, ok_is}
use Rattle.domain_conf.proofs.ValidForms.{field_ok, area_ok}
use Rattle.domain_conf.proofs.ValidArrays.{subdomains_ok, rows_ok, routers_ok, biers_ok, labels_ok, links_ok, entries_length}
use Rattle.domain_conf.proofs.ValidDomain.{AreEntries, confs_few, domain_valid}

-- an array has at most so many entries
few_tables : (name : List ℕ) (most : ℕ) (found : Option Data) (ds : List Data) → array_at name most found ≡ Ok ds → length ds ≤ most
unfolding array_at
few_tables name most None ds e = subst (λ (ds : List Data). length ds ≤ most) (ok_is [] ds e) (omega arith)
few_tables name most (Some d) ds e =
    let p = bind_ok (or_fault (fault.Field name) (tables_of d)) (if_few name most) ds e in
    by p.0 (ltb most (length p.0)) refl p.2
  where
    by : (xs : List Data) (b : Bool) → ltb most (length xs) ≡ b → cond b (Err (fault.Limit name)) (Ok xs) ≡ Ok ds → length ds ≤ most
    by xs true is e = absurd cc
    by xs false is e = subst (λ (ds : List Data). length ds ≤ most) (ok_is xs ds e) (ltb-false most (length xs) is)

pub area_is : (found : Option Data) (area : List ℕ) → area_at found ≡ Ok area → IsArea area
area_is None area e = subst IsArea (ok_is (73 ∷ 0 ∷ 1 ∷ []) area e) (record { some = omega arith; few = omega arith; each = (omega arith, (omega arith, (omega arith, tt))) })
area_is (Some d) area e = let p = field_ok as_str area_in (codes "area") (Some d) area e in area_ok p.0 area p.1

-- What the arrays have: how many entries each has at most, and that there is a router.
pub record AreArrays (a : Arrays) : Type 0 where
  pub subdomains : length a.subdomains ≤ 8
  pub rows : length a.rows ≤ MOST_TABLE_ROWS
  pub some : 1 ≤ length a.routers
  pub routers : length a.routers ≤ MOST_ROUTERS

pub arrays_are : (top : Members) (a : Arrays) → arrays_of top ≡ Ok a → AreArrays a
unfolding arrays_of
arrays_are top a e =
    let s = bind_ok (array_of (codes "subdomain") 8 top) _ a e in
    let r = bind_ok (array_of (codes "row") MOST_TABLE_ROWS top) _ a s.2 in
    let q = bind_ok (array_of (codes "router") MOST_ROUTERS top) _ a r.2 in
    let some = passed (eqb (length q.0) 0) (fault.Limit (codes "router")) _ a q.2 in
    let b = bind_ok (array_of (codes "bier") MOST_BIER_ENTRIES top) _ a some.1 in
    let l = bind_ok (array_of (codes "labels") MOST_LABEL_ENTRIES top) _ a b.2 in
    let k = bind_ok (array_of (codes "link") MOST_LINK_ENTRIES top) _ a l.2 in
    let made : Arrays = record { subdomains = s.0; rows = r.0; routers = q.0; biers = b.0; labels = l.0; links = k.0 } in
    let none = eqb-false (length q.0) 0 some.0 in
    subst AreArrays (ok_is made a k.2) (record {
      subdomains = few_tables (codes "subdomain") 8 (get_member (codes "subdomain") top) s.0 s.1;
      rows = few_tables (codes "row") MOST_TABLE_ROWS (get_member (codes "row") top) r.0 r.1;
      some = omega (arith, none);
      routers = few_tables (codes "router") MOST_ROUTERS (get_member (codes "router") top) q.0 q.1;
    })

pub entries_are : (a : Arrays) (e : Entries) → AreArrays a → entries_of a ≡ Ok e → AreEntries e
unfolding entries_of
entries_are a e few is =
    let k = bind_ok (entries_from subdomain_at [] 0 a.subdomains) _ e is in
    let t = bind_ok (entries_from (row_at k.0) [] 0 a.rows) _ e k.2 in
    let r = bind_ok (entries_from router_at [] 0 a.routers) _ e t.2 in
    let b = bind_ok (entries_from (bier_at k.0 r.0) [] 0 a.biers) _ e r.2 in
    let l = bind_ok (entries_from (labels_at k.0 r.0 b.0) [] 0 a.labels) _ e b.2 in
    let n = bind_ok (entries_from (link_at r.0) [] 0 a.links) _ e l.2 in
    let made : Entries = record { kinds = k.0; table = t.0; routers = r.0; biers = b.0; labels = l.0; links = n.0 } in
    let kinds_long = entries_length subdomain_at [] 0 a.subdomains k.0 k.1 in
    let rows_long = entries_length (row_at k.0) [] 0 a.rows t.0 t.1 in
    let routers_long = entries_length router_at [] 0 a.routers r.0 r.1 in
    subst AreEntries (ok_is made e n.2) (record {
      kinds = subdomains_ok a.subdomains k.0 k.1;
      few_kinds = omega (arith, kinds_long, few.subdomains);
      rows = rows_ok k.0 a.rows t.0 t.1;
      few_rows = omega (arith, rows_long, few.rows);
      routers = routers_ok a.routers r.0 r.1;
      some = omega (arith, routers_long, few.some);
      few = omega (arith, routers_long, few.routers);
      biers = biers_ok k.0 r.0 a.biers b.0 b.1;
      labels = labels_ok k.0 r.0 b.0 a.labels l.0 l.1;
      links = links_ok r.0 a.links n.0 (omega (arith, routers_long, few.routers)) n.1;
    })

-- what the configurations of the entries stay within
pub few_subs : (level : Level) (area : List ℕ) (top : Members) (a : Arrays) (e : Entries) → area_at (get_member (codes "area") top) ≡ Ok area → arrays_of top ≡ Ok a → entries_of a ≡ Ok e → AllByRecursion HasFewSubs (confs_from level area e 0 e.routers)
few_subs level area top a e p q r = confs_few level area (area_is (get_member (codes "area") top) area p) e (entries_are a e (arrays_are top a q) r)

-- The domain of a file is valid.
pub domain_is_valid : (bytes : List ℕ) (d : DomainConf) → domain_of bytes ≡ Ok d → IsValid d
unfolding domain_of domain_of_table
domain_is_valid bytes d e = by (ltb DOMAIN_FILE_LIMIT (length bytes)) e
  where
    table_valid : (top : Members) → domain_of_table top ≡ Ok d → IsValid d
    table_valid top e =
        let u = bind_ok (refuse_key (λ k. k) (unknown_in top_keys (keys_of top))) _ d e in
        let level = bind_ok (level_at (get_member (codes "level") top)) _ d u.2 in
        let area = bind_ok (area_at (get_member (codes "area") top)) _ d level.2 in
        let a = bind_ok (arrays_of top) _ d area.2 in
        let n = bind_ok (entries_of a.0) _ d a.2 in
        domain_valid level.0 area.0 (area_is (get_member (codes "area") top) area.0 area.1) n.0 (entries_are a.0 n.0 (arrays_are top a.0 a.1) n.1) d n.2

    by : (b : Bool) → cond b (Err (fault.Limit (45 ∷ []))) (or_fault fault.Toml (document_of bytes) >>= domain_of_table) ≡ Ok d → IsValid d
    by true e = absurd cc
    by false e = let p = bind_ok (or_fault fault.Toml (document_of bytes)) domain_of_table d e in table_valid p.0 p.2
