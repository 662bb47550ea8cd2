-- What is kept with the rows read so far, so that a look-up does not scan them.
use Rattle.std.specs.Prelude.{◌≡◌, ℕ, Bool, ◌==◌, ◌&&◌, List}
use Rattle.std.specs.declared.cmp.Ordering.{Ordering}
use Rattle.std.specs.BTreeSet.{BTreeSet, contains}
use Rattle.std.specs.List.{list_any}
use Rattle.std.specs.Ordering.{nat_cmp, ordering_then}
use Rattle.wire_base.specs.declared.conf.TableRow.{TableRow}
use Rattle.wire_base.specs.declared.triple.Triple.{Triple}
use Rattle.wire_base.specs.model.Place.{code_of}
use Rattle.domain_conf.specs.declared.rows.TripleKey.{TripleKey}

abbrev pub key_cmp : TripleKey → TripleKey → Ordering
key_cmp x y = ordering_then (nat_cmp x.sd y.sd) (ordering_then (nat_cmp x.bsl y.bsl) (nat_cmp x.si y.si))

abbrev pub has_key : BTreeSet TripleKey → TripleKey → Bool
has_key triples key = contains key_cmp triples key

abbrev pub same_key : TripleKey → TripleKey → Bool
same_key x y = (x.sd == y.sd) && ((x.bsl == y.bsl) && (x.si == y.si))

abbrev pub key_of : Triple → TripleKey
key_of t = record { sd = t.sd; bsl = code_of t.bsl; si = t.si }

-- the sets have the triples and the BIFT-ids of the rows
pub record IsIndexed (rows : List TableRow) (triples : BTreeSet TripleKey) (bifts : BTreeSet ℕ) : Type 0 where
  pub triples_are : (key : TripleKey) → has_key triples key ≡ list_any (λ row. same_key key (key_of row.triple)) rows
  pub bifts_are : (bift : ℕ) → contains nat_cmp bifts bift ≡ list_any (λ row. bift == row.bift) rows
