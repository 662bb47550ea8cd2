-- What a domain file describes, or the first rule that it breaks.
use Rattle.std.specs.Prelude.{ℕ, ◌==◌, nat_lt, List, [], ◌∷◌, length, Option, Some, None, Result, Ok, Err, codes, if◌then◌else◌}
use Rattle.std.specs.Str.Lossy.{utf8_valid_len}
use Rattle.toml.specs.Data.{Data, Members, get_member, as_integer, as_str}
use Rattle.toml.specs.Parse.{parse_document}
use Rattle.wire_base.specs.declared.limits.TheConstants.{DOMAIN_FILE_LIMIT, MOST_BIER_ENTRIES, MOST_LABEL_ENTRIES, MOST_LINK_ENTRIES, MOST_ROUTERS, MOST_TABLE_ROWS}
use Rattle.wire_base.specs.declared.conf.Level.{Level}
use Rattle.wire_base.specs.declared.conf.Level.TheVariants.{Two}
use Rattle.wire_base.specs.model.Configuration.{DomainConf}
use Rattle.wire_base.specs.model.Fields.{◌>>=◌}
use Rattle.domain_conf.specs.declared.fault.ConfFault.{ConfFault}
use Rattle.domain_conf.specs.declared.fault.ConfFault.TheVariants as fault
use Rattle.domain_conf.specs.Reading.{or_fault, refuse_if}
use Rattle.domain_conf.specs.Forms.{level_in, area_in}
use Rattle.domain_conf.specs.Fields.{keys_of, unknown_in, refuse_key, field, or_default}
use Rattle.domain_conf.specs.Arrays.{array_at, entries_from}
use Rattle.domain_conf.specs.Subdomains.{subdomain_at}
use Rattle.domain_conf.specs.Rows.{row_at}
use Rattle.domain_conf.specs.Routers.{router_at}
use Rattle.domain_conf.specs.Bier.{bier_at}
use Rattle.domain_conf.specs.LabelRanges.{labels_at}
use Rattle.domain_conf.specs.Links.{link_at}
use Rattle.domain_conf.specs.declared.assemble.Entries.{Entries}
use Rattle.domain_conf.specs.Assembled.{domain_from}

-- The entries of the arrays, as tables.
pub record Arrays : Type 0 where
  pub subdomains : List Data
  pub rows : List Data
  pub routers : List Data
  pub biers : List Data
  pub labels : List Data
  pub links : List Data

abbrev pub top_keys : List (List ℕ)
top_keys = codes "level" ∷ codes "area" ∷ codes "subdomain" ∷ codes "row" ∷ codes "router" ∷ codes "bier" ∷ codes "labels" ∷ codes "link" ∷ []

-- the top table has no other keys
abbrev pub known_top : Members → Result (Unit {0}) ConfFault
known_top top = refuse_key (λ k. k) (unknown_in top_keys (keys_of top))

abbrev pub level_at : Option Data → Result Level ConfFault
level_at found = or_default Two (field as_integer level_in (codes "level")) found

-- if the file has no area, it is 49.0001
abbrev pub area_at : Option Data → Result (List ℕ) ConfFault
area_at found = or_default (73 ∷ 0 ∷ 1 ∷ []) (field as_str area_in (codes "area")) found

abbrev pub array_of : List ℕ → ℕ → Members → Result (List Data) ConfFault
array_of name most top = array_at name most (get_member name top)

-- The arrays, each an array of tables with at most its limit of entries. There is at least one router.
unfoldable pub arrays_of : Members → Result Arrays ConfFault
arrays_of top = do
  subdomains ← array_of (codes "subdomain") 8 top
  rows ← array_of (codes "row") MOST_TABLE_ROWS top
  routers ← array_of (codes "router") MOST_ROUTERS top
  _ ← refuse_if (length routers == 0) (fault.Limit (codes "router"))
  biers ← array_of (codes "bier") MOST_BIER_ENTRIES top
  labels ← array_of (codes "labels") MOST_LABEL_ENTRIES top
  links ← array_of (codes "link") MOST_LINK_ENTRIES top
  Ok (record { subdomains = subdomains; rows = rows; routers = routers; biers = biers; labels = labels; links = links })

-- the entries, array by array
unfoldable pub entries_of : Arrays → Result Entries ConfFault
entries_of arrays = do
  kinds ← entries_from subdomain_at [] 0 arrays.subdomains
  table ← entries_from (row_at kinds) [] 0 arrays.rows
  routers ← entries_from router_at [] 0 arrays.routers
  biers ← entries_from (bier_at kinds routers) [] 0 arrays.biers
  labels ← entries_from (labels_at kinds routers biers) [] 0 arrays.labels
  links ← entries_from (link_at routers) [] 0 arrays.links
  Ok (record { kinds = kinds; table = table; routers = routers; biers = biers; labels = labels; links = links })

-- what the top table describes
unfoldable pub domain_of_table : Members → Result DomainConf ConfFault
domain_of_table top = do
  _ ← known_top top
  level ← level_at (get_member (codes "level") top)
  area ← area_at (get_member (codes "area") top)
  arrays ← arrays_of top
  entries ← entries_of arrays
  domain_from level area entries

-- the table that a file contains, if it is a TOML document in UTF-8
abbrev pub document_of : List ℕ → Option Members
document_of bytes = if utf8_valid_len bytes == length bytes then parse_document bytes else None

abbrev pub document_read : List ℕ → Result Members ConfFault
document_read bytes = or_fault fault.Toml (document_of bytes)

-- What a file of at most 8 MiB describes, or the first rule that it breaks. The rules of the document come first, then
-- those of the top keys, then those of each array as a whole, then entry by entry, and last those of whole routers.
unfoldable pub domain_of : List ℕ → Result DomainConf ConfFault
domain_of bytes =
    if nat_lt DOMAIN_FILE_LIMIT (length bytes) then Err (fault.Limit (45 ∷ [])) else
    (document_read bytes >>= domain_of_table)
