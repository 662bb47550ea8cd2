-- The links of the generated domain: a ring, and chords from every fifth router.
use Rattle.std.specs.Prelude.{ℕ, ◌+◌, ◌/◌, ◌%◌, Bool, ◌==◌, List, [], ◌∷◌, ◌++◌, map, filter, if◌then◌else◌}
use Rattle.std.specs.List.{fold, list_any, range_with_len}
use Rattle.wire_base.specs.declared.conf.LinkConf.{LinkConf}
use Rattle.wire_base.specs.model.Configuration.{same_pair}
use Rattle.grown_domain.specs.declared.links.Link.{Link}

-- the routers that a link joins
abbrev pub joined : Link → LinkConf
joined l = record { a = l.a; b = l.b }

-- whether two links join the same two routers
abbrev pub joins_same : Link → Link → Bool
joins_same l m = same_pair (joined l) (joined m)

-- of n routers, from router i to the next one, and from the last one to the first
abbrev pub ring_link : ℕ → ℕ → Link
ring_link n i = record { a = i; b = (i + 1) % n; metric = 10 }

unfoldable pub ring : ℕ → List Link
ring n = map (ring_link n) (range_with_len 0 n)

-- from router i to the one halfway around the ring
abbrev pub chord : ℕ → ℕ → Link
chord n i = record { a = i; b = (i + n / 2) % n; metric = 25 }

abbrev pub is_fifth : ℕ → Bool
is_fifth i = i % 5 == 0

-- one more link, if no link joins its two routers
unfoldable pub with_link : List Link → Link → List Link
with_link links l = if list_any (joins_same l) links then links else links ++ l ∷ []

-- the ring, and then a chord from each router whose number is a multiple of five
unfoldable pub grown_links : ℕ → List Link
grown_links n = fold with_link (ring n) (map (chord n) (filter is_fifth (range_with_len 0 n)))
