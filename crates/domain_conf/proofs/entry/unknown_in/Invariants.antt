use Rattle.std.proofs.Common.{◌≡◌, map}
use Rattle.std.specs.List.Sorted.{IsStrictlySortedBy}
use Rattle.std.specs.Map.{keys_of}
use Rattle.std.specs.String.{string_cmp}
use Rattle.toml.specs.View.{table_view, members_view}
use Rattle.domain_conf.specs.Fields as fields
use Rattle.domain_conf.proofs.entry.unknown_in.Given as goal

-- no key so far is unknown, and the rest ascend
abbrev pub invariant-loop-key : goal.invariant-loop-key
invariant-loop-key l =
    (fields.unknown_in (map (λ k. k.now) l.known) (fields.keys_of (members_view l.key-iterator)) ≡ fields.unknown_in (map (λ k. k.now) l.known) (fields.keys_of (table_view l.table)))
    × IsStrictlySortedBy string_cmp (keys_of l.key-iterator)
