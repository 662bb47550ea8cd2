-- Where the octets of an LSP's content are stored.
use Rattle.std.specs.Prelude.{List, [], ℕ}
use Rattle.wire_base.specs.declared.content.Held.{Held}
use Rattle.wire_base.specs.declared.content.Held.TheVariants.{Empty, Shared}

-- the octets of the content
abbrev pub octets_of : Held → List ℕ
octets_of Empty = []
octets_of (Shared shared) = shared.value.items
