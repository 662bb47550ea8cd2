-- Whether there is anything to send on a link, by kind.
use Rattle.std.specs.Prelude.{ℕ, Bool, false, List, slice_index_or}
use Rattle.std.specs.List.{list_any}
use Rattle.wire_base.specs.model.Control.{FlagRow}

-- whether some row has a flag for a link, of the kind that the function reads from a row
abbrev pub has_flag : (FlagRow → List Bool) → List FlagRow → ℕ → Bool
has_flag flags rows link = list_any (λ row. slice_index_or (flags row) link false) rows

-- whether the LSP of some LSP ID is to be sent on a link
abbrev pub has_srm : List FlagRow → ℕ → Bool
has_srm rows link = has_flag (λ row. row.srm) rows link

-- whether that of some LSP ID is to be acknowledged or requested there
abbrev pub has_ssn : List FlagRow → ℕ → Bool
has_ssn rows link = has_flag (λ row. row.ssn) rows link
