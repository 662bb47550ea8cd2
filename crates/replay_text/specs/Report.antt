-- What the reports of all commands share: lines of words; and the causes of drops: a keyword and, if a parser rejected
-- octets, the number of its rule.
use Rattle.std.specs.Prelude.{ℕ, List, [], ◌∷◌, ◌++◌, codes}
use Rattle.std.specs.Fmt.{decimal}
use Rattle.wire_base.specs.declared.cause.Cause.{Cause}
use Rattle.wire_base.specs.declared.cause.Cause.TheVariants as cause
use Rattle.wire_base.specs.model.Faults.{head_number, frame_number, ip_number, pdu_number}

-- A line is words separated by one space each, and LF.
abbrev pub line_of : List (List ℕ) → List ℕ
line_of [] = 10 ∷ []
line_of (word ∷ []) = word ++ 10 ∷ []
line_of (word ∷ next ∷ more) = word ++ 32 ∷ line_of (next ∷ more)

abbrev pub cause_text : Cause → List ℕ
cause_text cause.NoRow = codes "none"
cause_text cause.Ttl = codes "ttl"
cause_text cause.Label = codes "label"
cause_text (cause.Head fault) = codes "head-" ++ decimal (head_number fault)
cause_text (cause.Frame fault) = codes "frame-" ++ decimal (frame_number fault)
cause_text (cause.Ip fault) = codes "ip-" ++ decimal (ip_number fault)
cause_text (cause.Pdu fault) = codes "pdu-" ++ decimal (pdu_number fault)
cause_text cause.Outer = codes "outer"
cause_text cause.Route = codes "route"
cause_text cause.Lost = codes "lost"
cause_text cause.Link = codes "link"
cause_text cause.Sequence = codes "sequence"
cause_text cause.Full = codes "full"
