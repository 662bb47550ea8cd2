-- Whether a world is quiet, or the first reason why not (ISO/IEC 10589, 7.3.15 to 7.3.17).
use Rattle.std.specs.Prelude.{ℕ, ◌+◌, Bool, true, false, List, [], ◌∷◌, unwrap_or, Option, Some, None, if◌then◌else◌}
use Rattle.std.specs.Option.{option_or}
use Rattle.wire_base.specs.declared.addresses.LspId.{LspId}
use Rattle.wire_base.specs.declared.conf.LinkConf.{LinkConf}
use Rattle.wire_base.specs.model.Control.{Control}
use Rattle.quiet_domain.specs.Live.{first_difference}
use Rattle.quiet_domain.specs.declared.answer.Quiet.{Quiet}
use Rattle.quiet_domain.specs.declared.answer.Quiet.TheVariants.{Yes, Spent, Half, Data}
use Rattle.domain_model.specs.Faults.{is_up_toward}
use Rattle.domain_model.specs.World.{WorldState}
use Rattle.laws_quiet.specs.Quiet.{lsdb_at}

-- the first router whose sequence number space is exhausted, among routers whose indices begin at a
abbrev pub spent_from : ℕ → List Control → Option Quiet
spent_from a [] = None
spent_from a (c ∷ cs) = if c.spent then Some (Spent a) else spent_from (a + 1) cs

-- the LSDBs at the two ends of a link that is up differ at that LSP ID
abbrev pub data_reason : LinkConf → Option LspId → Option Quiet
data_reason l None = None
data_reason l (Some id) = Some (Data l.a l.b id)

-- why a link is not quiet: whether each of its interfaces is up, and the least difference of the LSDBs
abbrev pub link_reason : LinkConf → Bool → Bool → Option LspId → Option Quiet
link_reason l true true difference = data_reason l difference
link_reason l true false difference = Some (Half l.a l.b)
link_reason l false true difference = Some (Half l.a l.b)
link_reason l false false difference = None

abbrev pub reason_at : WorldState → LinkConf → Option Quiet
reason_at w l = link_reason l (is_up_toward w l.a l.b) (is_up_toward w l.b l.a) (first_difference (lsdb_at w l.a) (lsdb_at w l.b))

-- the reason of the first link that has one
abbrev pub links_reason : WorldState → List LinkConf → Option Quiet
links_reason w [] = None
links_reason w (l ∷ ls) = option_or (reason_at w l) (links_reason w ls)

-- A router whose sequence number space is exhausted comes first, then the links in the order of the domain.
unfoldable pub quiet_of : WorldState → Quiet
quiet_of w = unwrap_or (option_or (spent_from 0 w.routers) (links_reason w w.domain.links)) Yes
