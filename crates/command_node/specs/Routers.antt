-- The router that an argument names.
use Rattle.std.specs.Prelude.{ℕ, ◌≡◌, Bool, List, Option, Some, Ok, codes}
use Rattle.std.specs.List.{find}
use Rattle.std.specs.Str.{bytes_eq}
use Rattle.wire_base.specs.declared.conf.RouterConf.{RouterConf}
use Rattle.wire_base.specs.model.Configuration.{DomainConf}
use Rattle.domain_conf.specs.Domain.{domain_of}
use Rattle.command_node.specs.DomainFile.{Says}

abbrev pub has_name : List ℕ → RouterConf → Bool
has_name word r = bytes_eq r.name word

-- The router with that name. The names in a valid domain differ.
unfoldable pub router_named : DomainConf → List ℕ → Option RouterConf
router_named d word = find (has_name word) d.routers

-- the line if there is none: the rule that a reference must name something that exists has the number 6
abbrev pub no_router_text : List ℕ
no_router_text = codes "refused conf 6 Reference words[2]\n"

-- What a source may have held describes a domain in which that router has that name.
abbrev pub SaysRouter : Option (List ℕ) → (word : List ℕ) → RouterConf → Type 0
SaysRouter left word own = (domain : DomainConf) × Says left domain × (router_named domain word ≡ Some own)

-- a valid domain file whose domain has a router with that name
pub record HasRouter (file word : List ℕ) : Type 0 where
  pub domain : DomainConf
  pub says : domain_of file ≡ Ok domain
  pub own : RouterConf
  pub named : router_named domain word ≡ Some own
