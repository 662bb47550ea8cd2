-- The router from which a topology is seen. It has the system ID of six zeros and no interfaces, is a member of no sub-domain, and
-- knows every sub-domain, each with the MPLS encapsulation. What else it has is in no view.
use Rattle.std.specs.Prelude.{ℕ, false, List, [], ◌∷◌, map}
use Rattle.std.specs.List.{range_with_len}
use Rattle.wire_base.specs.declared.addresses.SystemId.{SystemId}
use Rattle.wire_base.specs.declared.conf.Kind.TheVariants.{Mpls}
use Rattle.wire_base.specs.declared.conf.Level.TheVariants.{One}
use Rattle.wire_base.specs.declared.conf.RouterConf.{RouterConf}
use Rattle.wire_base.specs.declared.conf.SubKind.{SubKind}

abbrev pub no_system : SystemId
no_system = record { 0 = 0 ∷ 0 ∷ 0 ∷ 0 ∷ 0 ∷ 0 ∷ [] }

abbrev pub mpls_kind : ℕ → SubKind
mpls_kind sd = record { sd = sd; kind = Mpls }

-- the first n sub-domains, with the MPLS encapsulation
unfoldable pub mpls_kinds : ℕ → List SubKind
mpls_kinds n = map mpls_kind (range_with_len 0 n)

unfoldable pub observer : RouterConf
observer =
    record {
      level = One;
      area = 73 ∷ [];
      name = 79 ∷ [];
      system = no_system;
      prefix = record { 0 = 127 ∷ 0 ∷ 0 ∷ 1 ∷ [] };
      overload = false;
      subs = [];
      away = [];
      past = [];
      kinds = mpls_kinds 256;
      table = [];
      ends = [];
    }
