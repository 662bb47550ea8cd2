-- The routers of the small domains are sound.
use Rattle.std.proofs.Common.{◌≡◌, ℕ, ◌<◌, ◌≤◌, Bool, true, List, [], ◌∷◌, length, map, refl, sym, subst, arith}
use Rattle.std.specs.List.{AllByRecursion}
use Rattle.wire_base.specs.declared.conf.OwnSub.{OwnSub}
use Rattle.wire_base.specs.declared.conf.RouterConf.{RouterConf}
use Rattle.wire_base.specs.model.Lists.{AreApart}
use Rattle.wire_base.specs.model.Configuration.{IsOctets, IsPrefix, IsStation, IsEnd, IsOwnSub, IsSound, is_name, same_sub, same_peer, same_peer_mac, share_label, sub_octets}
use Rattle.wire_base.proofs.SoundLemmas.{all_ranges, still}
use Rattle.examples_model.specs.Domains.{system, address, mac, end, sub, router, ring_a}

-- a number of an octet
abbrev pub IsNumber : ℕ → Type 0
IsNumber n = n < 256

system_fits : (n : ℕ) → IsNumber n → IsOctets 6 (system n).0
system_fits n h = record { long = refl; each = (omega arith, (omega arith, (omega arith, (omega arith, (omega arith, (h, tt)))))) }

address_fits : (n : ℕ) → IsNumber n → IsPrefix (address n).0
address_fits n h = record { octets_are = record { long = refl; each = (omega arith, (omega arith, (omega arith, (h, tt)))) }; first = omega arith; one_router = omega arith }

mac_fits : (n peer : ℕ) → IsNumber n → IsNumber peer → IsStation (mac n peer).0
mac_fits n peer h k =
    record {
      octets_are = record { long = refl; each = (omega arith, (omega arith, (omega arith, (omega arith, (omega arith, (omega arith, tt)))))) };
      one_station = refl;
    }

ends_fit : (n : ℕ) (peers : List ℕ) → IsNumber n → AllByRecursion IsNumber peers → AllByRecursion IsEnd (map (end n) peers)
ends_fit n [] h a = tt
ends_fit n (p ∷ ps) h a = (
  record {
    peer = system_fits p a.0;
    peer_mac = mac_fits p n a.0 h;
    own_mac = mac_fits n p h a.0;
    some = omega arith;
    last = omega arith;
  },
  ends_fit n ps h a.1,
)

-- what is left to say of a router
pub record Suits (letter n : ℕ) (subs : List OwnSub) (peers : List ℕ) : Type 0 where
  pub name : is_name (letter ∷ []) ≡ true
  pub number : IsNumber n
  pub few_subs : length subs ≤ 8
  pub subs_fit : AllByRecursion IsOwnSub subs
  pub subdomains : AreApart same_sub subs
  pub labels : AreApart share_label (all_ranges subs)
  pub room : sub_octets subs ≤ 245
  pub few_peers : length (map (end n) peers) ≤ 64
  pub peers_fit : AllByRecursion IsNumber peers
  pub peers_differ : AreApart same_peer (map (end n) peers)
  pub macs_differ : AreApart same_peer_mac (map (end n) peers)

pub router_sound : (letter n : ℕ) (overload : Bool) (subs : List OwnSub) (peers : List ℕ) → Suits letter n subs peers → IsSound (router letter n overload subs peers)
router_sound letter n overload subs peers s =
    let k = still subs (record { few = s.few_subs; each = s.subs_fit; apart = s.subdomains; labels = s.labels; room = s.room }) in
    record {
      area = record { some = omega arith; few = omega arith; each = (omega arith, (omega arith, (omega arith, tt))) };
      name = s.name;
      system = system_fits n s.number;
      prefix = address_fits n s.number;
      few_subs = k.few;
      subs = k.each;
      subdomains = k.apart;
      few_past = omega arith;
      past = tt;
      labels = k.labels;
      room = k.room;
      kinds = (omega arith, tt);
      kinds_once = (tt, tt);
      rows = tt;
      triples = tt;
      bifts = tt;
      few_ends = s.few_peers;
      ends = ends_fit n peers s.number s.peers_fit;
      peers = s.peers_differ;
      peer_macs = s.macs_differ;
    }

-- a place in sub-domain 0 with one label
pub sub_fits : (id label : ℕ) → id < 65536 → 16 ≤ label → label ≤ 1048575 → IsOwnSub (sub id label)
sub_fits id label a b c =
    record { sd = omega arith; id = a; few = omega arith; each = (record { max_si = omega arith; first = b; last = omega arith }, tt); lengths = (tt, tt) }

-- a router with one label and two links
pub two_links : (letter n label p q : ℕ) (overload : Bool) → is_name (letter ∷ []) ≡ true → n < 256 → 16 ≤ label → label ≤ 1048575 → p < 256 → q < 256
    → AreApart same_peer (end n p ∷ end n q ∷ []) → AreApart same_peer_mac (end n p ∷ end n q ∷ []) → IsSound (router letter n overload (sub n label ∷ []) (p ∷ q ∷ []))
unfolding sub_octets
two_links letter n label p q overload name number low high hp hq peers macs =
    router_sound letter n overload (sub n label ∷ []) (p ∷ q ∷ []) (record {
      name = name;
      number = number;
      few_subs = omega arith;
      subs_fit = (sub_fits n label (omega arith) low high, tt);
      subdomains = (tt, tt);
      labels = (tt, tt);
      room = omega arith;
      few_peers = omega arith;
      peers_fit = (hp, (hq, tt));
      peers_differ = peers;
      macs_differ = macs;
    })

pub ring_a_sound : (c : RouterConf) → c ≡ ring_a → IsSound c
ring_a_sound c same = subst IsSound (sym same) (two_links 65 1 100 2 4 _ refl (omega arith) (omega arith) (omega arith) (omega arith) (omega arith) ((refl, tt), (tt, tt)) ((refl, tt), (tt, tt)))

pub one_link : (letter n label p : ℕ) (overload : Bool) → is_name (letter ∷ []) ≡ true → n < 256 → 16 ≤ label → label ≤ 1048575 → p < 256
    → IsSound (router letter n overload (sub n label ∷ []) (p ∷ []))
unfolding sub_octets
one_link letter n label p overload name number low high hp =
    router_sound letter n overload (sub n label ∷ []) (p ∷ []) (record {
      name = name;
      number = number;
      few_subs = omega arith;
      subs_fit = (sub_fits n label (omega arith) low high, tt);
      subdomains = (tt, tt);
      labels = (tt, tt);
      room = omega arith;
      few_peers = omega arith;
      peers_fit = (hp, tt);
      peers_differ = (tt, tt);
      macs_differ = (tt, tt);
    })
