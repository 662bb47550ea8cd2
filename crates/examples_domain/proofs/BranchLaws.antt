-- The domain at rest is truthful, and its routers agree.
use Rattle.std.proofs.Common.{◌≡◌, ◌<◌, true, false, [], ◌∷◌, length, map, Some, refl, arith}
use Rattle.std.specs.List.{AllByRecursion}
use Rattle.std.proofs.lemmas.Bool.{leb-true}
use Rattle.wire_base.specs.declared.limits.TheConstants.{REFRESH_LIFE}
use Rattle.wire_base.specs.declared.conf.RouterConf.{RouterConf}
use Rattle.wire_base.specs.declared.entry.Entry.{Entry}
use Rattle.wire_base.specs.model.Configuration.{IsConsistent, IsSound, IsValid, KeepsKinds, sub_octets}
use Rattle.wire_base.specs.model.Control.{own_entry_in, IsFlood}
use Rattle.wire_base.specs.model.OwnLsp.{own_lsp, own_content}
use Rattle.laws_router.specs.State.{IsShort}
use Rattle.domain_model.specs.Truth.{IsAmong, IsTrueEntry, IsTrueControl, IsTrueItem, IsTruthful}
use Rattle.domain_model.specs.World.{peer_place}
use Rattle.domain_model.proofs.EachLaws.{each_got}
use Rattle.domain_model.proofs.FloodTruth.{own_true}
use Rattle.laws_router.specs.Becoming.{IsEarlier}
use Rattle.laws_router.proofs.DomainLaws.{become_self}
use Rattle.laws_router.proofs.MeaningLaws.{earlier_self}
use Rattle.examples_model.proofs.Validity.{router_sound, two_links, one_link}
use Rattle.laws_ledger.proofs.RunLaws.{none_queued}
use Rattle.examples_domain.specs.Branch.{branch_a, branch_b, branch_p, branch_c, branch, lsp_of, lsps, rest, at_rest}

-- ---- the domain

p_sound : IsSound branch_p
unfolding sub_octets
p_sound = router_sound 80 3 false [] (1 ∷ 4 ∷ []) (record {
  name = refl;
  number = omega arith;
  few_subs = omega arith;
  subs_fit = tt;
  subdomains = tt;
  labels = tt;
  room = omega arith;
  few_peers = omega arith;
  peers_fit = (omega arith, (omega arith, tt));
  peers_differ = ((refl, tt), (tt, tt));
  macs_differ = ((refl, tt), (tt, tt));
})

consistent : IsConsistent branch
consistent = record {
  some = omega arith;
  few = omega arith;
  sound = (
    two_links 65 1 100 2 3 _ refl (omega arith) (omega arith) (omega arith) (omega arith) (omega arith) ((refl, tt), (tt, tt)) ((refl, tt), (tt, tt)),
    (one_link 66 2 200 1 _ refl (omega arith) (omega arith) (omega arith) (omega arith), (p_sound, (one_link 67 4 400 3 _ refl (omega arith) (omega arith) (omega arith) (omega arith), tt))),
  );
  few_kinds = (omega arith, (omega arith, (omega arith, (omega arith, tt))));
  few_rows = (omega arith, (omega arith, (omega arith, (omega arith, tt))));
  names = ((refl, (refl, (refl, tt))), ((refl, (refl, tt)), ((refl, tt), (tt, tt))));
  systems = ((refl, (refl, (refl, tt))), ((refl, (refl, tt)), ((refl, tt), (tt, tt))));
  prefixes = ((refl, (refl, (refl, tt))), ((refl, (refl, tt)), ((refl, tt), (tt, tt))));
  alike = (record { level = refl; area = refl; kinds = refl; table = refl }, (record { level = refl; area = refl; kinds = refl; table = refl }, (record { level = refl; area = refl; kinds = refl; table = refl }, tt)));
  kinds = (record { subs = (tt, tt); rows = tt }, (record { subs = (tt, tt); rows = tt }, (record { subs = tt; rows = tt }, (record { subs = (tt, tt); rows = tt }, tt))));
  links = (record { a = omega arith; b = omega arith; differ = refl }, (record { a = omega arith; b = omega arith; differ = refl }, (record { a = omega arith; b = omega arith; differ = refl }, tt)));
  links_once = ((refl, (refl, tt)), ((refl, tt), (tt, tt)));
  ends = (
    (((refl, (refl, refl))), ((refl, (refl, refl)), tt)),
    (((refl, (refl, refl)), tt), ((((refl, (refl, refl))), ((refl, (refl, refl)), tt)), (((refl, (refl, refl)), tt), tt))),
  );
}

pub branch_valid : IsValid branch
branch_valid = record {
  consistent = consistent;
  unchanged = (record { away = refl; past = refl }, (record { away = refl; past = refl }, (record { away = refl; past = refl }, (record { away = refl; past = refl }, tt))));
}

-- ---- LSDBs

among_a : IsAmong branch.routers branch_a
among_a = record { place = 0; there = refl }

among_b : IsAmong branch.routers branch_b
among_b = record { place = 1; there = refl }

among_p : IsAmong branch.routers branch_p
among_p = record { place = 2; there = refl }

among_c : IsAmong branch.routers branch_c
among_c = record { place = 3; there = refl }

-- each is configured as in the domain file
own_earlier : (r : RouterConf) → IsAmong branch.routers r → IsEarlier r r
own_earlier r among = earlier_self r (each_got IsSound branch.routers among.place r consistent.sound among.there) (each_got KeepsKinds branch.routers among.place r consistent.kinds among.there)

entries_true : AllByRecursion (IsTrueEntry branch.routers) lsps
entries_true = (
  own_true branch.routers branch_a (true ∷ true ∷ []) 1 among_a (own_earlier branch_a among_a) refl (omega arith) (omega arith),
  (
    own_true branch.routers branch_b (true ∷ []) 1 among_b (own_earlier branch_b among_b) refl (omega arith) (omega arith),
    (own_true branch.routers branch_p (true ∷ true ∷ []) 1 among_p (own_earlier branch_p among_p) refl (omega arith) (omega arith), (own_true branch.routers branch_c (true ∷ []) 1 among_c (own_earlier branch_c among_c) refl (omega arith) (omega arith), tt)),
  ),
)

shorts : AllByRecursion IsShort lsps
unfolding own_lsp own_content
shorts = (leb-true _ _ refl, (leb-true _ _ refl, (leb-true _ _ refl, (leb-true _ _ refl, tt))))

control_true : (r : RouterConf) → IsAmong branch.routers r → IsSound r → IsFlood (rest r).flood → length (rest r).flood.up ≡ length r.ends → (e : Entry) × (own_entry_in (rest r) ≡ Some e) × (REFRESH_LIFE < e.life) → IsTrueControl branch.routers (rest r)
unfolding own_lsp
control_true r among sound flood links own = record {
  among = among;
  kept = record {
    control = record { flood = flood; entries = record { few = omega arith; in_order = ((refl, (refl, (refl, tt))), ((refl, (refl, tt)), ((refl, tt), (tt, tt)))) }; own = refl; links = links; flagged = tt };
    sound = sound;
    short = shorts;
    own = λ s. (own.0, (own.1, own.2));
  };
  entries = entries_true;
  unsent = λ id link none. refl;
}

controls : AllByRecursion (IsTrueControl branch.routers) (map rest branch.routers)
unfolding own_lsp
controls =
    let sound = consistent.sound in (
      control_true branch_a among_a sound.0 (record { few = omega arith; due_up = tt; rows = tt; in_order = tt }) refl (lsp_of branch_a, refl, omega arith),
      (
        control_true branch_b among_b sound.1.0 (record { few = omega arith; due_up = tt; rows = tt; in_order = tt }) refl (lsp_of branch_b, refl, omega arith),
        (
          control_true branch_p among_p sound.1.1.0 (record { few = omega arith; due_up = tt; rows = tt; in_order = tt }) refl (lsp_of branch_p, refl, omega arith),
          (control_true branch_c among_c sound.1.1.1.0 (record { few = omega arith; due_up = tt; rows = tt; in_order = tt }) refl (lsp_of branch_c, refl, omega arith), tt),
        ),
      ),
    )

pub rest_true : IsTruthful at_rest
rest_true = record {
  valid = branch_valid;
  now = consistent;
  become = become_self branch.routers;
  controls = controls;
  queues = refl;
  items = λ a link. none_queued (IsTrueItem branch.routers 0 (peer_place branch.routers a link)) branch.routers a link;
  injections = omega arith;
  events = omega arith;
}
