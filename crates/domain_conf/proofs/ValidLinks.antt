-- What holds of the links that a domain file gives.
use Rattle.std.proofs.Common.{◌≡◌, ℕ, ◌+◌, ◌<◌, ◌≤◌, Bool, true, false, cond, eqb, List, [], ◌∷◌, length, Option, Some, None, Ok, subst, arith}
use Rattle.std.proofs.lemmas.Option.{same_Some}
use Rattle.std.specs.List.{list_any, position_from}
use Rattle.std.specs.Prelude.{codes, option_and_then}
use Rattle.toml.specs.Data.{Data, get, as_str}
use Rattle.wire_base.specs.declared.addresses.Mac.{Mac}
use Rattle.wire_base.specs.model.Configuration.{IsStation}
use Rattle.domain_conf.specs.declared.fault.ConfFault.{ConfFault}
use Rattle.domain_conf.specs.declared.fault.ConfFault.TheVariants as fault
use Rattle.domain_conf.specs.declared.routers.RouterEntry.{RouterEntry}
use Rattle.domain_conf.specs.declared.links.LinkEntry.{LinkEntry}
use Rattle.domain_conf.specs.Reading.{or_fault}
use Rattle.domain_conf.specs.Fields.{known_keys, field, number, or_default}
use Rattle.domain_conf.specs.Forms.{mac_in}
use Rattle.domain_conf.specs.Routers.{has_name, place_of, known_router}
use Rattle.domain_conf.specs.Links.{made_mac, mac_or_made, same_routers, has_peer_mac, link_between, link_in}
use Rattle.domain_conf.proofs.ValidLists.{bind_ok, passed, there, ok_is}
use Rattle.domain_conf.proofs.ValidForms.{number_ok, field_ok, mac_ok, made_mac_ok}

position_within : {X : Type 0} (p : X → Bool) (i : ℕ) (xs : List X) (k : ℕ) → position_from p i xs ≡ Some k → k < i + length xs
position_within p i [] k e = absurd cc
position_within p i (x ∷ xs) k e = by (p x) e (λ f. position_within p (i + 1) xs k f)
  where
    by : (b : Bool) → cond b (Some i) (position_from p (i + 1) xs) ≡ Some k → (position_from p (i + 1) xs ≡ Some k → k < i + 1 + length xs) → k < i + length (x ∷ xs)
    by true e more = let same = same_Some i k e in omega (arith, same)
    by false e more = let h = more e in omega (arith, h)

-- a router that is named is one of the file's
pub router_within : (routers : List RouterEntry) (at : List ℕ → List ℕ) (key : List ℕ) (d : Data) (a : ℕ) → known_router routers at key d ≡ Ok a → a < length routers
unfolding known_router place_of
router_within routers at key d a e =
    let p = bind_ok (or_fault (fault.Field (at key)) (option_and_then as_str (get key d))) _ a e in
    let q = there (fault.Reference (at key)) (place_of routers p.0) a p.2 in
    let h = position_within (has_name p.0) 0 routers a q in
    omega (arith, h)

-- the address of an end, given or made
mac_here : (own peer : ℕ) (at : List ℕ → List ℕ) (key : List ℕ) (d : Data) (m : Mac) → own < 65536 → peer < 65536 → mac_or_made (made_mac own peer) at key d ≡ Ok m → IsStation m.0
mac_here own peer at key d m h k e = by (get key d) e
  where
    by : (found : Option Data) → or_default (made_mac own peer) (field as_str mac_in (at key)) found ≡ Ok m → IsStation m.0
    by None e = subst (λ (m : Mac). IsStation m.0) (ok_is (made_mac own peer) m e) (made_mac_ok own peer h k)
    by (Some x) e = let p = field_ok as_str mac_in (at key) (Some x) m e in mac_ok p.0 m p.1

pub record LinkPassed (count : ℕ) (earlier : List LinkEntry) (l : LinkEntry) : Type 0 where
  pub a : l.a < count
  pub b : l.b < count
  pub differ : eqb l.a l.b ≡ false
  pub some_ab : 1 ≤ l.metric_ab
  pub last_ab : l.metric_ab ≤ 16777214
  pub some_ba : 1 ≤ l.metric_ba
  pub last_ba : l.metric_ba ≤ 16777214
  pub mac_a : IsStation l.mac_a.0
  pub mac_b : IsStation l.mac_b.0
  pub new : list_any (same_routers l) earlier ≡ false
  pub new_a : list_any (has_peer_mac l.b l.mac_a) earlier ≡ false
  pub new_b : list_any (has_peer_mac l.a l.mac_b) earlier ≡ false

pub link_passed : (at : List ℕ → List ℕ) (routers : List RouterEntry) (earlier : List LinkEntry) (d : Data) (l : LinkEntry) → length routers ≤ 65536 → link_in at routers earlier d ≡ Ok l → LinkPassed (length routers) earlier l
unfolding link_between
link_passed at routers earlier d l few e =
    let p = bind_ok (known_keys at (codes "a" ∷ codes "b" ∷ codes "metric_ab" ∷ codes "metric_ba" ∷ codes "mac_a" ∷ codes "mac_b" ∷ []) d) _ l e in
    let a = bind_ok (known_router routers at (codes "a") d) _ l p.2 in
    let b = bind_ok (known_router routers at (codes "b") d) _ l a.2 in
    let f = bind_ok (number 1 16777214 at (codes "metric_ab") d) _ l b.2 in
    let g = bind_ok (number 1 16777214 at (codes "metric_ba") d) _ l f.2 in
    let m = bind_ok (mac_or_made (made_mac a.0 b.0) at (codes "mac_a") d) _ l g.2 in
    let n = bind_ok (mac_or_made (made_mac b.0 a.0) at (codes "mac_b") d) _ l m.2 in
    let made : LinkEntry = record { a = a.0; b = b.0; metric_ab = f.0; metric_ba = g.0; mac_a = m.0; mac_b = n.0 } in
    let w = passed (eqb a.0 b.0) (fault.Reference (at (codes "b"))) _ l n.2 in
    let x = passed (list_any (same_routers made) earlier) (fault.Duplicate (at (codes "b"))) _ l w.1 in
    let y = passed (list_any (has_peer_mac b.0 m.0) earlier) (fault.Duplicate (at (codes "mac_a"))) _ l x.1 in
    let z = passed (list_any (has_peer_mac a.0 n.0) earlier) (fault.Duplicate (at (codes "mac_b"))) _ l y.1 in
    let in_a = router_within routers at (codes "a") d a.0 a.1 in
    let in_b = router_within routers at (codes "b") d b.0 b.1 in
    let ab = number_ok 1 16777214 at (codes "metric_ab") d f.0 f.1 in
    let ba = number_ok 1 16777214 at (codes "metric_ba") d g.0 g.1 in
    subst (LinkPassed (length routers) earlier) (ok_is made l z.1) (record {
      a = in_a;
      b = in_b;
      differ = w.0;
      some_ab = ab.0;
      last_ab = ab.1;
      some_ba = ba.0;
      last_ba = ba.1;
      mac_a = mac_here a.0 b.0 at (codes "mac_a") d m.0 (omega (arith, in_a, few)) (omega (arith, in_b, few)) m.1;
      mac_b = mac_here b.0 a.0 at (codes "mac_b") d n.0 (omega (arith, in_b, few)) (omega (arith, in_a, few)) n.1;
      new = x.0;
      new_a = y.0;
      new_b = z.0;
    })
