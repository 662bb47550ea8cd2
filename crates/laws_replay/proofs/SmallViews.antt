-- A topology that a router's LSDB describes has no more nodes than the domain has routers, so that in a small domain no tunnel is too
-- long.
use Rattle.std.proofs.Common.{◌≡◌, ℕ, zero, suc, ◌<◌, ◌≤◌, ◌&&◌, not, Bool, true, false, if◌then◌else◌, List, [], ◌∷◌, length, map, filter, fold, slice_get, Some, inl, inr, refl, sym, ap, ◌∙◌, arith}
use Rattle.std.specs.Prelude.{◌⊎◌}
use Rattle.std.specs.List.{AllByRecursion}
use Rattle.std.proofs.lemmas.List.{length-map}
use Rattle.std.proofs.lemmas.Option.{same_Some}
use Rattle.wire_base.specs.declared.addresses.SystemId.{SystemId}
use Rattle.wire_base.specs.declared.addresses.LspId.{LspId}
use Rattle.wire_base.specs.declared.conf.RouterConf.{RouterConf}
use Rattle.wire_base.specs.declared.entry.Entry.{Entry}
use Rattle.wire_base.specs.model.Control.{AreAscending, Control, fragment_0, ids_of, is_below, same_system}
use Rattle.wire_base.specs.model.View.{claim_of, claims_of, is_other, node_of, own_claim, put_claim, view_of, control_view, with_known}
use Rattle.wire_base.specs.declared.triple.Triple.{Triple}
use Rattle.wire_base.specs.model.Configuration.{DomainConf, IsValid}
use Rattle.wire_base.specs.model.HopCount.{hops, tunnel_links, CoversPath}
use Rattle.wire_base.specs.model.OnFrame.{outer_ttl}
use Rattle.wire_base.specs.model.Walk.{dist}
use Rattle.replay_text.specs.declared.event.Event.{Event}
use Rattle.domain_model.specs.Run.{Run, first_run, goes_on, run_of}
use Rattle.domain_model.specs.Step.{happens}
use Rattle.domain_model.proofs.WorldTruth.{happens_true, first_true}
use Rattle.laws_ledger.specs.Runs.{AreAllowed, unlined}
use Rattle.laws_ledger.proofs.RunLaws.{next_truth, next_allowed}
use Rattle.laws_course.specs.Course.{own_node}
use Rattle.laws_course.proofs.KnownLaws.{known_of, length_put}
use Rattle.laws_course.proofs.OnceLaws.{truth_on}
use Rattle.laws_course.proofs.TunnelLaws.{small_covers}
use Rattle.laws_route.proofs.RouteLemmas.{tunnel_links-some}
use Rattle.domain_model.specs.World.{WorldState, first_world}
use Rattle.laws_router.proofs.DomainLaws.{same_stripped, length_stripped}
use Rattle.domain_model.specs.Truth.{IsAmong, IsOwnLsp, IsDeadLsp, IsTrueEntry, IsTrueControl, IsTruthful, confs_now, domain_now, head_of}
use Rattle.domain_model.proofs.DomainLaws.{bytes_from}
use Rattle.domain_model.proofs.EachLaws.{each_got, each_kept, each_both, each_passing, each_weaker}
use Rattle.domain_model.proofs.NamedLaws.{entries_few}

-- ---- lists

-- what passes a test is among what passes it
still_among : (p : RouterConf → Bool) (confs : List RouterConf) (r : RouterConf) (place : ℕ) → slice_get confs place ≡ Some r → p r ≡ true → IsAmong (filter p confs) r
still_among p [] r place at passes = cc
still_among p (q ∷ confs) r zero at passes =
    let same : q ≡ r = same_Some q r at in
    let is : p q ≡ true = ap p same ∙ passes in
    rw is (record { place = 0; there = at })
still_among p (q ∷ confs) r (suc place) at passes = by (p q) (still_among p confs r place at passes)
  where
    by : (b : Bool) → IsAmong (filter p confs) r → IsAmong (if b then q ∷ filter p confs else filter p confs) r
    by true more = record { place = suc more.place; there = more.there }
    by false more = more

-- one that doesn't pass is gone
one_gone : (p : RouterConf → Bool) (confs : List RouterConf) (r : RouterConf) (place : ℕ) → slice_get confs place ≡ Some r → p r ≡ false → length (filter p confs) < length confs
one_gone p [] r place at fails = cc
one_gone p (q ∷ confs) r zero at fails =
    let is : p q ≡ false = ap p (same_Some q r at) ∙ fails in
    rw is (let few = fewer confs in omega (arith, few))
  where
    fewer : (xs : List RouterConf) → length (filter p xs) ≤ length xs
    fewer [] = omega arith
    fewer (x ∷ xs) = by (p x) (fewer xs)
      where
        by : (b : Bool) → length (filter p xs) ≤ length xs → length (if b then x ∷ filter p xs else filter p xs) ≤ length (x ∷ xs)
        by true more = omega (arith, more)
        by false more = omega (arith, more)
one_gone p (q ∷ confs) r (suc place) at fails = by (p q) (one_gone p confs r place at fails)
  where
    by : (b : Bool) → length (filter p confs) < length confs → length (if b then q ∷ filter p confs else filter p confs) < length (q ∷ confs)
    by true more = omega (arith, more)
    by false more = omega (arith, more)

below_kept : (p : Entry → Bool) (x : LspId) (es : List Entry) → AllByRecursion (λ i. is_below x i ≡ true) (ids_of es) → AllByRecursion (λ i. is_below x i ≡ true) (ids_of (filter p es))
below_kept p x [] all = tt
below_kept p x (e ∷ es) all = by (p e) (below_kept p x es all.1)
  where
    by : (b : Bool) → AllByRecursion (λ i. is_below x i ≡ true) (ids_of (filter p es)) → AllByRecursion (λ i. is_below x i ≡ true) (ids_of (if b then e ∷ filter p es else filter p es))
    by true more = (all.0, more)
    by false more = more

kept_order : (p : Entry → Bool) (es : List Entry) → AreAscending (ids_of es) → AreAscending (ids_of (filter p es))
kept_order p [] asc = tt
kept_order p (e ∷ es) asc = by (p e) (kept_order p es asc.1)
  where
    by : (b : Bool) → AreAscending (ids_of (filter p es)) → AreAscending (ids_of (if b then e ∷ filter p es else filter p es))
    by true more = (below_kept p e.id es asc.0, more)
    by false more = more

-- ---- the entries of other routers

abbrev is_elsewhere : SystemId → RouterConf → Bool
is_elsewhere own r = not (same_system r.system own)

first_holds : (a b : Bool) → (a && b) ≡ true → a ≡ true
first_holds true b h = refl
first_holds false b h = h

elsewhere : (own : SystemId) (confs : List RouterConf) (e : Entry) → IsTrueEntry confs e → is_other own e ≡ true → IsTrueEntry (filter (is_elsewhere own) confs) e
elsewhere own confs e true_entry other = record {
  named = record { router = true_entry.named.router; among = among true_entry.named.router true_entry.named.among true_entry.named.is; is = true_entry.named.is };
  seq = true_entry.seq;
  says = says true_entry.says;
}
  where
    passes : not (same_system e.id.system own) ≡ true
    passes = first_holds (not (same_system e.id.system own)) _ other

    among : (r : RouterConf) → IsAmong confs r → e.id ≡ fragment_0 r.system → IsAmong (filter (is_elsewhere own) confs) r
    among r there is = still_among (is_elsewhere own) confs r there.place there.there (ap (λ (i : LspId). not (same_system i.system own)) (sym is) ∙ passes)

    says : IsOwnLsp confs (head_of e) e.content ⊎ IsDeadLsp (head_of e) e.content → IsOwnLsp (filter (is_elsewhere own) confs) (head_of e) e.content ⊎ IsDeadLsp (head_of e) e.content
    says (inl l) = inl (record { now = l.now; among = among l.now l.among (l.is ∙ ap (λ (r : RouterConf). fragment_0 r.system) l.earlier.one); router = l.router; earlier = l.earlier; is = l.is; up = l.up; ends = l.ends; content = l.content; flags = l.flags; sum = l.sum; live = l.live; fresh = l.fresh; some = l.some })
    says (inr dead) = inr dead

others_few : (own : RouterConf) (place : ℕ) (confs : List RouterConf) (es : List Entry) → slice_get confs place ≡ Some own → AreAscending (ids_of es) → AllByRecursion (IsTrueEntry confs) es
    → length (filter (is_other own.system) es) < length confs
others_few own place confs es there asc all =
    let p = is_other own.system in
    let both = each_both (IsTrueEntry confs) (λ e. p e ≡ true) (filter p es) (each_kept (IsTrueEntry confs) p es all) (each_passing p es) in
    let true_there = each_weaker _ (IsTrueEntry (filter (is_elsewhere own.system) confs)) (λ e h. elsewhere own.system confs e h.0 h.1) (filter p es) both in
    let few = entries_few (filter (is_elsewhere own.system) confs) (filter p es) (kept_order p es asc) true_there in
    let itself : is_elsewhere own.system own ≡ false = ap not (bytes_from own.system.0 own.system.0 refl) in
    let gone = one_gone (is_elsewhere own.system) confs own place there itself in
    omega (arith, few, gone)

view_length : (r : RouterConf) (up : List Bool) (entries : List Entry) → length (view_of r up entries) ≡ suc (length (filter (is_other r.system) entries))
unfolding view_of claims_of
view_length r up entries =
    let others = filter (is_other r.system) entries in
    let known = map (with_known r.kinds) (put_claim (own_claim r up) (map (claim_of entries) others)) in
    length-map known (node_of known) ∙ length-map (put_claim (own_claim r up) (map (claim_of entries) others)) (with_known r.kinds)
    ∙ length_put (own_claim r up) (map (claim_of entries) others) ∙ ap suc (length-map others (claim_of entries))

pub view_small : (w : WorldState) (a : ℕ) (c : Control) → IsTruthful w → slice_get w.routers a ≡ Some c → length (control_view c) ≤ length w.domain.routers
view_small w a c truth at =
    let t = each_got (IsTrueControl (confs_now w)) w.routers a c truth.controls at in
    let few = others_few c.conf t.among.place (confs_now w) c.entries t.among.there t.kept.control.entries.in_order t.entries in
    let nodes = view_length c.conf c.flood.up c.entries in
    let long = length_stripped w.domain.routers (confs_now w) (same_stripped w.domain.routers (confs_now w) truth.become) in
    omega (arith, few, nodes, long)

-- so a tunnel to a node that a path leads to has fewer links than there are routers
pub tunnel_short : (w : WorldState) (a : ℕ) (c : Control) (u x n : ℕ) → IsTruthful w → slice_get w.routers a ≡ Some c → u < length (control_view c) → dist (control_view c) u x ≡ Some n
    → (h : ℕ) × (tunnel_links (control_view c) x u ≡ Some h) × (h < length w.domain.routers)
tunnel_short w a c u x n truth at within path =
    let t = each_got (IsTrueControl (confs_now w)) w.routers a c truth.controls at in
    let known = known_of (domain_now w) truth.now c t in
    let arrives = tunnel_links-some (control_view c) known.graph x u n within path in
    let small = view_small w a c truth at in
    let below = arrives.2 in
    (arrives.0, arrives.1, omega (arith, below, small))

-- ---- runs of small domains

domain_next : (r : Run) (e : ℕ × Event) → (goes_on r e).world.domain ≡ (happens r.world e.1).world.domain
unfolding goes_on
domain_next r e = refl

-- a run keeps its domain
domain_on : (es : List (ℕ × Event)) (r : Run) → IsTruthful r.world → AreAllowed r.world (unlined es) → (fold goes_on r es).world.domain ≡ r.world.domain
domain_on [] r truth all = refl
domain_on (e ∷ es) r truth all =
    let kept = happens_true r.world e.1 truth all.0 all.1 in
    domain_on es (goes_on r e) (next_truth r e truth all.0 all.1) (next_allowed r e (unlined es) all.2) ∙ domain_next r e ∙ kept.domain

-- a run of a domain of at most 255 routers: a TTL covers a path where it is at least the number of hops
pub run_covers : (d : DomainConf) (es : List (ℕ × Event)) (a : ℕ) (c : Control) (t : Triple) (class k ttl n : ℕ) → IsValid d → AreAllowed (first_world d) (unlined es) → length d.routers ≤ outer_ttl → slice_get (run_of d es).world.routers a ≡ Some c
    → hops (control_view c) c.conf.kinds c.conf.table t class k (own_node c) ≡ Some n → n ≤ ttl → CoversPath (control_view c) c.conf.kinds c.conf.table t (own_node c) class k ttl
unfolding run_of first_run first_world
run_covers d es a c t class k ttl n valid allowed small at is enough =
    let truth = truth_on es (first_run d) (first_true d valid) allowed in
    let most = view_small (run_of d es).world a c truth at in
    let routers = ap (λ (x : DomainConf). length x.routers) (domain_on es (first_run d) (first_true d valid) allowed) in
    small_covers (control_view c) c.conf.kinds c.conf.table t (own_node c) class k ttl n (omega (arith, most, routers, small)) is enough
