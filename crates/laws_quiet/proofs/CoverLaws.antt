-- In a quiet domain a packet is delivered to each BFR-id that it reaches.
use Rattle.std.proofs.Common.{◌≡◌, ℕ, ◌+◌, ◌<◌, ◌≤◌, ◌%◌, ◌==◌, ◌&&◌, ◌||◌, nat_le, nat_lt, Bool, true, false, if◌then◌else◌, List, [], ◌∷◌, length, map, slice_get, Option, Some, None, option_map, inl, inr, refl, sym, ap, subst, ◌∙◌, arith}
use mathlib.Core.Bool.{false≢true}
use Rattle.std.specs.Prelude.{◌⊎◌}
use Rattle.std.specs.List.{list_any}
use Rattle.std.proofs.lemmas.Bool.{and_parts, eq-eqb, eqb-true, leb-true, ltb-true}
use Rattle.std.proofs.lemmas.Option.{same_Some}
use Rattle.wire_base.specs.declared.conf.OwnSub.{OwnSub}
use Rattle.wire_base.specs.declared.conf.RouterConf.{RouterConf}
use Rattle.wire_base.specs.declared.view.ViewNode.{ViewNode}
use Rattle.wire_base.specs.declared.view.ViewSub.{ViewSub}
use Rattle.wire_base.specs.model.Control.{Control}
use Rattle.wire_base.specs.model.Graph.{IsGraph, has_id_at, node_has_id}
use Rattle.wire_base.specs.model.HopCount.{hops}
use Rattle.wire_base.specs.model.Item.{Item, ControlItem, PacketItem}
use Rattle.wire_base.specs.model.OnFrame.{node_place, outer_ttl}
use Rattle.wire_base.specs.model.OwnLsp.{info_of}
use Rattle.wire_base.specs.model.Place.{id_of, own_id, sub_in}
use Rattle.wire_base.specs.model.View.{control_view, sub_of}
use Rattle.quiet_domain.specs.declared.path.Way.{Way}
use Rattle.quiet_domain.proofs.PathLaws.{first_hop, hops_are, hops_here}
use Rattle.replay_text.specs.declared.event.Event.{Event}
use Rattle.replay_text.specs.declared.event.Event.TheVariants.{Inject, Take, Lose, Again, Down, Up, Send, Tick, Restart, Relabel, Leave, Join}
use Rattle.wire_base.specs.declared.cause.Cause.TheVariants.{Link}
use Rattle.domain_model.specs.Moves.{inject_made, item_lost}
use Rattle.domain_model.specs.Run.{Run, goes_on}
use Rattle.domain_model.specs.Step.{arrives, comes, happens, injects, makes, taken_off, takes, takes_over}
use Rattle.domain_model.specs.Truth.{IsTrueControl, IsTruthful, confs_now, domain_now}
use Rattle.domain_model.specs.World.{WorldState, is_up, link_between, queue_at, queue_over}
use Rattle.domain_model.proofs.EachLaws.{each_got}
use Rattle.laws_ledger.specs.Ledger.{Injection, entered, triple_for}
use Rattle.laws_ledger.specs.Runs.{unlined}
use Rattle.laws_ledger.specs.Weights.{is_of, is_one_of, takes_copy}
use Rattle.laws_course.specs.Course.{Agreed, HasAgreed, IsCarried, IsCovered, IsSteady, loses_copy, own_node}
use Rattle.laws_course.proofs.KnownLaws.{known_of}
use Rattle.laws_course.proofs.NodeLaws.{node_some}
use Rattle.laws_quiet.specs.Cover.{AreTakes, IsCoveredRun, covers_id, is_covered, is_own, way_from}
use Rattle.laws_quiet.proofs.AgreeLaws.{agreed}
use Rattle.laws_quiet.proofs.LongestLaws.{owner_fits, way_fits}
use Rattle.laws_course.proofs.OnceLaws.{world_next}

-- ---- BFR-ids that are covered

or_parts : (a b : Bool) → (a || b) ≡ true → (a ≡ true) ⊎ (b ≡ true)
or_parts true b h = inl refl
or_parts false b h = inr h

own_is : (o : Option ℕ) (k : ℕ) → is_own o k ≡ true → o ≡ Some k
own_is None k h = absurd (false≢true h)
own_is (Some own) k h = ap (λ (n : ℕ). Some n) (eqb-true own k h)

-- the router's own node has its own BFR-id
listed_id : (q : RouterConf) (subs : List OwnSub) (sd k : ℕ) → id_of (sub_in subs sd) ≡ Some k → list_any (λ (s : ViewSub). (s.sd == sd) && (s.id == k)) (map (λ s. sub_of q.prefix.0 (info_of q.kinds s)) subs) ≡ true
listed_id q [] sd k h = cc
listed_id q (s ∷ subs) sd k h = by (s.sd == sd) refl h (listed_id q subs sd k)
  where
    is_id : (n : ℕ) → (if n == 0 then None else Some n) ≡ Some k → n ≡ k
    is_id n e = test (n == 0) e
      where
        test : (b : Bool) → (if b then None else Some n) ≡ Some k → n ≡ k
        test true e = cc
        test false e = same_Some n k e

    or_true : (b : Bool) → (b || true) ≡ true
    or_true true = refl
    or_true false = refl

    by : (b : Bool) → (s.sd == sd) ≡ b → id_of (if b then Some s else sub_in subs sd) ≡ Some k
        → (id_of (sub_in subs sd) ≡ Some k → list_any (λ (s : ViewSub). (s.sd == sd) && (s.id == k)) (map (λ s. sub_of q.prefix.0 (info_of q.kinds s)) subs) ≡ true)
        → list_any (λ (s : ViewSub). (s.sd == sd) && (s.id == k)) (map (λ s. sub_of q.prefix.0 (info_of q.kinds s)) (s ∷ subs)) ≡ true
    by true e h more = rw (e, eq-eqb s.id k (is_id s.id h)) refl
    by false e h more = rw (e, more h) refl

module _ (w : WorldState) (truth : IsTruthful w) (a : ℕ) (c : Control) (at : slice_get w.routers a ≡ Some c) where
  control : IsTrueControl (confs_now w) c
  control = each_got (IsTrueControl (confs_now w)) w.routers a c truth.controls at

  own_has : (sd k : ℕ) → own_id c.conf sd ≡ Some k → has_id_at (control_view c) sd k (own_node c) ≡ true
  own_has sd k own =
      let known = known_of (domain_now w) truth.now c control in
      let n = node_some (control_view c) (own_node c) known.own in
      ap (node_has_id sd k) n.1
      ∙ ap (λ (subs : List ViewSub). list_any (λ s. (s.sd == sd) && (s.id == k)) subs) (known.now n.0 n.1)
      ∙ listed_id c.conf c.conf.subs sd k own

  graph : IsGraph (control_view c)
  graph = (known_of (domain_now w) truth.now c control).graph

  node : own_node c < length (control_view c)
  node = (known_of (domain_now w) truth.now c control).own

  own_covered : (k : ℕ) (i : Injection) → own_id c.conf i.sd ≡ Some k → IsCovered c.conf (control_view c) (own_node c) i k
  own_covered k i own =
      let t = triple_for i k in
      record {
        reachable = inl own;
        covers = record {
          count = 0;
          is = hops_here (control_view c) graph c.conf.kinds c.conf.table t (i.entropy % 16) k (own_node c) (own_has i.sd k own);
          enough = omega arith;
          tunnels = owner_fits (control_view c) graph c.conf.kinds c.conf.table t (i.entropy % 16) k (own_node c) node (own_has i.sd k own);
        };
      }

  on_covered : (k : ℕ) (i : Injection) (w : Way) → way_from c (triple_for i k) (i.entropy % 16) k ≡ Some w → 0 < w.hops → w.hops ≤ i.ttl → w.longest ≤ outer_ttl → IsCovered c.conf (control_view c) (own_node c) i k
  on_covered k i w way some enough short =
      let g = control_view c in
      let is : hops g c.conf.kinds c.conf.table (triple_for i k) (i.entropy % 16) k (own_node c) ≡ Some w.hops =
      sym (hops_are g graph c.conf.kinds c.conf.table (triple_for i k) (i.entropy % 16) k (own_node c)) ∙ ap (option_map (λ (x : Way). x.hops)) way in
      record {
        reachable = inr (first_hop g graph c.conf.kinds c.conf.table (triple_for i k) (i.entropy % 16) k (own_node c) w.hops is some);
        covers = record { count = w.hops; is = is; enough = enough; tunnels = way_fits g graph c.conf.kinds c.conf.table (triple_for i k) (i.entropy % 16) k (own_node c) node w way short };
      }

  pub covered_is : (k : ℕ) (i : Injection) → covers_id c i.sd i.bsl i.ttl i.entropy k ≡ true → IsCovered c.conf (control_view c) (own_node c) i k
  covered_is k i h = by (or_parts (is_own (own_id c.conf i.sd) k) (is_covered i.ttl (way_from c (triple_for i k) (i.entropy % 16) k)) h)
    where
      on : (o : Option Way) → way_from c (triple_for i k) (i.entropy % 16) k ≡ o → is_covered i.ttl o ≡ true → IsCovered c.conf (control_view c) (own_node c) i k
      on None q e = absurd (false≢true e)
      on (Some w) q e =
          let p = and_parts (nat_lt 0 w.hops) _ e in
          let r = and_parts (nat_le w.hops i.ttl) _ p.1 in
          on_covered k i w q (ltb-true 0 w.hops p.0) (leb-true w.hops i.ttl r.0) (leb-true w.longest outer_ttl r.1)

      by : (is_own (own_id c.conf i.sd) k ≡ true) ⊎ (is_covered i.ttl (way_from c (triple_for i k) (i.entropy % 16) k) ≡ true) → IsCovered c.conf (control_view c) (own_node c) i k
      by (inl own) = own_covered k i (own_is (own_id c.conf i.sd) k own)
      by (inr e) = on (way_from c (triple_for i k) (i.entropy % 16) k) refl e

-- ---- injections and takes of copies keep all control states

abbrev pub KeepsRouters : WorldState → Event → Type 0
KeepsRouters w e = (happens w e).world.routers ≡ w.routers

-- no other event is an injection
no_injection : {P : Type 0} (b : Bool) (i : Injection) → (if b then None else None) ≡ Some i → P
no_injection true i h = cc
no_injection false i h = cc

pub inject_keeps : (w : WorldState) (n : ℕ) (e : Event) (i : Injection) → entered w.injections e n ≡ Some i → KeepsRouters w e
unfolding happens
inject_keeps w n (Inject a sd bsl ks ttl entropy payload) i h = by (slice_get w.routers a)
  where
    by : (o : Option Control) → (injects w a (λ c. inject_made w.domain.routers a c (w.injections + 1) sd bsl ks ttl entropy payload) o).world.routers ≡ w.routers
    by None = refl
    by (Some c) = refl
inject_keeps w n (Take a b j) i h = no_injection (w.injections + 1 == n) i h
inject_keeps w n (Lose a b j) i h = no_injection (w.injections + 1 == n) i h
inject_keeps w n (Again a b j) i h = no_injection (w.injections + 1 == n) i h
inject_keeps w n (Down a b) i h = no_injection (w.injections + 1 == n) i h
inject_keeps w n (Up a b) i h = no_injection (w.injections + 1 == n) i h
inject_keeps w n (Send a b) i h = no_injection (w.injections + 1 == n) i h
inject_keeps w n (Tick a) i h = no_injection (w.injections + 1 == n) i h
inject_keeps w n (Restart a) i h = no_injection (w.injections + 1 == n) i h
inject_keeps w n (Relabel a sd bsl label) i h = no_injection (w.injections + 1 == n) i h
inject_keeps w n (Leave a sd) i h = no_injection (w.injections + 1 == n) i h
inject_keeps w n (Join a sd) i h = no_injection (w.injections + 1 == n) i h

pub take_keeps : (w : WorldState) (n : ℕ) (e : Event) → takes_copy w n e ≡ true → KeepsRouters w e
unfolding happens
take_keeps w n (Take a b j) h = over (link_between w.domain.routers a b) (link_between w.domain.routers b a) h
  where
    comes_kept : (v : WorldState) (back : ℕ) (c : Control) (x : Item) → is_of n x ≡ true → (comes v b back c x).world.routers ≡ v.routers
    comes_kept v back c (ControlItem p) own = absurd (false≢true own)
    comes_kept v back c (PacketItem x) own = by (is_up c back)
      where
        by : (up : Bool) → (if up then arrives v b back c (PacketItem x) else makes v (item_lost b Link (PacketItem x))).world.routers ≡ v.routers
        by true = refl
        by false = refl

    taken : (link back : ℕ) (o : Option Item) (c : Option Control) → is_one_of n o ≡ true → (takes w a link b back j o c).world.routers ≡ w.routers
    taken link back None c own = refl
    taken link back (Some x) None own = refl
    taken link back (Some x) (Some c) own = comes_kept (taken_off w a link j) back c x own

    over : (o p : Option ℕ) → is_one_of n (slice_get (queue_over w.flights a o) j) ≡ true → (takes_over w a b j o p).world.routers ≡ w.routers
    over None p own = refl
    over (Some link) None own = refl
    over (Some link) (Some back) own = taken link back (slice_get (queue_at w.flights a link) j) (slice_get w.routers b) own
take_keeps w n (Inject a sd bsl ks ttl entropy payload) h = absurd (false≢true h)
take_keeps w n (Lose a b j) h = absurd (false≢true h)
take_keeps w n (Again a b j) h = absurd (false≢true h)
take_keeps w n (Down a b) h = absurd (false≢true h)
take_keeps w n (Up a b) h = absurd (false≢true h)
take_keeps w n (Send a b) h = absurd (false≢true h)
take_keeps w n (Tick a) h = absurd (false≢true h)
take_keeps w n (Restart a) h = absurd (false≢true h)
take_keeps w n (Relabel a sd bsl label) h = absurd (false≢true h)
take_keeps w n (Leave a sd) h = absurd (false≢true h)
take_keeps w n (Join a sd) h = absurd (false≢true h)

pub take_loses_none : (w : WorldState) (n : ℕ) (e : Event) → takes_copy w n e ≡ true → loses_copy w n e ≡ false
take_loses_none w n (Take a b j) h = refl
take_loses_none w n (Inject a sd bsl ks ttl entropy payload) h = refl
take_loses_none w n (Lose a b j) h = absurd (false≢true h)
take_loses_none w n (Again a b j) h = refl
take_loses_none w n (Down a b) h = refl
take_loses_none w n (Up a b) h = refl
take_loses_none w n (Send a b) h = refl
take_loses_none w n (Tick a) h = refl
take_loses_none w n (Restart a) h = refl
take_loses_none w n (Relabel a sd bsl label) h = refl
take_loses_none w n (Leave a sd) h = refl
take_loses_none w n (Join a sd) h = refl

-- ---- so topologies stay and agree

pub agreed_kept : (w v : WorldState) (g : List ViewNode) (u : ℕ) → v.routers ≡ w.routers → Agreed w g u → Agreed v g u
agreed_kept w v g u same h = λ b n c at path. h b n c (sym (ap (λ (rs : List Control). slice_get rs b) same) ∙ at) path

agreement_kept : (w v : WorldState) (s : ℕ) (g : List ViewNode) → v.routers ≡ w.routers → HasAgreed w s g → HasAgreed v s g
agreement_kept w v s g same h = record {
  router = h.router;
  there = ap (λ (rs : List Control). slice_get rs s) same ∙ h.there;
  view = h.view;
  agreed = agreed_kept w v g (node_place g h.router.conf.system) same h.agreed;
}

goes_agreed : (r : Run) (e : ℕ × Event) (s : ℕ) (g : List ViewNode) → KeepsRouters r.world e.1 → HasAgreed r.world s g → HasAgreed (goes_on r e).world s g
goes_agreed r e s g keeps h = agreement_kept r.world (goes_on r e).world s g (ap (λ (v : WorldState). v.routers) (world_next r e) ∙ keeps) h

steady : (r : Run) (s : ℕ) (g : List ViewNode) (n : ℕ) (fs : List (ℕ × Event)) → HasAgreed r.world s g → AreTakes n r.world (unlined fs) → IsSteady r s g n fs
steady r s g n [] h takes = h
steady r s g n (f ∷ fs) h takes = (
  h,
  take_loses_none r.world n f.1 takes.0,
  steady (goes_on r f) s g n fs (goes_agreed r f s g (take_keeps r.world n f.1 takes.0) h) (subst (λ (v : WorldState). AreTakes n v (unlined fs)) (sym (world_next r f)) takes.1),
)

pub covered_carried : (r : Run) (e : ℕ × Event) (fs : List (ℕ × Event)) (c : Control) (n k : ℕ) (i : Injection) → IsCoveredRun r e fs c n k i → IsCarried r e fs c n k i
covered_carried r e fs c n k i h =
    let s = h.here in
    let before : HasAgreed r.world i.router (control_view c) = record { router = c; there = s.ingress; view = refl; agreed = agreed r.world s.truth s.issuers s.quiet i.router c s.ingress } in
    let after = goes_agreed r e i.router (control_view c) (inject_keeps r.world n e.1 i s.enters) before in
    let takes : AreTakes n (goes_on r e).world (unlined fs) = subst (λ (v : WorldState). AreTakes n v (unlined fs)) (sym (world_next r e)) s.takes in
    record {
      truth = s.truth;
      accounts = h.accounts;
      allowed = s.allowed;
      enters = s.enters;
      names = s.names;
      ingress = s.ingress;
      covered = covered_is r.world s.truth i.router c s.ingress k i s.covered;
      steady = steady (goes_on r e) i.router (control_view c) n fs after takes;
    }
