-- Paths, hop by hop.
use Rattle.std.proofs.Common.{◌≡◌, ℕ, zero, suc, ◌+◌, ◌-◌, ◌<◌, ◌≤◌, ◌==◌, ◌↔◌, max, Bool, true, false, List, length, Option, Some, None, option_map, refl, sym, ap, subst, ◌∙◌, arith}
use Rattle.std.proofs.lemmas.Option.{same_Some}
use Rattle.wire_base.specs.declared.conf.SubKind.{SubKind}
use Rattle.wire_base.specs.declared.conf.TableRow.{TableRow}
use Rattle.wire_base.specs.declared.triple.Triple.{Triple}
use Rattle.wire_base.specs.declared.view.ViewNode.{ViewNode}
use Rattle.wire_base.specs.model.Choice.{choose}
use Rattle.wire_base.specs.model.Graph.{IsGraph, has_id_at}
use Rattle.wire_base.specs.model.HopCount.{follow, hops, tunnel_links}
use Rattle.wire_base.specs.model.Tight.{next_step}
use Rattle.laws_route.proofs.HopCountLemmas.{descends}
use Rattle.laws_route.proofs.RouteLemmas.{next_step-tight, tunnel_links-some}
use Rattle.quiet_domain.specs.declared.path.Way.{Way}
use Rattle.quiet_domain.specs.Way.{hop_before, links_over, no_hop, way_by, way_to}

-- ---- one hop

module _ (next : ℕ → Option ℕ) (ends : ℕ → Bool) where
  pub follow_here : (k u : ℕ) → ends u ≡ true → follow next ends k u ≡ Some 0
  follow_here zero u t = rw t refl
  follow_here (suc k) u t = rw t refl

  pub follow_stuck : (k u : ℕ) → ends u ≡ false → next u ≡ None → follow next ends k u ≡ None
  follow_stuck zero u t e = rw t refl
  follow_stuck (suc k) u t e = rw (t, e) refl

  pub follow_over : (k h u x : ℕ) → ends u ≡ false → next u ≡ Some x → option_map (λ n. h + n) (follow next ends (suc k) u) ≡ option_map (λ n. h + 1 + n) (follow next ends k x)
  follow_over k h u x t e = rw (t, e) (by (follow next ends k x))
    where
      by : (o : Option ℕ) → option_map (λ n. h + n) (option_map (λ n. n + 1) o) ≡ option_map (λ n. h + 1 + n) o
      by None = refl
      by (Some n) = ap (λ (m : ℕ). Some m) (omega arith)

-- a path after h hops, the longest tunnel of which has m links
abbrev pub after : ℕ → ℕ → Way → Way
after h m w = record { hops = h + w.hops; longest = max m w.longest }

module _ (next : ℕ → Option ℕ) (ends : ℕ → Bool) (links : ℕ → ℕ → ℕ) where
  pub way_here : (k u : ℕ) → ends u ≡ true → way_by next ends links k u ≡ Some no_hop
  way_here zero u t = rw t refl
  way_here (suc k) u t = rw t refl

  pub way_stuck : (k u : ℕ) → ends u ≡ false → next u ≡ None → way_by next ends links k u ≡ None
  way_stuck zero u t e = rw t refl
  way_stuck (suc k) u t e = rw (t, e) refl

  pub way_over : (k h m u x : ℕ) → ends u ≡ false → next u ≡ Some x → option_map (after h m) (way_by next ends links (suc k) u) ≡ option_map (after (h + 1) (max m (links u x))) (way_by next ends links k x)
  way_over k h m u x t e = rw (t, e) (by (way_by next ends links k x))
    where
      by : (o : Option Way) → option_map (after h m) (option_map (hop_before (links u x)) o) ≡ option_map (after (h + 1) (max m (links u x))) o
      by None = refl
      by (Some w) = ap (λ (n : ℕ). Some (record { hops = n; longest = max m (max (links u x) w.longest) })) (omega arith) ∙ ap (λ (n : ℕ). Some (record { hops = h + 1 + w.hops; longest = n })) (omega arith)

  -- a path has as many hops as next is followed
  pub way_hops : (k u : ℕ) → option_map (λ w. w.hops) (way_by next ends links k u) ≡ follow next ends k u
  way_hops zero u = by (ends u) refl
    where
      by : (b : Bool) → ends u ≡ b → option_map (λ w. w.hops) (way_by next ends links zero u) ≡ follow next ends zero u
      by true t = rw t refl
      by false t = rw t refl
  way_hops (suc k) u = by (ends u) (next u) refl refl (λ x. way_hops k x)
    where
      more : (x : ℕ) (o : Option Way) (p : Option ℕ) → option_map (λ (w : Way). w.hops) o ≡ p → option_map (λ (w : Way). w.hops) (option_map (hop_before (links u x)) o) ≡ option_map (λ n. n + 1) p
      more x None p e = rw (sym e) refl
      more x (Some w) p e = rw (sym e) (ap (λ (n : ℕ). Some n) (omega arith))

      by : (b : Bool) (o : Option ℕ) → ends u ≡ b → next u ≡ o → ((x : ℕ) → option_map (λ w. w.hops) (way_by next ends links k x) ≡ follow next ends k x) → option_map (λ w. w.hops) (way_by next ends links (suc k) u) ≡ follow next ends (suc k) u
      by true o t e again = rw t refl
      by false None t e again = rw (t, e) refl
      by false (Some x) t e again = rw (t, e) (more x (way_by next ends links k x) (follow next ends k x) (again x))

-- ---- how many hops

module _ (g : List ViewNode) (good : IsGraph g) where
  -- a tunnel has fewer links than there are nodes
  pub few_links : (x u n : ℕ) → u < length g → tunnel_links g x u ≡ Some n → n < length g
  unfolding tunnel_links
  few_links x u n node q = by (u == x) refl (next_step g x u) refl
    where
      by : (b : Bool) → (u == x) ≡ b → (o : Option ℕ) → next_step g x u ≡ o → n < length g
      by true t o e = let z : 0 ≡ n = same_Some 0 n (sym (follow_here (next_step g x) (λ z. z == x) (length g) u t) ∙ q) in omega (arith, node, z)
      by false t None e = cc (follow_stuck (next_step g x) (λ z. z == x) (length g) u t e)
      by false t (Some v) e =
          let s = next_step-tight g good x u v node e in
          let a = tunnel_links-some g good x u (s.edge.metric + s.rest) node s.whole in
          let z : a.0 ≡ n = same_Some a.0 n (sym a.1 ∙ q) in
          omega (arith, a.2, z)

  module _ (kinds : List SubKind) (table : List TableRow) (t : Triple) (class k : ℕ) where
    -- a path has fewer hops than there are nodes
    pub few_hops : (u n : ℕ) → u < length g → hops g kinds table t class k u ≡ Some n → n < length g
    unfolding hops
    few_hops u n node q = by (has_id_at g t.sd k u) refl (choose g kinds table t class u k) refl
      where
        by : (b : Bool) → has_id_at g t.sd k u ≡ b → (o : Option ℕ) → choose g kinds table t class u k ≡ o → n < length g
        by true h o e = let z : 0 ≡ n = same_Some 0 n (sym (follow_here (λ x. choose g kinds table t class x k) (has_id_at g t.sd k) (length g) u h) ∙ q) in omega (arith, node, z)
        by false h None e = cc (follow_stuck (λ x. choose g kinds table t class x k) (has_id_at g t.sd k) (length g) u h e)
        by false h (Some x) e =
            let d = descends g kinds table t class k u x good node e in
            let z : d.count ≡ n = same_Some d.count n (sym d.hops ∙ q) in
            omega (arith, d.few, z)

    pub hops_are : (u : ℕ) → option_map (λ w. w.hops) (way_to g kinds table t class k u) ≡ hops g kinds table t class k u
    unfolding hops way_to
    hops_are u = way_hops (λ x. choose g kinds table t class x k) (has_id_at g t.sd k) (links_over g) (length g) u

    -- a node that has the BFR-id is at the end
    pub hops_here : (u : ℕ) → has_id_at g t.sd k u ≡ true → hops g kinds table t class k u ≡ Some 0
    unfolding hops
    hops_here u h = follow_here (λ x. choose g kinds table t class x k) (has_id_at g t.sd k) (length g) u h

    -- a path with a hop begins with a choice
    pub first_hop : (u n : ℕ) → hops g kinds table t class k u ≡ Some n → 0 < n → (x : ℕ) × (choose g kinds table t class u k ≡ Some x)
    unfolding hops
    first_hop u n q some = by (has_id_at g t.sd k u) refl (choose g kinds table t class u k) refl
      where
        by : (b : Bool) → has_id_at g t.sd k u ≡ b → (o : Option ℕ) → choose g kinds table t class u k ≡ o → (x : ℕ) × (choose g kinds table t class u k ≡ Some x)
        by true h o e = absurd (let z : 0 ≡ n = same_Some 0 n (sym (follow_here (λ x. choose g kinds table t class x k) (has_id_at g t.sd k) (length g) u h) ∙ q) in omega (arith, z, some))
        by false h None e = absurd (lost (follow_stuck (λ x. choose g kinds table t class x k) (has_id_at g t.sd k) (length g) u h e) q)
          where
            lost : {o : Option ℕ} → o ≡ None → o ≡ Some n → ⊥
            lost p q = cc
        by false h (Some x) e = (x, e)

    way_ends : (u : ℕ) → has_id_at g t.sd k u ≡ true → way_to g kinds table t class k u ≡ Some no_hop
    unfolding way_to
    way_ends u h = way_here (λ x. choose g kinds table t class x k) (has_id_at g t.sd k) (links_over g) (length g) u h

    way_stops : (u : ℕ) → has_id_at g t.sd k u ≡ false → choose g kinds table t class u k ≡ None → way_to g kinds table t class k u ≡ None
    unfolding way_to
    way_stops u h e = way_stuck (λ x. choose g kinds table t class x k) (has_id_at g t.sd k) (links_over g) (length g) u h e

    -- there is no path exactly where the first hop is missing
    pub none_where : (u : ℕ) → u < length g → (way_to g kinds table t class k u ≡ None) ↔ ((has_id_at g t.sd k u ≡ false) × (choose g kinds table t class u k ≡ None))
    none_where u node = (there (has_id_at g t.sd k u) refl (choose g kinds table t class u k) refl, λ h. way_stops u h.0 h.1)
      where
        some : {w : Way} → way_to g kinds table t class k u ≡ Some w → way_to g kinds table t class k u ≡ None → ⊥
        some p q = cc

        there : (b : Bool) → has_id_at g t.sd k u ≡ b → (o : Option ℕ) → choose g kinds table t class u k ≡ o → way_to g kinds table t class k u ≡ None → (has_id_at g t.sd k u ≡ false) × (choose g kinds table t class u k ≡ None)
        there true h o e none = absurd (some (way_ends u h) none)
        there false h None e none = (h, e)
        there false h (Some x) e none =
            let d = descends g kinds table t class k u x good node e in
            let lost : None ≡ Some d.count = sym (ap (option_map (λ (w : Way). w.hops)) none) ∙ hops_are u ∙ d.hops in
            cc

    -- the same of the path that was found
    pub hops_for : (u : ℕ) (w : Option Way) → way_to g kinds table t class k u ≡ w → option_map (λ x. x.hops) w ≡ hops g kinds table t class k u
    hops_for u w is = ap (option_map (λ (x : Way). x.hops)) (sym is) ∙ hops_are u

    pub none_for : (u : ℕ) → u < length g → (w : Option Way) → way_to g kinds table t class k u ≡ w → (w ≡ None) ↔ ((has_id_at g t.sd k u ≡ false) × (choose g kinds table t class u k ≡ None))
    none_for u node w is = subst (λ (o : Option Way). (o ≡ None) ↔ ((has_id_at g t.sd k u ≡ false) × (choose g kinds table t class u k ≡ None))) is (none_where u node)

    pub few_way : (u : ℕ) → u < length g → (w : Way) → way_to g kinds table t class k u ≡ Some w → w.hops < length g
    few_way u node w is = few_hops u w.hops node (sym (hops_are u) ∙ ap (option_map (λ (x : Way). x.hops)) is)

-- ---- the loops that follow a path: what is found is the hops so far, and the path from the node that was reached

module _ (next : ℕ → Option ℕ) (ends : ℕ → Bool) (len : ℕ) where
  -- the links from a node after so many
  abbrev pub linked : ℕ → ℕ → Option ℕ
  linked links node = option_map (λ n. links + n) (follow next ends (len - links) node)

  pub links_start : (u : ℕ) → follow next ends len u ≡ linked 0 u
  links_start u = by (follow next ends len u) ∙ ap (λ (k : ℕ). option_map (λ n. 0 + n) (follow next ends k u)) (omega arith)
    where
      by : (o : Option ℕ) → o ≡ option_map (λ n. 0 + n) o
      by None = refl
      by (Some n) = ap (λ (m : ℕ). Some m) (omega arith)

  pub links_next : (whole : Option ℕ) (links node x : ℕ) → links < len → ends node ≡ false → next node ≡ Some x → whole ≡ linked links node → whole ≡ linked (links + 1) x
  links_next whole links node x less t e is =
      let fuel : len - links ≡ suc (len - (links + 1)) = omega arith in
      is ∙ ap (λ (k : ℕ). option_map (λ n. links + n) (follow next ends k node)) fuel ∙ follow_over next ends (len - (links + 1)) links node x t e

  pub links_found : (whole : Option ℕ) (links node : ℕ) → ends node ≡ true → whole ≡ linked links node → whole ≡ Some links
  links_found whole links node t is = is ∙ ap (option_map (λ n. links + n)) (follow_here next ends (len - links) node t) ∙ ap (λ (m : ℕ). Some m) (omega arith)

  pub links_stuck : (whole : Option ℕ) (links node : ℕ) → ends node ≡ false → next node ≡ None → whole ≡ linked links node → whole ≡ None
  links_stuck whole links node t e is = is ∙ ap (option_map (λ n. links + n)) (follow_stuck next ends (len - links) node t e)

  -- past the last node there are no links, where a whole path has fewer
  pub links_past : (whole : Option ℕ) (links node : ℕ) → len ≤ links → ((n : ℕ) → whole ≡ Some n → n < len) → whole ≡ linked links node → whole ≡ None
  links_past whole links node past few is = by (ends node) refl
    where
      none_left : len - links ≡ 0
      none_left = omega arith

      by : (b : Bool) → ends node ≡ b → whole ≡ None
      by true t = let found = links_found whole links node t is in absurd (let less = few links found in omega (arith, less, past))
      by false t = is ∙ ap (λ (k : ℕ). option_map (λ n. links + n) (follow next ends k node)) none_left ∙ rw t refl

module _ (next : ℕ → Option ℕ) (ends : ℕ → Bool) (links : ℕ → ℕ → ℕ) (len : ℕ) where
  -- the path from a node after so many hops
  abbrev pub led : ℕ → ℕ → ℕ → Option Way
  led hops longest node = option_map (after hops longest) (way_by next ends links (len - hops) node)

  pub way_start : (u : ℕ) → way_by next ends links len u ≡ led 0 0 u
  way_start u = by (way_by next ends links len u) ∙ ap (λ (k : ℕ). option_map (after 0 0) (way_by next ends links k u)) (omega arith)
    where
      by : (o : Option Way) → o ≡ option_map (after 0 0) o
      by None = refl
      by (Some w) = ap (λ (n : ℕ). Some (record { hops = n; longest = w.longest })) (omega arith) ∙ ap (λ (n : ℕ). Some (record { hops = 0 + w.hops; longest = n })) (omega arith)

  pub way_next : (whole : Option Way) (hops longest node x m : ℕ) → hops < len → ends node ≡ false → next node ≡ Some x → m ≡ max longest (links node x) → whole ≡ led hops longest node → whole ≡ led (hops + 1) m x
  way_next whole hops longest node x m less t e most is =
      let fuel : len - hops ≡ suc (len - (hops + 1)) = omega arith in
      is ∙ ap (λ (k : ℕ). option_map (after hops longest) (way_by next ends links k node)) fuel ∙ way_over next ends links (len - (hops + 1)) hops longest node x t e
      ∙ ap (λ (n : ℕ). option_map (after (hops + 1) n) (way_by next ends links (len - (hops + 1)) x)) (sym most)

  pub way_found : (whole : Option Way) (hops longest node : ℕ) → ends node ≡ true → whole ≡ led hops longest node → whole ≡ Some (record { hops = hops; longest = longest })
  way_found whole hops longest node t is =
      is ∙ ap (option_map (after hops longest)) (way_here next ends links (len - hops) node t)
      ∙ ap (λ (n : ℕ). Some (record { hops = n; longest = max longest 0 })) (omega arith)
      ∙ ap (λ (n : ℕ). Some (record { hops = hops; longest = n })) (omega arith)

  pub way_lost : (whole : Option Way) (hops longest node : ℕ) → ends node ≡ false → next node ≡ None → whole ≡ led hops longest node → whole ≡ None
  way_lost whole hops longest node t e is = is ∙ ap (option_map (after hops longest)) (way_stuck next ends links (len - hops) node t e)

  pub way_past : (whole : Option Way) (hops longest node : ℕ) → len ≤ hops → ((w : Way) → whole ≡ Some w → w.hops < len) → whole ≡ led hops longest node → whole ≡ None
  way_past whole hops longest node past few is = by (ends node) refl
    where
      none_left : len - hops ≡ 0
      none_left = omega arith

      by : (b : Bool) → ends node ≡ b → whole ≡ None
      by true t = let found = way_found whole hops longest node t is in absurd (let less = few (record { hops = hops; longest = longest }) found in omega (arith, less, past))
      by false t = is ∙ ap (λ (k : ℕ). option_map (after hops longest) (way_by next ends links k node)) none_left ∙ rw t refl
