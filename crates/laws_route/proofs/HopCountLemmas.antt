-- Following the choice of an id ends at its owner.
use Rattle.std.proofs.Common.{◌≡◌, ℕ, ◌<◌, Bool, List, length, Option, Some, None, option_and_then, refl, ap, ◌∙◌}
use Rattle.wire_base.specs.declared.conf.SubKind.{SubKind}
use Rattle.wire_base.specs.declared.conf.TableRow.{TableRow}
use Rattle.wire_base.specs.declared.triple.Triple.{Triple}
use Rattle.wire_base.specs.declared.view.ViewNode.{ViewNode}
use Rattle.wire_base.specs.model.Graph.{IsGraph, covers_at, owner, has_id_at}
use Rattle.wire_base.specs.model.Choice.{choice, choose}
use Rattle.wire_base.specs.model.HopCount.{follow, hops}
use Rattle.laws_route.specs.Descends.{Descends}
use Rattle.laws_route.proofs.ChoiceLemmas.{choice-from, choice-descends, choice-follows}
use Rattle.laws_route.proofs.OwnerLemmas.{owner-is}

module _ (g : List ViewNode) (kinds : List SubKind) (table : List TableRow) (t : Triple) (class k : ℕ) where
  -- where the id is sent, given its owner
  pub chosen : (u x : ℕ) → choose g kinds table t class u k ≡ Some x → (d : ℕ) × (owner g t.sd k ≡ Some d) × (choice g (covers_at kinds table t g) d class u ≡ Some x)
  chosen u x q = go (owner g t.sd k) refl q
    where
      go : (o : Option ℕ) → owner g t.sd k ≡ o → option_and_then (λ d. choice g (covers_at kinds table t g) d class u) o ≡ Some x → (d : ℕ) × (owner g t.sd k ≡ Some d) × (choice g (covers_at kinds table t g) d class u ≡ Some x)
      go None e q = cc
      go (Some d) e q = (d, e, q)

  pub chosen-at : (u d : ℕ) → owner g t.sd k ≡ Some d → choose g kinds table t class u k ≡ choice g (covers_at kinds table t g) d class u
  chosen-at u d e = ap (λ o. option_and_then (λ d. choice g (covers_at kinds table t g) d class u) o) e

  pub hops-at : (u d : ℕ) → owner g t.sd k ≡ Some d → hops g kinds table t class k u ≡ follow (choice g (covers_at kinds table t g) d class) (has_id_at g t.sd k) (length g) u
  unfolding hops
  hops-at u d e = ap (λ o. follow (λ x. option_and_then (λ d. choice g (covers_at kinds table t g) d class x) o) (has_id_at g t.sd k) (length g) u) e

  pub descends : (u x : ℕ) → IsGraph g → u < length g → choose g kinds table t class u k ≡ Some x → Descends g kinds table t class k u x
  descends u x good node q =
      let s = chosen u x q in
      let d = s.0 in
      let c : ℕ → Bool = covers_at kinds table t g in
      let o = owner-is g t.sd k d s.1 in
      let w = choice-descends g good c d class u x node s.2 in
      let i = choice-from g good c d class u x node s.2 in
      let f = choice-follows g good c d class (has_id_at g t.sd k) o.alone u w.0.far node i.ends w.0.from in
      record {
        owner = d;
        owns = s.1;
        nearer = w.0;
        within = w.1;
        goes_on = λ other. (let r = w.2 other in (r.0, chosen-at x d s.1 ∙ r.1));
        count = f.0;
        hops = hops-at u d s.1 ∙ f.1;
        few = f.2;
      }
