-- The places of the nodes that may be other ones, one more at a time.
use mathlib.Core.Bool.{false≢true}
use Rattle.std.proofs.Common.{◌≡◌, ℕ, suc, ◌+◌, ◌<◌, ◌==◌, ◌||◌, Bool, true, false, List, [], ◌∷◌, length, get_or, take, Option, refl, sym, ap, subst, ◌∙◌, arith}
use Rattle.std.proofs.lemmas.Bool.{eqb-true}
use Rattle.std.proofs.lemmas.List.Folds.{list_any-append}
use Rattle.std.proofs.lemmas.List.{get_or_default}
use Rattle.wire_base.specs.declared.addresses.SystemId.{SystemId}
use Rattle.wire_base.specs.declared.view.ViewEdge.{ViewEdge}
use Rattle.wire_base.specs.declared.view.ViewNode.{ViewNode}
use Rattle.wire_base.specs.model.View.{Claim}
use Rattle.view_graph.specs.Edges.{leads_to, place_in}
use Rattle.view_graph.specs.Keep.{is_named}
use Rattle.view_graph.specs.Renewal.{has, node_claims, Stays, IsNoted, AreNoted}
use Rattle.view_graph.proofs.HeardLaws.{named_step}
use Rattle.view_graph.proofs.ListLaws.{take_one}

noted_later : (said : SystemId → Option Claim) (nodes : List ViewNode) (before now : List ℕ) (s : SystemId) → Stays before now → IsNoted said nodes before s → IsNoted said nodes now s
noted_later said nodes before now s stays n =
    record {
      claim = n.claim;
      node = n.node;
      says = n.says;
      at_place = n.at_place;
      system = n.system;
      subs = n.subs;
      ends = λ i away. n.ends i (stays i away);
      own = λ away. n.own (stays (place_in s (node_claims nodes)) away);
    }

noted_more : (said : SystemId → Option Claim) (nodes : List ViewNode) (own : SystemId) (changed : List SystemId) (k : ℕ) (x : SystemId) (before now : List ℕ) → k < length changed → x ≡ get_or changed k x → Stays before now → AreNoted said nodes (own ∷ take k changed) before → IsNoted said nodes now x
    → AreNoted said nodes (own ∷ take (k + 1) changed) now
noted_more said nodes own changed k x before now lt at stays all one s named =
    let later : suc (k + 1) ≡ suc k + 1 = omega arith in
    named_step (IsNoted said nodes now) (own ∷ changed) (suc k) x (omega (arith, lt)) at (λ t h. noted_later said nodes before now t stays (all t h)) one s (subst (λ n. is_named (take n (own ∷ changed)) s ≡ true) later named)

pub noted_next : (said : SystemId → Option Claim) (nodes : List ViewNode) (own : SystemId) (changed : List SystemId) (k : ℕ) (d : SystemId) (before now : List ℕ) → k < length changed → Stays before now → AreNoted said nodes (own ∷ take k changed) before → IsNoted said nodes now (get_or changed k d)
    → AreNoted said nodes (own ∷ take (k + 1) changed) now
noted_next said nodes own changed k d before now lt stays all one = noted_more said nodes own changed k (get_or changed k d) before now lt (get_or_default changed k d (get_or changed k d) lt) stays all one

-- the end of one edge more
pub ends_step : (edges others : List ViewEdge) (k : ℕ) (d : ViewEdge) (before now : List ℕ) → k < length edges → Stays before now → (has now (get_or edges k d).to ≡ false → leads_to (get_or edges k d).to others ≡ true)
    → ((i : ℕ) → leads_to i (take k edges) ≡ true → has before i ≡ false → leads_to i others ≡ true) → (i : ℕ) → leads_to i (take (k + 1) edges) ≡ true → has now i ≡ false → leads_to i others ≡ true
ends_step edges others k d before now lt stays one all i there away = by (leads_to i (take k edges)) refl (e.to == i) refl split
  where
    e : ViewEdge
    e = get_or edges k d

    split : (leads_to i (take k edges) || ((e.to == i) || false)) ≡ true
    split = sym (list_any-append (λ (x : ViewEdge). x.to == i) (take k edges) (e ∷ [])) ∙ ap (leads_to i) (take_one edges k e lt (get_or_default edges k d e lt)) ∙ there

    by : (a : Bool) → leads_to i (take k edges) ≡ a → (b : Bool) → (e.to == i) ≡ b → (a || (b || false)) ≡ true → leads_to i others ≡ true
    by true h b g s = all i h (stays i away)
    by false h true g s = let same = eqb-true e.to i g in sym (ap (λ n. leads_to n others) same) ∙ one (ap (has now) same ∙ away)
    by false h false g s = absurd (false≢true s)
