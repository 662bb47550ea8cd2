use Rattle.std.proofs.Common.{ℕ, None, false, ◌≡◌, ◌<◌, ◌≤◌, ◌+◌, ◌++◌, ◌∷◌, [], slice_index_or, length, arith, ap, sym, ◌∙◌, subst, Contains, length-append, replicate, Bool, true, List, Option, vec_len, refl, inl}
use Rattle.std.proofs.lemmas.List.Elements.{Contains-push}
use Rattle.wire_base.specs.model.Graph.{edges_of}
use Rattle.path_tree.specs.Forward.{Search, is_forward, look_along}
use Rattle.path_tree.proofs.SearchLemmas.{IsSearch, start, turn, seen-way, along-budget, budget}
use Rattle.path_tree.proofs.forward.reach.Goals as goal

pub loop-node-init : goal.loop-node-init
loop-node-init c =
    let g = c.args.nodes.now in
    let n = length g in
    let seen : c.in_ok-seen.seen.items ≡ replicate n false = c.in_ok-seen.ensures.items_if_clones_equal (λ y q. q) in
    let work : c.push.new.self.items ≡ c.args.start ∷ [] = c.in_ok-push.ensures.items ∙ ap (λ ws. ws ++ c.args.start ∷ []) c.new-work.ensures.items in
    let stops : ℕ → Bool = λ x. slice_index_or c.args.stops.now x false in
    let dist : ℕ → Option ℕ = λ x. slice_index_or c.args.dist.now x None in
    let P : List Bool → List ℕ → Type 0 = λ xs ws. IsSearch g stops c.args.u c.args.start (λ _. ⊥) (record { seen = xs; work = ws }) in
    let s : P (replicate n false) (c.args.start ∷ []) = start g c.requires.graph stops c.args.u c.args.start c.requires.from dist c.requires.dists.each n refl in
    subst (λ xs. P xs c.push.new.self.items) (sym seen) (subst (λ ws. P (replicate n false) ws) (sym work) s)

pub look_around-requires-clause-from : goal.look_around-requires-clause-from
look_around-requires-clause-from c =
    c.loop-node.invariant.within c.in-Some.node (subst (λ ws. Contains ws c.in-Some.node) (sym c.in-Some.ensures.items) (Contains-push c.pop.new.self.items c.in-Some.node))

pub loop-node-smaller : goal.loop-node-smaller
loop-node-smaller c =
    let stops : ℕ → Bool = λ x. slice_index_or c.args.stops.now x false in
    let dist : ℕ → Option ℕ = λ x. slice_index_or c.args.dist.now x None in
    let test = is_forward c.args.nodes.now c.args.u dist c.in-Some.node in
    let s : Search = record { seen = c.loop-node.seen.items; work = c.pop.new.self.items } in
    let t = look_along stops test s (edges_of c.args.nodes.now c.in-Some.node) in
    let e : budget c.look_around.new.seen.items c.look_around.new.work.items ≡ budget t.seen t.work = ap (λ (s : Search). budget s.seen s.work) c.in_ok-look_around.ensures.done in
    let less : budget t.seen t.work ≤ budget c.loop-node.seen.items c.pop.new.self.items = along-budget stops test (edges_of c.args.nodes.now c.in-Some.node) s in
    let long : length c.loop-node.work.items ≡ length c.pop.new.self.items + 1 = ap length c.in-Some.ensures.items ∙ length-append c.pop.new.self.items (c.in-Some.node ∷ []) in
    omega (arith, e, less, long)

pub loop-node-preserved : goal.loop-node-preserved
loop-node-preserved c =
    let stops : ℕ → Bool = λ x. slice_index_or c.args.stops.now x false in
    let dist : ℕ → Option ℕ = λ x. slice_index_or c.args.dist.now x None in
    let P : List ℕ → Type 0 = λ ws. IsSearch c.args.nodes.now stops c.args.u c.args.start (λ _. ⊥) (record { seen = c.loop-node.seen.items; work = ws }) in
    let before : P (c.pop.new.self.items ++ c.in-Some.node ∷ []) = subst P c.in-Some.ensures.items c.loop-node.invariant in
    let after = turn c.args.nodes.now c.requires.graph stops c.args.u c.args.start c.requires.from dist c.requires.dists.each c.loop-node.seen.items c.pop.new.self.items c.in-Some.node before in
    subst (λ (s : Search). IsSearch c.args.nodes.now stops c.args.u c.args.start (λ _. ⊥) s) (sym c.in_ok-look_around.ensures.done) after

no-items : (xs : List ℕ) (n : ℕ) → n ≡ length xs → (0 < n → false ≡ true) → xs ≡ []
no-items [] n e h = refl
no-items (x ∷ xs) n e h = let q : false ≡ true = h (omega arith) in cc

pub returns-clause-each : goal.returns-clause-each
returns-clause-each c x within =
    let stops : ℕ → Bool = λ x. slice_index_or c.args.stops.now x false in
    let dist : ℕ → Option ℕ = λ x. slice_index_or c.args.dist.now x None in
    let s : Search = record { seen = c.loop-node.seen.items; work = c.loop-node.work.items } in
    let empty : c.loop-node.work.items ≡ [] = no-items c.loop-node.work.items (vec_len c.loop-node.work) c.loop-node.work.ok.0 c.in_default.ensures.variant.1 in (
      λ q. c.loop-node.invariant.reached x within q,
      λ w. seen-way c.args.nodes.now c.requires.graph stops c.args.u c.args.start c.requires.from dist c.requires.dists.each s c.loop-node.invariant empty w.0 c.args.start x c.requires.from (inl refl) w.1,
    )
