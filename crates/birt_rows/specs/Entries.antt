-- The first BFRs on the paths of everything that a router sends.
use Rattle.std.specs.Prelude.{◌≡◌, ℕ, ◌<◌, ◌↔◌, ◌⊎◌, true, false, List, [], ◌∷◌, length, slice_index_or, Some}
use Rattle.wire_base.specs.declared.conf.End.{End}
use Rattle.wire_base.specs.declared.view.ViewNode.{ViewNode}
use Rattle.wire_base.specs.model.Choice.{first_at}
use Rattle.birt_rows.specs.declared.entries.Entry.{Entry}
use Rattle.path_tree.specs.Forward.{ForwardWay, nowhere}

-- an entry is of the node x, and states for each node whether a shortest walk leads there over x
pub record IsEntry (ends : List End) (g : List ViewNode) (u x : ℕ) (entry : Entry) : Type 0 where
  pub names : first_at ends g u x ≡ Some entry.first
  pub long : length entry.beyond.items ≡ length g
  pub leads : (d : ℕ) → d < length g → ((slice_index_or entry.beyond.items d false ≡ true) ↔ ((d ≡ x) ⊎ ((k : ℕ) × ForwardWay g u nowhere k x d)))

-- the entries of those nodes, in order
abbrev pub AreEntries : List End → List ViewNode → ℕ → List ℕ → List Entry → Type 0
AreEntries ends g u [] [] = Unit {0}
AreEntries ends g u [] (e ∷ es) = ⊥
AreEntries ends g u (x ∷ xs) [] = ⊥
AreEntries ends g u (x ∷ xs) (e ∷ es) = IsEntry ends g u x e × AreEntries ends g u xs es
