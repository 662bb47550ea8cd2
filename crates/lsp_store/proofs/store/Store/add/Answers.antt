use Rattle.std.proofs.Common.{is_ok, refl, ap, arith}
use Rattle.lsp_store.specs.Views.{Stored}
use Rattle.lsp_store.proofs.PlaceLaws.{add_within, add_kept, add_puts, inserted_or_not, new_missing, answers_full, answers_added}
use Rattle.lsp_store.proofs.store.Store.add.Goals.{in-Ok, in-Err}
use Rattle.lsp_store.proofs.store.Store.add.Goals as goal

pub returns-then-len-ge-MOST_ENTRIES-clause-new : goal.returns-then-len-ge-MOST_ENTRIES-clause-new
returns-then-len-ge-MOST_ENTRIES-clause-new c = new_missing c.self.inside.list.entries c.args.self.now.entries c.args.place c.args.e.id (ap (λ (s : Stored). s.entries) c.self.view_is) c.self.invariant c.requires

pub returns-then-len-ge-MOST_ENTRIES-clause-answers : goal.returns-then-len-ge-MOST_ENTRIES-clause-answers
returns-then-len-ge-MOST_ENTRIES-clause-answers c =
    answers_full c.self.inside.list.entries c.args.self.now.entries c.args.self.now.spare c.len-then-len-ge-MOST_ENTRIES.result c.args.e.id (ap (λ (s : Stored). s.entries) c.self.view_is) (new_missing c.self.inside.list.entries c.args.self.now.entries c.args.place c.args.e.id (ap (λ (s : Stored). s.entries) c.self.view_is) c.self.invariant c.requires) (c.len-then-len-ge-MOST_ENTRIES.ensures) (omega (arith, c.if-len-ge-MOST_ENTRIES.true, c.len.ensures, c.len-then-len-ge-MOST_ENTRIES.ensures))

pub insert-requires : goal.insert-requires
insert-requires c = record {
  place = add_within c.self.inside.list.entries c.args.self.now.entries c.args.place c.args.e.id (ap (λ (s : Stored). s.entries) c.self.view_is) c.requires;
  few = omega (arith, c.if-len-ge-MOST_ENTRIES.false, c.len.ensures);
}

pub invariant_of-self : goal.invariant_of-self
invariant_of-self c =
    add_kept c.self.inside.list.entries c.args.self.now.entries c.insert.new.self.entries c.args.place c.args.e (is_ok c.insert.result) (ap (λ (s : Stored). s.entries) c.self.view_is) c.self.invariant c.requires (omega (arith, c.if-len-ge-MOST_ENTRIES.false, c.len.ensures)) (inserted_or_not _ _ _ c.insert.result c.insert.ensures.ok c.insert.ensures.err)

pub returns-clause-ok : goal.returns-clause-ok
returns-clause-ok c = elim c.match-insert.branch [
  | in-Ok w ↦ rw w.result-is (add_puts c.self.inside.list.entries c.args.self.now.entries c.insert.new.self.entries c.args.place c.args.e (ap (λ (s : Stored). s.entries) c.self.view_is) c.requires (rw w.in-Ok.is at c.insert.ensures.ok))
  | in-Err w ↦ rw w.result-is tt
]

pub returns-clause-new : goal.returns-clause-new
returns-clause-new c = new_missing c.self.inside.list.entries c.args.self.now.entries c.args.place c.args.e.id (ap (λ (s : Stored). s.entries) c.self.view_is) c.self.invariant c.requires

pub returns-clause-answers : goal.returns-clause-answers
returns-clause-answers c =
    answers_added c.self.inside.list.entries c.args.self.now.entries c.args.self.now.spare c.args.e.id c.match-insert.result (ap (λ (s : Stored). s.entries) c.self.view_is) (new_missing c.self.inside.list.entries c.args.self.now.entries c.args.place c.args.e.id (ap (λ (s : Stored). s.entries) c.self.view_is) c.self.invariant c.requires) (omega (arith, c.if-len-ge-MOST_ENTRIES.false, c.len.ensures)) (elim c.match-insert.branch [
      | in-Ok w ↦ rw w.result-is tt
      | in-Err w ↦ rw w.result-is (refl, omega (arith, ap (λ (s : Stored). s.spare) c.self.view_is, (rw w.in-Err.is at c.insert.ensures.full)))
    ])

pub returns-clause-database : goal.returns-clause-database
returns-clause-database c =
    add_kept c.self.inside.list.entries c.args.self.now.entries c.insert.new.self.entries c.args.place c.args.e (is_ok c.insert.result) (ap (λ (s : Stored). s.entries) c.self.view_is) c.self.invariant c.requires (omega (arith, c.if-len-ge-MOST_ENTRIES.false, c.len.ensures)) (inserted_or_not _ _ _ c.insert.result c.insert.ensures.ok c.insert.ensures.err)
