-- A second in which no Remaining Lifetime ends keeps what LSDBs have of the journal.
use Rattle.std.proofs.Common.{◌≡◌, ℕ, ◌-◌, ◌<◌, ◌==◌, nat_lt, nat_le, Bool, true, false, List, [], ◌∷◌, Option, Some, None, option_and_then, refl, sym, ap, subst, ◌∙◌, arith}
use Rattle.std.specs.List.{AllByRecursion, filter_map, cons_option}
use Rattle.std.proofs.lemmas.Bool.{eqb-true, lt-ltb, ltb-true, ne_eqb}
use Rattle.std.proofs.lemmas.Option.{same_Some}
use Rattle.wire_base.specs.declared.addresses.LspId.{LspId}
use Rattle.wire_base.specs.declared.entry.Entry.{Entry}
use Rattle.wire_base.specs.model.Control.{AreAscending, after_second, entry_in, ids_of, seq_of}
use Rattle.domain_model.specs.Truth.{head_of}
use Rattle.domain_model.proofs.AgedTruth.{entry_aged}
use Rattle.laws_settle.specs.Fresh.{AreOfJournal, IsOfJournal, number_in}
use Rattle.laws_settle.proofs.JournalIssue.{Journal, UpTo}

-- what becomes of an entry whose lifetime does not end
second_case : (P : Entry → Type 0) (e x : Entry) → (e.life ≡ 1 → ⊥) → after_second e ≡ Some x → (0 < e.life → P (record e { life = e.life - 1 })) → P (record e { hold = e.hold - 1 }) → P x
second_case P e x more q live held = by (nat_lt 0 e.life) refl (e.life == 1) refl (nat_le e.hold 1) refl
  where
    is : (y : Entry) → after_second e ≡ Some y → P y → P x
    is y first h = subst P (same_Some y x (sym first ∙ q)) h

    by : (a : Bool) → nat_lt 0 e.life ≡ a → (b : Bool) → (e.life == 1) ≡ b → (c : Bool) → nat_le e.hold 1 ≡ c → P x
    by true a true b c h = absurd (more (eqb-true e.life 1 b))
    by true a false b c h = is (record e { life = e.life - 1 }) (rw (a, b) refl) (live (ltb-true 0 e.life a))
    by false a b c true h = let none : after_second e ≡ None = rw (a, h) refl in let both : None ≡ Some x = sym none ∙ q in absurd cc
    by false a b c false h = is (record e { hold = e.hold - 1 }) (rw (a, h) refl) held

second_each : (P : Entry → Type 0) → ((e x : Entry) → (e.life ≡ 1 → ⊥) → after_second e ≡ Some x → P e → P x) → (es : List Entry) → AllByRecursion (λ e. e.life ≡ 1 → ⊥) es → AllByRecursion P es → AllByRecursion P (filter_map after_second es)
second_each P one [] more all = tt
second_each P one (e ∷ es) more all = by (after_second e) refl (second_each P one es more.1 all.1)
  where
    by : (o : Option Entry) → after_second e ≡ o → AllByRecursion P (filter_map after_second es) → AllByRecursion P (cons_option o (filter_map after_second es))
    by None q rest = rest
    by (Some x) q rest = (one e x more.0 q all.0, rest)

pub second_of : (journal : Journal) (es : List Entry) → AllByRecursion (λ e. e.life ≡ 1 → ⊥) es → AreOfJournal journal es → AreOfJournal journal (filter_map after_second es)
second_of journal es more all =
    second_each (λ e. IsOfJournal journal (head_of e) e.content)
    (λ e x lasts q of. second_case (λ y. IsOfJournal journal (head_of y) y.content) e x lasts q (λ lives. record { live = λ some. omega (arith, lives, lasts); sum = of.sum; flags = of.flags; content = of.content }) (record { live = of.live; sum = of.sum; flags = of.flags; content = of.content })) es more all

pub second_low : (id : LspId) (n : ℕ) (es : List Entry) → AllByRecursion (λ e. e.life ≡ 1 → ⊥) es → AllByRecursion (UpTo id n) es → AllByRecursion (UpTo id n) (filter_map after_second es)
second_low id n es more all = second_each (UpTo id n) (λ e x lasts q low. second_case (UpTo id n) e x lasts q (λ lives. low) low) es more all

-- an entry that is not yet at its end keeps its number
pub second_number : (es : List Entry) (id : LspId) (e : Entry) → AreAscending (ids_of es) → entry_in es id ≡ Some e → 1 < e.life → number_in (filter_map after_second es) id ≡ number_in es id
second_number es id e asc there lives =
    ap seq_of (entry_aged es id asc ∙ ap (option_and_then after_second) there ∙ next) ∙ sym (ap seq_of there)
  where
    next : after_second e ≡ Some (record e { life = e.life - 1 })
    next = rw (lt-ltb 0 e.life (omega (arith, lives)), ne_eqb e.life 1 (λ one. omega (arith, one, lives))) refl
