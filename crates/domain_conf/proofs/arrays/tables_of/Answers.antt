use Rattle.std.proofs.Common.{List, Option, ◌∙◌, sym, ap, option_and_then}
use Rattle.toml.specs.Data.{Items}
use Rattle.toml.specs.View.{items_view}
use Rattle.toml.specs.declared.value.Value.{Value}
use Rattle.domain_conf.specs.Arrays.{tables_in}
use Rattle.domain_conf.proofs.ArrayLemmas.{tables_are}
use Rattle.domain_conf.proofs.arrays.tables_of.Goals as goal

pub returns-then-are_tables : goal.returns-then-are_tables
returns-then-are_tables c =
    tables_are c.as_slice-values.result.now (sym c.are_tables.ensures ∙ c.if-are_tables.true)
    ∙ (ap (λ (vs : List Value). tables_in (items_view vs)) c.as_slice-values.ensures.value
    ∙ ap (λ (found : Option Items). option_and_then tables_in found) c.in_ok-as_array.ensures)
