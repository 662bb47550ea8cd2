use Rattle.std.proofs.Common.{◌≡◌, ◌==◌, true, length, eq-eqb, refl}
use Rattle.std.specs.Str.Lossy.{utf8_valid_len}
use Rattle.std.proofs.lemmas.Str.{utf8_valid_len-IsUtf8}
use Rattle.domain_conf.proofs.read.document.Goals as goal

pub returns-in-Ok-table_from_str : goal.returns-in-Ok-table_from_str
returns-in-Ok-table_from_str c =
    let whole : (utf8_valid_len c.args.bytes.now == length c.args.bytes.now) ≡ true = eq-eqb _ _ (utf8_valid_len-IsUtf8 c.args.bytes.now c.in-Ok.ensures.cases.1) in
    rw (whole, ← c.in-Ok.ensures.cases.0, c.in-Ok-table_from_str.ensures.ok) refl
