-- Whether an LSP ID is unknown, by the entry that is there (ISO/IEC 10589, 7.3.16).
use Rattle.std.proofs.Common.{◌≡◌, Bool, true, false, if◌then◌else◌, Option, Some, None, is_none, refl}
use Rattle.std.specs.Prelude.{◌==◌, nat_lt}
use Rattle.wire_base.specs.declared.entry.Age.TheVariants.{Newer, Equal, Older}
use Rattle.wire_base.specs.declared.entry.Entry.{Entry}
use Rattle.wire_base.specs.declared.triple.Summary.{Summary}
use Rattle.wire_base.specs.model.Control.{age_of, age_by_life, is_unknown}

pub known_age : (e : Entry) (s : Summary) → is_unknown (age_of (Some e) s) ≡ false
known_age e s = cases (e.seq == s.seq) (s.seq == 0) (nat_lt e.seq s.seq) (e.life == 0) (s.life == 0) (e.sum == s.sum)
  where
    lives : (x y z : Bool) → is_unknown (age_by_life x y z) ≡ false
    lives true true z = refl
    lives true false z = refl
    lives false true z = refl
    lives false false true = refl
    lives false false false = refl

    cases : (a b c x y z : Bool) → is_unknown (if a then (if b then Equal else age_by_life x y z) else (if c then Newer else Older)) ≡ false
    cases true true c x y z = refl
    cases true false c x y z = lives x y z
    cases false b true x y z = refl
    cases false b false x y z = refl

pub unknown_is_none : (o : Option Entry) (s : Summary) → is_unknown (age_of o s) ≡ is_none o
unknown_is_none None s = refl
unknown_is_none (Some e) s = known_age e s
