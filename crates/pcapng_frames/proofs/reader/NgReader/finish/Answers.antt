use Rattle.std.proofs.Common.{◌<◌, ◌≤◌, drop, length, sym, ap, ◌∙◌, arith}
use Rattle.std.proofs.lemmas.List.{length-drop}
use Rattle.pcapng_frames.specs.Reading.{NgReading, ng_left}
use Rattle.pcapng_frames.proofs.ReadLaws.{end_left, left_some, left_none}
use Rattle.pcapng_frames.proofs.reader.NgReader.finish.Goals as goal

pub returns-then-len-self-clause-cut : goal.returns-then-len-self-clause-cut
returns-then-len-self-clause-cut c =
    let octets = drop c.self.inside.at c.self.inside.bytes.items in
    let some : 0 < length octets = omega (arith, c.len.ensures, length-drop c.self.inside.at c.self.inside.bytes.items) in
    sym (ap (λ (r : NgReading). ng_left r.octets) (sym c.self.view_is) ∙ left_some octets some)

pub returns-then-len-self-clause-exact : goal.returns-then-len-self-clause-exact
returns-then-len-self-clause-exact c =
    let octets = drop c.self.inside.at c.self.inside.bytes.items in
    let some : 0 < length octets = omega (arith, c.len.ensures, length-drop c.self.inside.at c.self.inside.bytes.items) in
    sym (end_left c.args.self c.requires ∙ ap (λ (r : NgReading). ng_left r.octets) (sym c.self.view_is) ∙ left_some octets some)

pub returns-clause-exact : goal.returns-clause-exact
returns-clause-exact c =
    let octets = drop c.self.inside.at c.self.inside.bytes.items in
    let none : length octets ≤ 0 = omega (arith, c.len.ensures, length-drop c.self.inside.at c.self.inside.bytes.items) in
    sym (end_left c.args.self c.requires ∙ ap (λ (r : NgReading). ng_left r.octets) (sym c.self.view_is) ∙ left_none octets none)
