use Rattle.std.proofs.Common.{◌≡◌, ◌∙◌, ◌-◌, ℕ, List, ◌++◌, length, take, drop, codes, decimal, ap}
use Rattle.std.proofs.lemmas.List.{take_rest}
use Rattle.domain_model.specs.World.{ids_in_flight}
use Rattle.domain_replay.specs.Lines.{done_text}
use Rattle.command_replay.proofs.Steps.{if_ok_then}
use Rattle.command_grow.specs.Grow.{summary}
use Rattle.command_grow.proofs.GrowLaws.{summary_is}
use Rattle.command_grow.proofs.growing.Growing.push_summary.Goals as goal

pub returns : goal.returns
returns c =
    let s = c.args.self.now in
    let flight = ids_in_flight s.replay.world.flights in
    let done = c.as_slice.result.now in
    let old = c.args.report.now in
    let is : done ≡ done_text 18 s.replay.counts flight =
    c.as_slice.ensures ∙ c.in_ok-done.ensures.ok ∙ ap (λ (l : List ℕ). l ++ done_text c.from.result s.replay.counts flight) c.new-done.ensures ∙ ap (λ (m : ℕ). done_text m s.replay.counts flight) c.from.ensures in
    let words : c.append.new.self ≡ old ++ codes "grow " = c.in_ok-append.ensures.ok in
    let digits : c.append_number.new.self ≡ (old ++ codes "grow ") ++ decimal s.n =
    c.in_ok-append_number.ensures.ok ∙ ap (λ (m : ℕ). c.append.new.self ++ decimal m) c.from-2.ensures ∙ ap (λ (l : List ℕ). l ++ decimal s.n) words in
    if_ok_then (λ u. c.append-2.new.self ≡ c.append_number.new.self ++ take (length done - 13) (drop 13 done)) (λ u. c.append-2.new.self ≡ old ++ summary s.n s.replay.counts flight) c.append-2.result
    (λ u last. summary_is s.n s.replay.counts flight done old c.append-2.new.self is
    (last ∙ ap (λ (l : List ℕ). c.append_number.new.self ++ l) (take_rest done 13) ∙ ap (λ (l : List ℕ). l ++ drop 13 done) digits))
    c.append-2.ensures.ok
