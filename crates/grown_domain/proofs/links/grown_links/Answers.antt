use Rattle.std.proofs.Common.{◌≡◌, ◌%◌, List, true, false, sym, ap, ◌∙◌, arith}
use Rattle.std.proofs.lemmas.Bool.{eq-eqb, ne_eqb}
use Rattle.grown_domain.specs.declared.links.Link.{Link}
use Rattle.grown_domain.specs.Links.{chord, with_link, grown_links}
use Rattle.grown_domain.proofs.GrownLinks.{linked, linked_more}
use Rattle.grown_domain.proofs.links.grown_links.Goals as goal
use Rattle.grown_domain.proofs.links.grown_links.Goals.{then-i-eq0+in_ok-push_new, else-i-eq0}

pub loop-i-preserved : goal.loop-i-preserved
loop-i-preserved c =
    let n = c.args.n in
    let i = c.loop-i.i in
    elim c.if-i-eq0.branch [
      | then-i-eq0+in_ok-push_new w ↦
          w.links-is ∙ w.in_ok-push_new.ensures ∙ ap (with_link c.loop-i.links) w.chord.ensures ∙ ap (λ (ls : List Link). with_link ls (chord n i)) c.loop-i.invariant
          ∙ sym (linked_more n i true (eq-eqb (i % 5) 0 w.if-i-eq0.true))
      | else-i-eq0 w ↦ w.links-is ∙ c.loop-i.invariant ∙ sym (linked_more n i false (ne_eqb (i % 5) 0 w.if-i-eq0.false))
    ]

pub returns : goal.returns
unfolding grown_links
returns c = let all : c.loop-i.i ≡ c.args.n = omega arith in c.loop-i.invariant ∙ ap (linked c.args.n) all
