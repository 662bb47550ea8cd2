use Rattle.std.proofs.Common.{◌==◌, List, map, filter, ap, ◌∙◌}
use Rattle.wire_base.specs.declared.conf.LabelRange.{LabelRange}
use Rattle.wire_base.specs.declared.conf.OwnSub.{OwnSub}
use Rattle.domain_conf.specs.declared.labels.LabelsEntry.{LabelsEntry}
use Rattle.domain_conf.proofs.GroupLemmas.{ranges_in_group}
use Rattle.domain_conf.proofs.assemble.sub_of.Goals as goal

pub returns : goal.returns
returns c =
    let make : List LabelRange → OwnSub = λ ranges. record { sd = c.args.bier.now.sd; id = c.args.bier.now.id; ranges = ranges } in
    ap make
    (c.in_ok-ranges_in.ensures
    ∙ (ap (λ (group : List LabelsEntry). map (λ (l : LabelsEntry). l.range) (filter (λ (l : LabelsEntry). l.sd == c.args.bier.now.sd) group)) c.of.ensures
    ∙ ranges_in_group c.args.bier.now.router c.args.bier.now.sd c.args.labels.now))
