-- The index of a Base that was read is one of a journal.
use Rattle.std.proofs.Common.{◌==◌, ap, subst}
use Rattle.ld_fields.specs.Fields.{field}
use Rattle.ld_fields.proofs.Unspelling.{field_spells, by_follow, by_check, ended}
use Rattle.ld_op.specs.Indexed.{read_index, read_table}
use Rattle.ld_layout.specs.Base.{read_area, judge_base, is_base_kind}
use Rattle.ld_layout.specs.LaidOut.{base_of}
use Rattle.ld_segment.specs.Later.{IsJudged}
use Rattle.ld_segment.specs.declared.later.Later.{Later}
use Rattle.ld_store.proofs.Judged.{judged_well}
use Rattle.ld_store.specs.Well.{IsWell}
use Rattle.std.proofs.Common.{length}

pub base_well : (c : Later) → IsJudged c → IsWell c.based.index.state
unfolding judge_base
base_well c j =
    let bs = j.body in
    let b = base_of c.based in
    let last = length bs in
    by_follow (field 1 bs 0) _ b last j.is (λ kind at f r.
    by_check (is_base_kind kind) 0 _ b last r (λ ok r.
    by_follow (read_index bs (kind == 9) at) _ b last r (λ index at_areas g r.
    by_follow (read_table bs (read_area bs) at_areas) _ b last r (λ areas next h r.
    subst (λ p. IsWell p) (ap (λ d. d.index) (ended bs next _ b last r).1)
    (judged_well bs (kind == 9) at index at_areas j.bytes (field_spells 1 bs 0 kind at j.bytes f).spelled.within g)))))
