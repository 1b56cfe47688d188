use Rattle.std.proofs.Common.{◌-◌, ◌^◌, ◌∙◌, ap, min, length}
use Rattle.ld_op.specs.Places.{filled}
use Rattle.ld_op.proofs.Tables.{entries_of}
use Rattle.ld_op.proofs.Taken.{tables_sum}
use Rattle.ld_op.specs.Indexed.{entries_bytes_based}
use Rattle.ld_op.proofs.sizes.tables_length.Goals as goal

pub returns : goal.returns
returns c = (cc) ∙ tables_sum c.args.state.now.log c.count_summaries.result c.count_lngs.result c.entries_length-entries.result
    (c.count_summaries.ensures ∙ (ap (λ m. length (filled m)) c.places.ensures ∙ ap length c.summaries.ensures))
    (c.count_lngs.ensures ∙ (ap (λ m. length (filled m)) c.places-2.ensures ∙ ap length c.lngs.ensures))
    (c.entries_length-entries.ensures ∙ (ap (λ m. min (length (entries_of m)) (2 ^ 64 - 1)) c.places-3.ensures ∙ ap (λ m. min (length (entries_bytes_based m)) (2 ^ 64 - 1)) c.entries.ensures))
