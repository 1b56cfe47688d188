use Rattle.std.proofs.Common.{◌∙◌, Some, sym, ap, get_or}
use Rattle.std.proofs.lemmas.Option.{slice_get-get_or}
use Rattle.ld_mend.proofs.Logs as logs
use Rattle.ld_mend.proofs.mending.log_at.Goals as goal

pub returns : goal.returns
returns c =
    logs.log_at c.args.config.now.logs c.args.place (get_or c.args.config.now.logs c.args.place c.index-logs-place.result) (slice_get-get_or c.args.config.now.logs c.args.place c.index-logs-place.result c.requires)
    ∙ ap (λ l. Some (get_or l c.args.place c.index-logs-place.result).log) (sym c.as_slice-logs.ensures)
