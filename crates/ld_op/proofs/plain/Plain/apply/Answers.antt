use Rattle.std.proofs.Common.{◌∙◌, ap, sym, subst, ℕ, List}
use Rattle.ld_op.specs.Plain.{Log, Plain, apply}
use Rattle.ld_op.specs.Room.{Kept, IsFresh, there_of}
use Rattle.ld_op.specs.ShownPlain.{shown}
use Rattle.ld_op.specs.Cells.{placed}
use Rattle.ld_op.proofs.CellsMore.{named_same}
use Rattle.ld_op.proofs.There.{apply_is, format_is}
use Rattle.ld_op.proofs.plain.Plain.apply.Goals as goal

abbrev with_logs : ℕ → List (ℕ × Log) → Plain
with_logs g m = record { generation = g; logs = m }

pub returns-in-Some : goal.returns-in-Some
returns-in-Some c = ap (with_logs c.self.inside.generation) c.apply.ensures
    ∙ (sym (apply_is (shown c.self.inside).state (placed c.args.at c.args.op) c.in-Some.log (named_same c.args.at c.args.op ∙ (sym c.log.ensures ∙ c.in-Some.is))) ∙ ap (λ (k : Kept). apply k.state (placed c.args.at c.args.op)) c.self.view_is)

pub returns-in-Format : goal.returns-in-Format
returns-in-Format c = sym (format_is c.args.self.now.state (placed c.args.at c.args.op) c.in-Format.generation c.in-Format.epochs (there_of c.swap.new.x) (ap (placed c.args.at) c.in-Format.is)
    (ap there_of c.swap.ensures.x_after ∙ (ap (λ (k : Kept). k.fresh) c.self.view_is ∙ subst (λ o. IsFresh c.args.self.now o) c.in-Format.is c.requires.room.0)))
