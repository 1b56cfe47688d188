use Rattle.std.proofs.Common.{◌≡◌, ◌∙◌, true, ap, sym, subst, cond}
use Rattle.ld_table.specs.Table.{put, keep}
use Rattle.ld_op.specs.Plain.{survives_bridge}
use Rattle.ld_op.specs.Places.{filled, has_place}
use Rattle.ld_op.proofs.Accepts.{accept_is}
use Rattle.ld_op.proofs.entries.EntryMap.accept.Goals as goal
use Rattle.ld_op.proofs.entries.EntryMap.accept.Goals.{then-is_bridge, else-is_bridge}

pub put-requires : goal.put-requires
put-requires c = elim c.if-is_bridge.branch [
  | then-is_bridge w ↦ subst (λ m. has_place c.args.entry.number m ≡ true) (sym w.self-is) (w.end_at.ensures.place c.requires)
  | else-is_bridge w ↦ subst (λ m. has_place c.args.entry.number m ≡ true) (sym w.self-is) c.requires
]

pub returns : goal.returns
returns c = c.put.ensures.value ∙ (ap (put c.args.entry.number c.args.entry) (elim c.if-is_bridge.branch [
  | then-is_bridge w ↦ ap filled w.self-is ∙ (w.end_at.ensures.value ∙ ap (λ b. cond b (keep (λ s f. survives_bridge c.args.entry f) (filled c.args.self.now)) (filled c.args.self.now)) (w.if-is_bridge.ensures))
  | else-is_bridge w ↦ ap filled w.self-is ∙ ap (λ b. cond b (keep (λ s f. survives_bridge c.args.entry f) (filled c.args.self.now)) (filled c.args.self.now)) (w.if-is_bridge.ensures)
]) ∙ sym (accept_is c.args.entry c.args.entry.what (filled c.args.self.now)))
