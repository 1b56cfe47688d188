use Rattle.std.proofs.Common.{◌≡◌, ◌&&◌, ◌==◌, ℕ, List, Some, None, cond, ap, sym, ◌∙◌, subst, if◌then◌else◌}
use Rattle.ld_table.specs.Words.{or_else}
use Rattle.ld_clients.specs.Places.{kept_place}
use Rattle.ld_clients.proofs.Names.{none_is}
use Rattle.ld_clients.proofs.Standing.{kept_now}
use Rattle.ld_clients.proofs.places.Places.note.Goals as goal

pub returns-clause-ok : goal.returns-clause-ok
returns-clause-ok c = λ l e. subst (λ n. kept_place l e c.insert.new.self.entries ≡ or_else (kept_place l e c.args.self.now) (if (n == l) && (c.args.epoch == e) then Some c.args.place else None)) c.number.ensures.value
    (kept_now c.number.result c.args.epoch c.args.place c.args.self.now c.insert.new.self.entries
    (ap (kept_place c.number.result c.args.epoch) (sym c.self.view_is) ∙ none_is (kept_place c.number.result c.args.epoch c.self.inside.map.entries) (sym c.contains_key.ensures ∙ c.if-contains_key.false))
    (λ q. c.in_ok-insert.ensures.updates.0 q ∙ ap (λ (m : List ((ℕ × ℕ) × ℕ)). cond ((c.number.result == q.0) && (c.args.epoch == q.1)) (Some c.args.place) (kept_place q.0 q.1 m)) c.self.view_is)
    l e)
