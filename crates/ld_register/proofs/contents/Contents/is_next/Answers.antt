use Rattle.std.proofs.Common.{◌∙◌, ◌+◌, ◌&&◌, ◌==◌, ap, sym, not}
use Rattle.std.specs.Prelude.{nat_lt}
use Rattle.ld_msg.specs.Register.{is_crowded, swappable, swap_limit}
use Rattle.ld_register.specs.Changes.{is_next}
use Rattle.ld_register.specs.Kept.{register_of}
use Rattle.ld_register.proofs.contents.Contents.is_next.Goals as goal

pub returns-in-Activate : goal.returns-in-Activate
returns-in-Activate c n = c.is_behind.ensures ∙ (ap (λ b. not b && (c.epoch.result + 1 == c.in-Activate.epoch)) (c.is_crowded.ensures n)
    ∙ (ap (λ e. not (is_crowded (register_of c.args.self.now n) c.in-Activate.spec.log) && (e + 1 == c.in-Activate.epoch)) (c.epoch.ensures.value n) ∙ ap (is_next (register_of c.args.self.now n)) (sym c.in-Activate.is)))

pub returns-in-Unfixed : goal.returns-in-Unfixed
returns-in-Unfixed c n = c.is_behind-in-Unfixed.ensures ∙ (ap (λ b. not b && (c.epoch-in-Unfixed.result + 1 == c.in-Unfixed.epoch)) (c.is_crowded-in-Unfixed.ensures n)
    ∙ (ap (λ e. not (is_crowded (register_of c.args.self.now n) c.in-Unfixed.log) && (e + 1 == c.in-Unfixed.epoch)) (c.epoch-in-Unfixed.ensures.value n) ∙ ap (is_next (register_of c.args.self.now n)) (sym c.in-Unfixed.is)))

pub returns-in-Close : goal.returns-in-Close
returns-in-Close c n = c.is_behind-in-Close.ensures ∙ (ap (λ b. not b && (c.lce.result + 1 == c.in-Close.epoch)) (c.is_crowded-in-Close.ensures n)
    ∙ (ap (λ e. not (is_crowded (register_of c.args.self.now n) c.in-Close.log) && (e + 1 == c.in-Close.epoch)) (c.lce.ensures.value n) ∙ ap (is_next (register_of c.args.self.now n)) (sym c.in-Close.is)))

pub returns-in-Lossless : goal.returns-in-Lossless
returns-in-Lossless c n = c.is_behind-in-Lossless.ensures ∙ (ap (λ b. not b && (c.lce-in-Lossless.result + 1 == c.in-Lossless.epoch)) (c.is_crowded-in-Lossless.ensures n)
    ∙ (ap (λ e. not (is_crowded (register_of c.args.self.now n) c.in-Lossless.log) && (e + 1 == c.in-Lossless.epoch)) (c.lce-in-Lossless.ensures.value n) ∙ ap (is_next (register_of c.args.self.now n)) (sym c.in-Lossless.is)))

pub returns-in-Draw : goal.returns-in-Draw
returns-in-Draw c n = c.is_behind-in-Draw.ensures ∙ (ap (λ e. e + 1 == c.in-Draw.generation) (c.generation.ensures n) ∙ ap (is_next (register_of c.args.self.now n)) (sym c.in-Draw.is))

pub returns-in-Swap : goal.returns-in-Swap
returns-in-Swap c n = c.is_swap.ensures ∙ (ap (λ k. nat_lt 0 k && nat_lt c.swaps.result swap_limit) (c.swappable.ensures n)
    ∙ (ap (λ k. nat_lt 0 (swappable (register_of c.args.self.now n) c.in-Swap.log c.in-Swap.upto c.in-Swap.member c.in-Swap.spare) && nat_lt k swap_limit) (c.swaps.ensures n) ∙ ap (is_next (register_of c.args.self.now n)) (sym c.in-Swap.is)))
