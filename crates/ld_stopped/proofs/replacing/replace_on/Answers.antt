use Rattle.std.proofs.Common.{◌≡◌, inl, inr, refl, subst, Option, List, ℕ}
use Rattle.std.specs.Prelude.{IfSome}
use Rattle.ld_op.specs.Plain.{Plain}
use Rattle.ld_node.specs.Known.{Known, known_in}
use Rattle.ld_node.specs.Node.{id_of, known_of, IsOpened}
use Rattle.ld_stopped.specs.Replacing.{Replaces, replaced_text}
use Rattle.ld_stopped.proofs.Openings.{marked_or}
use Rattle.ld_stopped.proofs.Swapping.{replaces_unasked, load_register, swapped_disk, swapped_cause, on_ok}
use Rattle.ld_stopped.proofs.Telling.{load_output}
use Rattle.ld_stopped.proofs.replacing.replace_on.Goals as goal

pub returns-in-Err-clause-replaces : goal.returns-in-Err-clause-replaces
returns-in-Err-clause-replaces g c bytes p e stands =
    let G = g.G.Register in
    let reg = c.args.reg.now in
    replaces_unasked c.args.id (known_in c.args.config.now) p c.args.log c.args.other (G.told reg) _ (G.tells reg) (G.holds reg) (G.may_hold reg) (replaced_text c.args.id c.args.log c.args.other) (g.O.Sink.written c.args.out.now) (g.O.Sink.written c.args.out.now) _ _ bytes _ _ _ _ _ stands e c.in-Err.ensures.refused refl

pub returns-in-Err-clause-cause : goal.returns-in-Err-clause-cause
returns-in-Err-clause-cause g c = inl (record { loaded = c.in-Err.ensures.refused; register = refl })

pub returns-in-Err-clause-same : goal.returns-in-Err-clause-same
returns-in-Err-clause-same g c = marked_or _ _ _ c.in-Err.ensures.refused.bytes

pub returns-in-Err-clause-register_counts : goal.returns-in-Err-clause-register_counts
returns-in-Err-clause-register_counts g c = load_register _ _ _ _ _ c.in-Err.ensures.refused.cause

pub returns-in-Err-clause-output_counts : goal.returns-in-Err-clause-output_counts
returns-in-Err-clause-output_counts g c = load_output _ _ _ _ _ c.in-Err.ensures.refused.cause

pub returns-clause-replaces : goal.returns-clause-replaces
returns-clause-replaces g c bytes p e stands =
    let G = g.G.Register in
    let O = g.O.Sink in
    let node = c.in-Ok.node in
    let old = c.args.reg.now in
    let new = c.take_place-replaced.new.reg in
    let l = c.args.log in
    let other = c.args.other in
    let is = c.in-Ok.ensures.node in
    let opened = subst (λ (o : Option (List ℕ)). IfSome o (IsOpened g.D.Disk.seen g.D.Disk.may_leave node)) e c.in-Ok.ensures.opens in
    let R : (i : ℕ) (known : Known) (q : Plain) → Type 0 = λ i known q. Replaces i known q l other (G.told old) (new ≡ old) (G.tells old) (G.tells new) (G.holds old) (G.holds new) (G.may_hold old) (G.may_hold new) (replaced_text c.args.id l other)
    (O.written c.args.out.now) (O.written c.take_place-replaced.new.out) c.take_place-replaced.result in
    subst (λ (i : ℕ). R i (known_in c.args.config.now) p) is.0 (subst (λ (known : Known). R (id_of node) known p) is.1 (subst (λ (q : Plain). R (id_of node) (known_of node) q) (opened.plain p stands) c.take_place-replaced.ensures.replaces))

pub returns-clause-formatted : goal.returns-clause-formatted
returns-clause-formatted g c = on_ok _ c.take_place-replaced.result c.in-Ok.ensures.formatted

pub returns-clause-cause : goal.returns-clause-cause
returns-clause-cause g c = swapped_cause _ _ c.take_place-replaced.result c.take_place-replaced.ensures.cause

pub returns-clause-same : goal.returns-clause-same
returns-clause-same g c = rw c.into_disk.ensures (inr c.in-Ok.ensures.same)

pub returns-clause-disk_counts : goal.returns-clause-disk_counts
returns-clause-disk_counts g c = rw c.into_disk.ensures (swapped_disk _ _ _ _ _ _ _ _ _ _ c.take_place-replaced.result c.in-Ok.ensures.counts c.take_place-replaced.ensures.cause)
