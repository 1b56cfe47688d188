use Rattle.std.proofs.Common.{refl, sym, ◌∙◌, ap, inl, inr, ⊎_elim, true≢false, Err}
use Rattle.ld_disk.specs.Memory.{disk_plain}
use Rattle.ld_register.specs.Calls.{unarmed}
use Rattle.ld_node.specs.Looks.{ticked, op_of}
use Rattle.ld_node.specs.Node.{known_of, plain_of, disk_of, layout_of, slots_of}
use Rattle.ld_host.specs.States.{Refuses}
use Rattle.ld_host.proofs.Rising.{some_is}
use Rattle.ld_host.proofs.Answering.{Refused, ok_no_error, error_in}
use Rattle.ld_host.proofs.Ticking.{ticked_well, tick_stops}
use Rattle.ld_host.proofs.tick.look.Goals as goal

pub returns-in-Ok-clause-stands : goal.returns-in-Ok-clause-stands
returns-in-Ok-clause-stands g c settings n x r runs has closed tells =
    let node = c.args.node in
    let l = c.args.log in
    let new = c.tick.new.self in
    let told = c.in-Ok.ensures in
    let held = g.met.G.Register.tells_what_is_held c.args.reg.now r tells in
    let exact = told.exact (unarmed r) (disk_plain (disk_of node)) held refl (inl refl) in
    let done = ticked_well settings n node x l r runs c.requires.formatted has closed (ticked (known_of node) (plain_of node) l (unarmed r)) new c.in-Ok.ticked refl
    told.rest.0 told.rest.1 told.rest.2 (told.laid (unarmed r) held) (told.acknowledged runs.holds) (told.change (unarmed r) held (inl refl))
    (λ past. ⊎_elim (λ e. ok_no_error c.in-Ok.ticked _ e) (λ e. ⊎_elim (λ f. ok_no_error c.in-Ok.ticked _ f) (λ f. ok_no_error c.in-Ok.ticked _ f.1) e) (told.too_long (unarmed r) held runs.holds.works past))
    (some_is (disk_plain (disk_of new)) _ exact.0) (sym exact.1) (told.answer (unarmed r) held) in
    (done.0, told.tells r tells, done.1, done.2)

pub returns-in_ok-state-in-Err-clause-stands : goal.returns-in_ok-state-in-Err-clause-stands
returns-in_ok-state-in-Err-clause-stands g c settings n x r runs has closed tells =
    let node = c.args.node in
    let l = c.args.log in
    let new = c.tick.new.self in
    let told = c.in-Err.ensures in
    let fault = c.in-Err.fault in
    let p = disk_plain (disk_of node) in
    let q = disk_plain c.into_disk.result in
    let t = ticked (known_of node) (plain_of node) l (unarmed r) in
    let now = ap disk_plain c.into_disk.ensures in
    let held = g.met.G.Register.tells_what_is_held c.args.reg.now r tells in
    let not : Refused (layout_of node) (slots_of node) (op_of l t) fault p q = record {
      full = λ is. told.full (unarmed r) runs.holds held (ap Err is);
      too_long = λ past. ⊎_elim (λ e. inl (error_in fault _ e)) (λ e. ⊎_elim (λ f. inr (error_in fault _ f)) (λ f. absurd (told.foretold r f.0 tells f.1)) e) (told.too_long (unarmed r) held runs.holds.works past);
      keeps = ⊎_elim (λ is. inl (error_in fault _ is)) (λ same. inr (now ∙ some_is (disk_plain (disk_of new)) p same.0)) told.keeps;
      exact = λ is. let e = told.exact (unarmed r) p held refl (inr (ap Err is)) in (now ∙ some_is (disk_plain (disk_of new)) _ e.0, sym e.1);
      loaded = λ is. absurd (true≢false (sym (told.needs_load.0 (ap Err is)) ∙ runs.holds.works));
      damaged = λ at is. told.damaged at (ap Err is);
      register = λ f is. told.foretold r f tells (ap Err is);
    } in
    let left = c.in_ok-state-in-Err.ensures in
    let refuses : Refuses fault q (c.in_ok-state-in-Err.state, c.in_ok-state-in-Err.kept) = record { full = left.full; failed = left.failed; crashed = left.crashed; memory = left.memory } in
    let done = tick_stops settings n node x l r runs c.requires.formatted has closed t fault q (c.in_ok-state-in-Err.state, c.in_ok-state-in-Err.kept) refl
    (λ is. told.change (unarmed r) held (⊎_elim (λ e. inr (inl (ap Err e))) (λ e. inr (inr (ap Err e))) is)) not refuses in
    (done.0, told.tells r tells, done.1, done.2)
