use Rattle.std.proofs.Common.{refl, sym, ◌∙◌, ap, subst, inl, inr, ⊎_elim, true≢false, Err}
use Rattle.ld_disk.specs.Memory.{disk_plain}
use Rattle.ld_node_bounds.specs.Messages.{AreMessages}
use Rattle.ld_node.specs.Node.{id_of, known_of, released_of, plain_of, disk_of, layout_of, slots_of}
use Rattle.ld_node.specs.Msgs.{handled}
use Rattle.ld_host.proofs.Fates.{fine_reads}
use Rattle.ld_host.proofs.Rising.{some_is}
use Rattle.ld_host.specs.States.{Refuses}
use Rattle.ld_host.proofs.Answering.{Refused, answered, refuses_it, ok_is_none, error_in, either_error}
use Rattle.ld_host.proofs.run.answer.Goals as goal

pub returns-in-Ok-clause-stands : goal.returns-in-Ok-clause-stands
returns-in-Ok-clause-stands c settings n x runs to has =
    let node = c.args.node in
    let m = c.args.msg.now in
    let new = c.on_msg.new.self in
    let told = c.in-Ok.ensures in
    let p = disk_plain (disk_of node) in
    let fine = fine_reads x.fault p runs.lies.armed in
    let exact = told.exact p runs.holds refl fine (inl refl) in
    let done = answered settings n node x m runs c.requires.msg node.store.well c.requires.formatted to has (handled (id_of node) (known_of node) (released_of node) (plain_of node) m) new refl
    told.rest.0 told.rest.1 told.released (told.laid runs.holds) (told.acknowledged runs.holds) (λ past. ok_is_none c.in-Ok.replies (told.too_long p runs.holds refl fine past)) (some_is (disk_plain (disk_of new)) _ exact.0) (sym exact.1) in
    (done.0, done.1, c.new.ensures ∙ (c.into_vec.ensures ∙ (told.replies runs.holds ∙ done.2)))

pub returns-in_ok-state-in-Err-clause-stands : goal.returns-in_ok-state-in-Err-clause-stands
returns-in_ok-state-in-Err-clause-stands c settings n x runs to has =
    let node = c.args.node in
    let m = c.args.msg.now in
    let new = c.on_msg.new.self in
    let told = c.in-Err.ensures in
    let fault = c.in-Err.fault in
    let p = disk_plain (disk_of node) in
    let q = disk_plain c.into_disk.result in
    let h = handled (id_of node) (known_of node) (released_of node) (plain_of node) m in
    let now = ap disk_plain c.into_disk.ensures in
    let fine = fine_reads x.fault p runs.lies.armed in
    let not : Refused (layout_of node) (slots_of node) h.op fault p q = record {
      full = λ is. told.full runs.holds (ap Err is);
      too_long = λ past. either_error fault (told.too_long p runs.holds refl fine past);
      keeps = ⊎_elim (λ is. inl (error_in fault _ is)) (λ same. inr (now ∙ some_is (disk_plain (disk_of new)) p same.0)) (told.keeps p refl fine);
      exact = λ is. let e = told.exact p runs.holds refl fine (inr (ap Err is)) in (now ∙ some_is (disk_plain (disk_of new)) _ e.0, sym e.1);
      loaded = λ is. absurd (true≢false (sym (told.needs_load.0 (ap Err is)) ∙ runs.holds.works));
      damaged = λ at is. told.damaged at runs.holds (ap Err is);
      register = λ f is. told.register f (ap Err is);
    } in
    let left = c.in_ok-state-in-Err.ensures in
    let refuses : Refuses fault q (c.in_ok-state-in-Err.state, c.in_ok-state-in-Err.kept) = record { full = left.full; failed = left.failed; crashed = left.crashed; memory = left.memory } in
    let done = refuses_it settings n node x m runs c.requires.msg node.store.well c.requires.formatted to has h fault q (c.in_ok-state-in-Err.state, c.in_ok-state-in-Err.kept) refl not refuses in
    (done.0, done.1, c.empty.ensures ∙ done.2)

pub returns-in-Ok-clause-messages : goal.returns-in-Ok-clause-messages
returns-in-Ok-clause-messages c = subst AreMessages (sym (c.new.ensures ∙ c.into_vec.ensures)) c.in-Ok.ensures.messages
