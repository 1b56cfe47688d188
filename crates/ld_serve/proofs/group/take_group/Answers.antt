use Rattle.std.proofs.Common.{◌≡◌, ◌++◌, ℕ, List, [], length, Some, sym, ap, ◌∙◌, subst, refl, inl, arith}
use Rattle.std.proofs.lemmas.Result.{err_from_is_err_and}
use Rattle.ld_crowd.specs.Serving.{put}
use Rattle.ld_wire.specs.Frames.{frame_of}
use Rattle.ld_node.specs.Node.{id_of, known_of, disk_of, layout_of, Holds, HoldsOr}
use Rattle.ld_serve.specs.declared.group.Ending.{Ending}
use Rattle.ld_serve.specs.Chats.{held_in}
use Rattle.ld_serve.specs.Serving.{state_of}
use Rattle.ld_serve.specs.Group.{waiting_in, Gathers, Ends}
use Rattle.ld_serve.specs.Told.{memory_of}
use Rattle.ld_serve.proofs.Looks.{Held}
use Rattle.ld_serve.proofs.Groups.{none_gathered, tried, tried_as, lost_of}
use Rattle.ld_serve.proofs.group.take_group.Goals as goal

pub returns-in_err-ending-clause-gathered : goal.returns-in_err-ending-clause-gathered
returns-in_err-ending-clause-gathered g c =
    let node = c.args.node.now in
    let Is : Type 0 = Holds g.D.Disk.seen g.D.Disk.may_leave node in
    let first : Held = put c.args.peer (Some (frame_of c.args.message ++ c.args.decoder.bytes)) (held_in c.args.chats.now.chats) in
    let p = err_from_is_err_and c.from_residual.result c.from_residual.ensures.1 in
    rw p.1 (lost_of (id_of node) (known_of node) Is [] first first (state_of node) (state_of node) (memory_of node) (memory_of node) (HoldsOr g.D.Disk.seen g.D.Disk.may_leave node) [] (g.D.Disk.may_leave (disk_of c.stage.new.node))
    (none_gathered (id_of node) (known_of node) Is first (state_of node) (memory_of node) (HoldsOr g.D.Disk.seen g.D.Disk.may_leave node) (λ holds. inl (holds, refl))) (λ p holds bytes left. c.in_err-ending.ensures.leaves p bytes holds left))

pub returns-in_default-clause-gathered : goal.returns-in_default-clause-gathered
returns-in_default-clause-gathered g c =
    let node = c.args.node.now in
    let Is : Type 0 = Holds g.D.Disk.seen g.D.Disk.may_leave node in
    let first : Held = put c.args.peer (Some (frame_of c.args.message ++ c.args.decoder.bytes)) (held_in c.args.chats.now.chats) in
    let Stood = HoldsOr g.D.Disk.seen g.D.Disk.may_leave node in
    (tried (id_of node) (known_of node) Is (waiting_in c.args.group.now.answers.items) (waiting_in c.stage.new.group.answers.items) first first (held_in c.stage.new.chats.chats) (state_of node) (state_of node) (state_of c.stage.new.node) (memory_of node) (memory_of node) (memory_of c.stage.new.node)
    (layout_of c.stage.new.node) Stood (HoldsOr g.D.Disk.seen g.D.Disk.may_leave c.stage.new.node)
    (subst (λ (w : List (ℕ × List ℕ)). Gathers (id_of node) (known_of node) Is w first first (state_of node) (state_of node) (memory_of node) (memory_of node) Stood []) (sym c.requires.first)
    (none_gathered (id_of node) (known_of node) Is first (state_of node) (memory_of node) Stood (λ holds. inl (holds, refl)))) c.in_ok-ending.ending c.in_ok-ending.ensures.tries)

pub returns-in_default-clause-few : goal.returns-in_default-clause-few
returns-in_default-clause-few g c =
    let none : length (waiting_in c.args.group.now.answers.items) ≡ 0 = ap length c.requires.first in
    omega (arith, c.in_ok-ending.ensures.few, none, c.requires.some)

pub frames-init : goal.frames-init
frames-init g c =
    let node = c.args.node.now in
    let Is : Type 0 = Holds g.D.Disk.seen g.D.Disk.may_leave node in
    let first : Held = put c.args.peer (Some (frame_of c.args.message ++ c.args.decoder.bytes)) (held_in c.args.chats.now.chats) in
    let Stood = HoldsOr g.D.Disk.seen g.D.Disk.may_leave node in
    let none : length (waiting_in c.args.group.now.answers.items) ≡ 0 = ap length c.requires.first in
    let few = rw c.in-More.is at c.in_ok-ending.ensures.few in
    record {
      gathers =
          subst (λ (e : Ending). Ends (id_of node) (known_of node) Is (waiting_in c.stage.new.group.answers.items) first (held_in c.stage.new.chats.chats) (state_of node) (state_of c.stage.new.node) (memory_of node) (memory_of c.stage.new.node) (layout_of c.stage.new.node) (HoldsOr g.D.Disk.seen g.D.Disk.may_leave c.stage.new.node) e) c.in-More.is
          (tried (id_of node) (known_of node) Is (waiting_in c.args.group.now.answers.items) (waiting_in c.stage.new.group.answers.items) first first (held_in c.stage.new.chats.chats) (state_of node) (state_of node) (state_of c.stage.new.node) (memory_of node) (memory_of node) (memory_of c.stage.new.node)
          (layout_of c.stage.new.node) Stood (HoldsOr g.D.Disk.seen g.D.Disk.may_leave c.stage.new.node)
          (subst (λ (w : List (ℕ × List ℕ)). Gathers (id_of node) (known_of node) Is w first first (state_of node) (state_of node) (memory_of node) (memory_of node) Stood []) (sym c.requires.first)
          (none_gathered (id_of node) (known_of node) Is first (state_of node) (memory_of node) Stood (λ holds. inl (holds, refl)))) c.in_ok-ending.ending c.in_ok-ending.ensures.tries);
      few = omega (arith, few, none);
      id = c.in_ok-ending.ensures.rest.0;
      known = c.in_ok-ending.ensures.rest.1;
      blank = c.in_ok-ending.ensures.rest.2;
      works = c.in_ok-ending.ensures.works;
      itself = c.in_ok-ending.ensures.itself;
      disk = c.in_ok-ending.ensures.disk_counts;
    }

pub returns-in_err-ending-2-clause-gathered : goal.returns-in_err-ending-2-clause-gathered
returns-in_err-ending-2-clause-gathered g c =
    let node = c.args.node.now in
    let Is : Type 0 = Holds g.D.Disk.seen g.D.Disk.may_leave node in
    let first : Held = put c.args.peer (Some (frame_of c.args.message ++ c.args.decoder.bytes)) (held_in c.args.chats.now.chats) in
    let p = err_from_is_err_and c.from_residual-in_err-ending-2.result c.from_residual-in_err-ending-2.ensures.1 in
    rw p.1 (lost_of (id_of node) (known_of node) Is (waiting_in c.frames.group.answers.items) first (held_in c.frames.chats.chats) (state_of node) (state_of c.frames.node) (memory_of node) (memory_of c.frames.node) (HoldsOr g.D.Disk.seen g.D.Disk.may_leave c.frames.node) []
    (g.D.Disk.may_leave (disk_of c.take_next.new.node)) c.frames.invariant.gathers (λ p holds bytes left. c.in_err-ending-2.ensures.leaves p bytes holds left))

pub returns-in_default-2-clause-gathered : goal.returns-in_default-2-clause-gathered
returns-in_default-2-clause-gathered g c =
    let node = c.args.node.now in
    let Is : Type 0 = Holds g.D.Disk.seen g.D.Disk.may_leave node in
    let first : Held = put c.args.peer (Some (frame_of c.args.message ++ c.args.decoder.bytes)) (held_in c.args.chats.now.chats) in
    (tried_as (id_of node) (known_of node) Is _ _ c.frames.invariant.id c.frames.invariant.known (waiting_in c.frames.group.answers.items) (waiting_in c.take_next.new.group.answers.items) first (held_in c.frames.chats.chats) (held_in c.take_next.new.chats.chats)
    (state_of node) (state_of c.frames.node) (state_of c.take_next.new.node) (memory_of node) (memory_of c.frames.node) (memory_of c.take_next.new.node) (layout_of c.take_next.new.node) (HoldsOr g.D.Disk.seen g.D.Disk.may_leave c.frames.node) (HoldsOr g.D.Disk.seen g.D.Disk.may_leave c.take_next.new.node)
    c.frames.invariant.gathers c.in_ok-ending-2.ending c.in_ok-ending-2.ensures.tries)

pub returns-in_default-2-clause-few : goal.returns-in_default-2-clause-few
returns-in_default-2-clause-few g c =
    omega (arith, c.in_ok-ending-2.ensures.few, c.frames.invariant.few, c.frames-test.true)

pub returns-in_default-2-clause-rest : goal.returns-in_default-2-clause-rest
returns-in_default-2-clause-rest g c = (c.in_ok-ending-2.ensures.rest.0 ∙ c.frames.invariant.id, c.in_ok-ending-2.ensures.rest.1 ∙ c.frames.invariant.known, c.in_ok-ending-2.ensures.rest.2)

pub returns-in_default-2-clause-itself : goal.returns-in_default-2-clause-itself
returns-in_default-2-clause-itself g c = c.in_ok-ending-2.ensures.itself ∙ c.frames.invariant.itself

pub returns-in_default-2-clause-works : goal.returns-in_default-2-clause-works
returns-in_default-2-clause-works g c = c.in_ok-ending-2.ensures.works

pub returns-in_default-2-clause-disk_counts : goal.returns-in_default-2-clause-disk_counts
returns-in_default-2-clause-disk_counts g c = c.in_ok-ending-2.ensures.disk_counts ∙ c.frames.invariant.disk

pub frames-preserved : goal.frames-preserved
frames-preserved g c =
    let node = c.args.node.now in
    let Is : Type 0 = Holds g.D.Disk.seen g.D.Disk.may_leave node in
    let first : Held = put c.args.peer (Some (frame_of c.args.message ++ c.args.decoder.bytes)) (held_in c.args.chats.now.chats) in
    let few = rw c.in-More-2.is at c.in_ok-ending-2.ensures.few in
    record {
      gathers =
          subst (λ (e : Ending). Ends (id_of node) (known_of node) Is (waiting_in c.take_next.new.group.answers.items) first (held_in c.take_next.new.chats.chats) (state_of node) (state_of c.take_next.new.node) (memory_of node) (memory_of c.take_next.new.node) (layout_of c.take_next.new.node) (HoldsOr g.D.Disk.seen g.D.Disk.may_leave c.take_next.new.node) e) c.in-More-2.is
          (tried_as (id_of node) (known_of node) Is _ _ c.frames.invariant.id c.frames.invariant.known (waiting_in c.frames.group.answers.items) (waiting_in c.take_next.new.group.answers.items) first (held_in c.frames.chats.chats) (held_in c.take_next.new.chats.chats)
          (state_of node) (state_of c.frames.node) (state_of c.take_next.new.node) (memory_of node) (memory_of c.frames.node) (memory_of c.take_next.new.node) (layout_of c.take_next.new.node) (HoldsOr g.D.Disk.seen g.D.Disk.may_leave c.frames.node) (HoldsOr g.D.Disk.seen g.D.Disk.may_leave c.take_next.new.node)
          c.frames.invariant.gathers c.in_ok-ending-2.ending c.in_ok-ending-2.ensures.tries);
      few = omega (arith, few, c.frames.invariant.few);
      id = c.in_ok-ending-2.ensures.rest.0 ∙ c.frames.invariant.id;
      known = c.in_ok-ending-2.ensures.rest.1 ∙ c.frames.invariant.known;
      blank = c.in_ok-ending-2.ensures.rest.2;
      works = c.in_ok-ending-2.ensures.works;
      itself = c.in_ok-ending-2.ensures.itself ∙ c.frames.invariant.itself;
      disk = c.in_ok-ending-2.ensures.disk_counts ∙ c.frames.invariant.disk;
    }
