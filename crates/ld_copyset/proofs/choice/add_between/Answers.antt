use Rattle.std.proofs.Common.{◌≡◌, ◌∙◌, sym, arith, true, false, get_or}
use Rattle.std.specs.Prelude.{Some, slice_get}
use Rattle.std.proofs.lemmas.Option.{slice_get-get_or}
use Rattle.ld_table.specs.Words.{is_in}
use Rattle.ld_ids.specs.Set.{members}
use Rattle.ld_copyset.proofs.Rings.{taken_in, passed_over, next_is_new}
use Rattle.ld_copyset.proofs.choice.add_between.Goals as goal
use Rattle.ld_copyset.proofs.choice.add_between.Goals.{in-Some+then-not-has, in-Some+else-not-has, in_default}

pub push-requires : goal.push-requires
push-requires c =
    let there : slice_get (members c.args.set.now) c.places.place ≡ Some c.in-Some.node = sym c.nth.ensures.node ∙ c.in-Some.is in
    let stays : is_in c.in-Some.node (members c.args.excluded.now) ≡ false = sym c.has.ensures.member ∙ c.if-not-has.true in
    next_is_new c.places.left c.args.left.now (members c.args.excluded.now) (members c.args.set.now) c.args.from c.args.to c.places.place c.in-Some.node
    c.requires.distinct (omega arith) (omega arith) there stays c.places.invariant

pub places-preserved : goal.places-preserved
places-preserved c =
    let nodes = members c.args.set.now in
    let excluded = members c.args.excluded.now in
    let from = c.args.from in
    let place = c.places.place in
    elim c.match-nth.branch [
      | in-Some+then-not-has w ↦
          let there : slice_get nodes place ≡ Some w.in-Some.node = sym c.nth.ensures.node ∙ w.in-Some.is in
          let stays : is_in w.in-Some.node excluded ≡ false = sym w.has.ensures.member ∙ w.if-not-has.true in
          w.left-is ∙ w.push.ensures ∙ taken_in c.places.left c.args.left.now excluded nodes from place w.in-Some.node (omega arith) there stays c.places.invariant
      | in-Some+else-not-has w ↦
          let there : slice_get nodes place ≡ Some w.in-Some.node = sym c.nth.ensures.node ∙ w.in-Some.is in
          let gone : is_in w.in-Some.node excluded ≡ true = sym w.has.ensures.member ∙ w.if-not-has.false in
          w.left-is ∙ passed_over c.places.left c.args.left.now excluded nodes from place w.in-Some.node (omega arith) there gone c.places.invariant
      | in_default w ↦ absurd (w.in_default.not-Some (get_or nodes place 0) (c.nth.ensures.node ∙ slice_get-get_or nodes place 0 (omega arith)))
    ]
