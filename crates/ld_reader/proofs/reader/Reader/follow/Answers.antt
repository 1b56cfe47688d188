use Rattle.std.proofs.Common.{◌≡◌, arith, sym, refl, true, false}
use Rattle.std.proofs.lemmas.Grind.{common_steps}
use Rattle.ld_lsn.specs.Number.{home_epoch}
use Rattle.ld_reader.specs.Course.{lasting, on_course}
use Rattle.ld_reader.specs.Following.{read_so_far}
use Rattle.ld_reader.specs.Looks.{looks_of}
use Rattle.ld_reader.specs.Rounds.{begins}
use Rattle.ld_reader.proofs.Answering.{came_to, came_left, rounds_left, unbegun_so, begun_so, begun_later}
use Rattle.ld_reader.proofs.Looking.{with_made, are_made, was_made, one_look, at_one, are_one, made_behind}
use Rattle.ld_reader.proofs.reader.Reader.follow.Goals as goal

pub returns-then-not-begins-clause-exact : goal.returns-then-not-begins-clause-exact
returns-then-not-begins-clause-exact g c = λ d t m.
    let f = c.args.self.now in
    let h = lasting c.args.lasts f.reader in
    let way = came_to f.reader h c.in_ok-course.course c.give_all.new.course c.in_ok-ending.ending refl c.in_ok-course.ensures.reader c.in_ok-course.ensures.items c.in_ok-ending.ensures.reader c.in_ok-ending.ensures.items c.in_ok-ending.ensures.ending in
    let none : begins c.in_ok-ending.ending (read_so_far (on_course f.reader c.give_all.new.course) c.give_all.new.course.items) ≡ false = grind (arith, common_steps) in
    (unbegun_so (looks_of f d) f c.settle.new.self h c.give_all.new.course c.in_ok-ending.ending c.args.out.now c.in_ok-course.ensures.next way none c.settle.ensures, t)

pub returns-then-not-begins-clause-held : goal.returns-then-not-begins-clause-held
returns-then-not-begins-clause-held g c = λ d t m.
    let f = c.args.self.now in
    let h = lasting c.args.lasts f.reader in
    let way = came_to f.reader h c.in_ok-course.course c.give_all.new.course c.in_ok-ending.ending refl c.in_ok-course.ensures.reader c.in_ok-course.ensures.items c.in_ok-ending.ensures.reader c.in_ok-ending.ensures.items c.in_ok-ending.ensures.ending in
    let none : begins c.in_ok-ending.ending (read_so_far (on_course f.reader c.give_all.new.course) c.give_all.new.course.items) ≡ false = grind (arith, common_steps) in
    (unbegun_so (looks_of f d) f c.settle.new.self h c.give_all.new.course c.in_ok-ending.ending c.args.out.now c.in_ok-course.ensures.next way none c.settle.ensures, t)

pub returns-then-not-begins-clause-acted : goal.returns-then-not-begins-clause-acted
returns-then-not-begins-clause-acted g c = λ w.
    let f = c.args.self.now in
    let h = lasting c.args.lasts f.reader in
    let way = came_to f.reader h c.in_ok-course.course c.give_all.new.course c.in_ok-ending.ending refl c.in_ok-course.ensures.reader c.in_ok-course.ensures.items c.in_ok-ending.ensures.reader c.in_ok-ending.ensures.items c.in_ok-ending.ensures.ending in
    let none : begins c.in_ok-ending.ending (read_so_far (on_course f.reader c.give_all.new.course) c.give_all.new.course.items) ≡ false = grind (arith, common_steps) in
    let l = with_made f c.args.made.now in
    (l, are_made f c.args.made.now w, was_made f c.args.made.now, unbegun_so l f c.settle.new.self h c.give_all.new.course c.in_ok-ending.ending c.args.out.now c.in_ok-course.ensures.next way none c.settle.ensures)

pub begin-requires-clause-round : goal.begin-requires-clause-round
begin-requires-clause-round g c =
    let f = c.args.self.now in
    let h = lasting c.args.lasts f.reader in
    let way = came_to f.reader h c.in_ok-course.course c.give_all.new.course c.in_ok-ending.ending refl c.in_ok-course.ensures.reader c.in_ok-course.ensures.items c.in_ok-ending.ensures.reader c.in_ok-ending.ensures.items c.in_ok-ending.ensures.ending in
    let some : begins c.in_ok-ending.ending (read_so_far (on_course f.reader c.give_all.new.course) c.give_all.new.course.items) ≡ true = grind (arith, common_steps) in
    let left = came_left f.reader h c.give_all.new.course c.in_ok-ending.ending way some in
    let two = rounds_left f.reader c.in_ok-seen.seen c.is_empty.result c.in_ok-ending.ending left.round in
    grind (arith, common_steps)

pub returns-clause-exact : goal.returns-clause-exact
returns-clause-exact g c = λ d t m.
    let f = c.args.self.now in
    let h = lasting c.args.lasts f.reader in
    let way = came_to f.reader h c.in_ok-course.course c.give_all.new.course c.in_ok-ending.ending refl c.in_ok-course.ensures.reader c.in_ok-course.ensures.items c.in_ok-ending.ensures.reader c.in_ok-ending.ensures.items c.in_ok-ending.ensures.ending in
    let some : begins c.in_ok-ending.ending (read_so_far (on_course f.reader c.give_all.new.course) c.give_all.new.course.items) ≡ true = grind (arith, common_steps) in
    let s = c.in_ok-seen.ensures.exact d t m in
    (begun_so (looks_of f d) c.in_ok-seen.seen f c.begin.new.self h c.give_all.new.course c.in_ok-ending.ending c.round_after-round.result c.args.out.now c.begin.new.out c.in_ok-course.ensures.next way some (sym s.0) (grind (arith, common_steps)) c.in_ok-begin.ensures.reader c.in_ok-begin.ensures.sent, s.1)

pub returns-clause-held : goal.returns-clause-held
returns-clause-held g c = λ d t m.
    let f = c.args.self.now in
    let h = lasting c.args.lasts f.reader in
    let way = came_to f.reader h c.in_ok-course.course c.give_all.new.course c.in_ok-ending.ending refl c.in_ok-course.ensures.reader c.in_ok-course.ensures.items c.in_ok-ending.ensures.reader c.in_ok-ending.ensures.items c.in_ok-ending.ensures.ending in
    let some : begins c.in_ok-ending.ending (read_so_far (on_course f.reader c.give_all.new.course) c.give_all.new.course.items) ≡ true = grind (arith, common_steps) in
    let s = c.in_ok-seen.ensures.held d t m in
    (begun_so (looks_of f d) c.in_ok-seen.seen f c.begin.new.self h c.give_all.new.course c.in_ok-ending.ending c.round_after-round.result c.args.out.now c.begin.new.out c.in_ok-course.ensures.next way some (sym s.0) (grind (arith, common_steps)) c.in_ok-begin.ensures.reader c.in_ok-begin.ensures.sent, s.1)

pub returns-clause-acted : goal.returns-clause-acted
returns-clause-acted g c = λ w.
    let f = c.args.self.now in
    let h = lasting c.args.lasts f.reader in
    let way = came_to f.reader h c.in_ok-course.course c.give_all.new.course c.in_ok-ending.ending refl c.in_ok-course.ensures.reader c.in_ok-course.ensures.items c.in_ok-ending.ensures.reader c.in_ok-ending.ensures.items c.in_ok-ending.ensures.ending in
    let some : begins c.in_ok-ending.ending (read_so_far (on_course f.reader c.give_all.new.course) c.give_all.new.course.items) ≡ true = grind (arith, common_steps) in
    let v = c.in_ok-seen.seen in
    let e = home_epoch c.give_all.new.course.place.next in
    let base = with_made f c.args.made.now in
    let l = one_look base e v in (
      l,
      are_one f base e v (are_made f c.args.made.now w) (c.in_ok-seen.ensures.shown w),
      made_behind f c.args.made.now e v (λ x q a. c.in_ok-seen.ensures.again x q a),
      begun_so l c.in_ok-seen.seen f c.begin.new.self h c.give_all.new.course c.in_ok-ending.ending c.round_after-round.result c.args.out.now c.begin.new.out c.in_ok-course.ensures.next way some (at_one base e v) (grind (arith, common_steps)) c.in_ok-begin.ensures.reader c.in_ok-begin.ensures.sent,
    )

pub returns-in_err-seen-clause-due : goal.returns-in_err-seen-clause-due
returns-in_err-seen-clause-due g c = λ fault e l.
    let f = c.args.self.now in
    let h = lasting c.args.lasts f.reader in
    let way = came_to f.reader h c.in_ok-course.course c.give_all.new.course c.in_ok-ending.ending refl c.in_ok-course.ensures.reader c.in_ok-course.ensures.items c.in_ok-ending.ensures.reader c.in_ok-ending.ensures.items c.in_ok-ending.ensures.ending in
    let some : begins c.in_ok-ending.ending (read_so_far (on_course f.reader c.give_all.new.course) c.give_all.new.course.items) ≡ true = grind (arith, common_steps) in
    begun_later l f h c.give_all.new.course c.in_ok-ending.ending c.in_ok-course.ensures.next way some
